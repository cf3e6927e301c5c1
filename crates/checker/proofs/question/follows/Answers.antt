-- `checker::question::follows` meets its contract: among the rule's nodes, since question 8 has a yes. Assumes nothing.
use Rattle.spec.specs.Script.{names_allowed}
use Rattle.spec.specs.Facts.{close, pass}
use Rattle.rule.specs.Nodes.{table_in}
use mathlib.Core.Path.{◌∙◌, ap}
use Rattle.facts.specs.FactSets.{facts_of}
use Rattle.script.proofs.LineLaws.{word_instruction}
use Rattle.checker.proofs.AskLaws.{line_names, among_at, closed_again, passed_is}
use Rattle.checker.proofs.question.follows.Goals as goal

pub pass_on-requires : goal.pass_on-requires
pass_on-requires g c =
    let a = c.args in
    let p = c.requires in
    (p.0.0.0, ap (names_allowed (table_in a.rule.now)) (word_instruction g.W.Word.IS_WIDE (g.W.Word.numbers a.script.now) a.l p.1.0 _ c.line_word.ensures) ∙ line_names a.rule.now g.W.Word.IS_WIDE (g.W.Word.numbers a.script.now) p.0.0 a.l p.1.0, closed_again a.rule.now g.W.Word.IS_WIDE (g.W.Word.numbers a.script.now) a.l p.1.0 p.0.0.0 (facts_of a.x) p.1)

pub returns : goal.returns
returns g c =
    let a = c.args in
    let p = c.requires in
    c.is_among.ensures
    ∙ among_at c.args.rule.now g.W.Word.IS_WIDE (g.W.Word.numbers c.args.script.now) p.0 a.to p.2 _ _ _ c.read_facts.ensures
    (c.pass_on.ensures ∙ ap (λ j. close (table_in a.rule.now) (pass (table_in a.rule.now) j a.taken (facts_of a.x))) (word_instruction g.W.Word.IS_WIDE (g.W.Word.numbers a.script.now) a.l p.1.0 _ c.line_word.ensures) ∙ passed_is c.args.rule.now g.W.Word.IS_WIDE (g.W.Word.numbers c.args.script.now) a.l p.1.0 (facts_of a.x) p.1 a.taken)
