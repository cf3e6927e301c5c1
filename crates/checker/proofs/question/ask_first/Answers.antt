-- `checker::question::ask_first` meets its contract: one test. Assumes nothing.
use mathlib.Core.Path.{sym, ◌∙◌}
use Rattle.spec.specs.Check.{question9}
use Rattle.spec.proofs.QuestionLaws.{once_in, once_no}
use Rattle.checker.proofs.PassLaws.{few_nodes}
use Rattle.checker.proofs.AskLaws.{some_line, among_at}
use Rattle.checker.proofs.question.ask_first.Goals as goal

pub read_facts-requires : goal.read_facts-requires
read_facts-requires g c = some_line c.args.rule.now g.W.Word.IS_WIDE (g.W.Word.numbers c.args.script.now) c.requires.0

pub first_facts-requires : goal.first_facts-requires
first_facts-requires g c = few_nodes c.args.rule.now c.requires.0.0

pub returns-then-not-is_among : goal.returns-then-not-is_among
unfolding question9
returns-then-not-is_among g c = let e = c.is_among.ensures ∙ among_at c.args.rule.now g.W.Word.IS_WIDE (g.W.Word.numbers c.args.script.now) c.requires 0 (some_line c.args.rule.now g.W.Word.IS_WIDE (g.W.Word.numbers c.args.script.now) c.requires.0) _ _ _ c.read_facts.ensures c.first_facts.ensures in
    sym (once_no 9 _ (sym e ∙ c.if-not-is_among.true))

pub returns : goal.returns
unfolding question9
returns g c = let e = c.is_among.ensures ∙ among_at c.args.rule.now g.W.Word.IS_WIDE (g.W.Word.numbers c.args.script.now) c.requires 0 (some_line c.args.rule.now g.W.Word.IS_WIDE (g.W.Word.numbers c.args.script.now) c.requires.0) _ _ _ c.read_facts.ensures c.first_facts.ensures in
    sym (once_in 9 _ (sym e ∙ c.if-not-is_among.false))
