-- `checker::question::ask_belonging` meets its contract: question 8 is put to every line (`AskLaws`). Assumes nothing.
use Rattle.std.proofs.Common.{rules, arith, ◌≡◌, ◌∙◌, ◌/◌, ◌<◌, refl, sym, ap, ℕ, Bool, length}
use Rattle.spec.specs.Questions.{ask}
use Rattle.spec.specs.Facts.{among_below}
use Rattle.spec.specs.Check.{facts_belong, question8}
use Rattle.sets.specs.Sets.{capacity}
use Rattle.rule.specs.Nodes.{form_by}
use Rattle.script.specs.Lines.{line_in}
use Rattle.facts.specs.FactSets.{facts_of}
use Rattle.checker.proofs.AskLaws.{asked_lines, belong_at}
use Rattle.checker.proofs.question.ask_belonging.Goals as goal

pub returns : goal.returns
unfolding question8
returns g c = let a = c.args in λ t m.
    let ok : ℕ → Bool = λ l. facts_belong (form_by g.W.Word.IS_WIDE) t (line_in g.W.Word.IS_WIDE (g.W.Word.numbers a.script.now) l) in
    let put = c.ask_each.ensures ok (λ l yes h p.
    let i : l < length (g.W.Word.numbers a.script.now) / 8 = omega (arith, c.count_lines.ensures) in
    let e : yes ≡ among_below capacity (line_in g.W.Word.IS_WIDE (g.W.Word.numbers a.script.now) l).annotation (facts_of a.most) = search rules in
    sym (e ∙ belong_at g.W.Word.IS_WIDE (g.W.Word.numbers a.script.now) l i t _ _ refl m)) in
    put ∙ ap (λ n. ask 8 n ok) c.count_lines.ensures ∙ asked_lines g.W.Word.IS_WIDE (g.W.Word.numbers a.script.now) 8 ok
