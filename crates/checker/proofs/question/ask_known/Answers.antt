-- `checker::question::ask_known` meets its contract: question 10 is put to every line (`AskLaws`). Assumes nothing.
use Rattle.std.proofs.Common.{rules, ◌≡◌, ◌∙◌, sym, ap, ℕ, Bool}
use Rattle.spec.specs.Questions.{ask}
use Rattle.spec.specs.Check.{present_known, question10}
use Rattle.rule.specs.Nodes.{table_in}
use Rattle.script.specs.Lines.{line_in}
use Rattle.checker.proofs.AskLaws.{asked_lines}
use Rattle.checker.proofs.question.ask_known.Goals as goal

pub returns : goal.returns
unfolding question10
returns g c = let a = c.args in
    let ok : ℕ → Bool = λ l. present_known (table_in a.rule.now) (line_in g.W.Word.IS_WIDE (g.W.Word.numbers a.script.now) l) in
    let put = c.ask_each.ensures ok (λ l yes h p. let e : yes ≡ ok l = search rules in sym e) in
    put ∙ ap (λ n. ask 10 n ok) c.count_lines.ensures ∙ asked_lines g.W.Word.IS_WIDE (g.W.Word.numbers a.script.now) 10 ok
