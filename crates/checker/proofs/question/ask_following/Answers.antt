-- `checker::question::ask_following` meets its contract: question 11 is put to every line (`AskLaws`). Assumes nothing.
use Rattle.std.proofs.Common.{rules, ◌≡◌, ◌∙◌, sym, ap, ℕ, Bool}
use Rattle.spec.specs.Questions.{ask}
use Rattle.spec.specs.Check.{facts_follow, question11}
use Rattle.rule.specs.Nodes.{table_in}
use Rattle.script.specs.Lines.{lines_in}
use Rattle.checker.proofs.AskLaws.{asked_lines}
use Rattle.checker.proofs.question.ask_following.Goals as goal

pub returns : goal.returns
unfolding question11
returns g c = let a = c.args in
    let ok : ℕ → Bool = facts_follow (table_in a.rule.now) (lines_in g.W.Word.IS_WIDE (g.W.Word.numbers a.script.now)) in
    let put = c.ask_each.ensures ok (λ l yes h p. let e : yes ≡ ok l = search rules in sym e) in
    put ∙ ap (λ n. ask 11 n ok) c.count_lines.ensures ∙ asked_lines g.W.Word.IS_WIDE (g.W.Word.numbers a.script.now) 11 ok
