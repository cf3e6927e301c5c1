-- `limits::question::ask_values` meets its contract. Assumes nothing.
use mathlib.Core.Path.{sym, ◌∙◌}
use Rattle.spec.proofs.QuestionLaws.{first_no, go_on}
use Rattle.rule.proofs.AnswerLaws.{handed_on}
use Rattle.limits.specs.Questions.{check_values}
use Rattle.limits.proofs.question.ask_values.Goals as goal

pub returns-in_err-ask_numbers : goal.returns-in_err-ask_numbers
unfolding check_values
returns-in_err-ask_numbers c =
    let no = handed_on (λ u. tt) c.from_residual.result c.in_err-ask_numbers.field-0.0 c.from_residual.ensures.1 in
    first_no _ _ _ _ _ no (no ∙ c.in_err-ask_numbers.ensures)

pub returns-in_err-ask_numbers-2 : goal.returns-in_err-ask_numbers-2
unfolding check_values
returns-in_err-ask_numbers-2 c =
    let no = handed_on (λ u. tt) c.from_residual-in_err-ask_numbers-2.result c.in_err-ask_numbers-2.field-0.0 c.from_residual-in_err-ask_numbers-2.ensures.1 in
    go_on _ _ _ (sym c.in_ok-ask_numbers.ensures) (first_no _ _ _ _ _ no (no ∙ c.in_err-ask_numbers-2.ensures))

pub returns : goal.returns
unfolding check_values
returns c = go_on _ _ _ (sym c.in_ok-ask_numbers.ensures) (go_on _ _ _ (sym c.in_ok-ask_numbers-2.ensures) c.ask_order.ensures)
