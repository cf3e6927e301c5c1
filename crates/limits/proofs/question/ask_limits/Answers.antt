-- `limits::question::ask_limits` meets its contract (`QuestionLaws`). Assumes nothing.
use mathlib.Core.Path.{sym, ◌∙◌}
use Rattle.spec.proofs.QuestionLaws.{first_no, go_on}
use Rattle.rule.specs.Nodes.{form_by}
use Rattle.rule.proofs.AnswerLaws.{handed_on}
use Rattle.limits.proofs.QuestionLaws.{lengths_same, limits_are}
use Rattle.limits.proofs.question.ask_limits.Goals as goal

pub returns-in_err-check_rule : goal.returns-in_err-check_rule
returns-in_err-check_rule g c = let a = c.args in
    let no = handed_on (λ u. tt) c.from_residual.result c.in_err-check_rule.field-0.0 c.from_residual.ensures.1 in
    first_no _ _ _ _ _ no (no ∙ c.in_err-check_rule.ensures) ∙ limits_are (form_by g.W.Word.IS_WIDE) (g.W.Word.numbers a.rule.now) a.lows.now a.highs.now a.out.now

pub returns-in_err-ask_lengths : goal.returns-in_err-ask_lengths
returns-in_err-ask_lengths g c = let a = c.args in
    let no = handed_on (λ u. tt) c.from_residual-in_err-ask_lengths.result c.in_err-ask_lengths.field-0.0 c.from_residual-in_err-ask_lengths.ensures.1 in
    go_on _ _ _ (sym c.in_ok-check_rule.ensures) (first_no _ _ _ _ _ no (no ∙ c.in_err-ask_lengths.ensures))
    ∙ limits_are (form_by g.W.Word.IS_WIDE) (g.W.Word.numbers a.rule.now) a.lows.now a.highs.now a.out.now

pub ask_values-requires : goal.ask_values-requires
ask_values-requires g c = let a = c.args in lengths_same a.lows.now a.highs.now a.out.now (sym c.in_ok-ask_lengths.ensures)

pub returns : goal.returns
returns g c = let a = c.args in
    go_on _ _ _ (sym c.in_ok-check_rule.ensures) (go_on _ _ _ (sym c.in_ok-ask_lengths.ensures) c.ask_values.ensures)
    ∙ limits_are (form_by g.W.Word.IS_WIDE) (g.W.Word.numbers a.rule.now) a.lows.now a.highs.now a.out.now
