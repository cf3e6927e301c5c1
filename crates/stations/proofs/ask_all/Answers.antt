-- `stations::ask_all` meets its contract: the questions in turn (`AnswerLaws`). Assumes nothing.
use mathlib.Core.Path.{◌∙◌}
use Rattle.rule.proofs.AnswerLaws.{handed_on}
use Rattle.stations.proofs.AnswerLaws.{asked_no, asked_on}
use Rattle.stations.proofs.ask_all.Goals as goal

pub returns-in_err-check_stations : goal.returns-in_err-check_stations
returns-in_err-check_stations g c =
    λ lent. handed_on (λ u. tt) c.from_residual.result c.in_err-check_stations.field-0.0 c.from_residual.ensures.1
    ∙ asked_no _ _ _ _ (c.in_err-check_stations.ensures lent)

pub returns : goal.returns
returns g c = λ lent. asked_on _ _ (c.in_ok-check_stations.ensures lent) _ (c.ask_inputs.ensures lent)
