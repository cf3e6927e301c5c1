-- `stations::questions::check_stations` meets its contract: the first no, or the last answer (`AskLaws`). Assumes nothing.
use mathlib.Core.Path.{ap, ◌∙◌}
use Rattle.turns.specs.Stations.{at_station}
use Rattle.rule.proofs.AnswerLaws.{handed_on}
use Rattle.stations.proofs.AskLaws.{no_0, no_1, no_2, last_3}
use Rattle.stations.proofs.questions.check_stations.Goals as goal

pub returns-in_err-at_station : goal.returns-in_err-at_station
returns-in_err-at_station g c =
    λ lent. handed_on (λ u. tt) c.from_residual.result c.in_err-at_station.field-0.0 c.from_residual.ensures.1
    ∙ no_0 _ _ _ _ (c.in_err-at_station.ensures ∙ ap (at_station 0) c.check_script.ensures)

pub returns-in_err-at_station-2 : goal.returns-in_err-at_station-2
returns-in_err-at_station-2 g c =
    λ lent. handed_on (λ u. tt) c.from_residual-in_err-at_station-2.result c.in_err-at_station-2.field-0.0 c.from_residual-in_err-at_station-2.ensures.1
    ∙ no_1 _ _ (c.in_ok-at_station.ensures ∙ ap (at_station 0) c.check_script.ensures) _ _ (c.in_err-at_station-2.ensures ∙ ap (at_station 1) c.check_script-2.ensures)

pub returns-in_err-at_station-3 : goal.returns-in_err-at_station-3
returns-in_err-at_station-3 g c =
    λ lent. handed_on (λ u. tt) c.from_residual-in_err-at_station-3.result c.in_err-at_station-3.field-0.0 c.from_residual-in_err-at_station-3.ensures.1
    ∙ no_2 _ _ (c.in_ok-at_station.ensures ∙ ap (at_station 0) c.check_script.ensures) (c.in_ok-at_station-2.ensures ∙ ap (at_station 1) c.check_script-2.ensures) _ _ (c.in_err-at_station-3.ensures ∙ ap (at_station 2) c.check_script-3.ensures)

pub returns : goal.returns
returns g c =
    λ lent. last_3 _ _ (c.in_ok-at_station.ensures ∙ ap (at_station 0) c.check_script.ensures) (c.in_ok-at_station-2.ensures ∙ ap (at_station 1) c.check_script-2.ensures) (c.in_ok-at_station-3.ensures ∙ ap (at_station 2) c.check_script-3.ensures) _
    (c.at_station-4.ensures ∙ ap (at_station 3) c.check_script-4.ensures)
