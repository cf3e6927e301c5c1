-- `stations::turning::take_turn` meets its contract: passed over, or one step (`TurnLaws`). Assumes nothing.
use mathlib.Core.Path.{refl}
use Rattle.rule.specs.Nodes.{form_by}
use Rattle.machine.specs.Machines.{state_of}
use Rattle.stations.specs.Views.{station_of}
use Rattle.stations.proofs.TurnLaws.{taken_pass, taken_step}
use Rattle.stations.proofs.turning.take_turn.Goals as goal

pub returns-then-passed_over : goal.returns-then-passed_over
returns-then-passed_over g c =
    let a = c.args in
    λ lent. taken_pass (form_by g.W.Word.IS_WIDE) (station_of g.W.Word.numbers a.station lent) a.left (state_of a.m a.history.now) _ c.instruction_at-x.ensures
    _ c.passed_over.ensures c.if-passed_over.true _ _ refl refl refl

pub returns : goal.returns
returns g c =
    let a = c.args in
    λ lent. taken_step (form_by g.W.Word.IS_WIDE) (station_of g.W.Word.numbers a.station lent) a.left (state_of a.m a.history.now) _ c.instruction_at-x.ensures
    _ c.passed_over.ensures c.if-passed_over.false _ _ refl c.step.ensures c.left_after.ensures
