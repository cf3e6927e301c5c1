-- `limits::monitor::equal_can` meets its contract (`MonitorLaws`). Assumes nothing.
use mathlib.Core.Path.{refl}
use Rattle.intervals.specs.Limits.{test_can}
use Rattle.limits.proofs.MonitorLaws.{both_sides}
use Rattle.limits.proofs.monitor.equal_can.Goals as goal

pub returns : goal.returns
unfolding test_can
returns c = both_sides refl refl
