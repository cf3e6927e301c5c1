-- `limits::monitor::first_cans` meets its contract (`MonitorLaws`). Assumes nothing.
use Rattle.limits.proofs.MonitorLaws.{first_are}
use Rattle.limits.proofs.monitor.first_cans.Goals as goal

pub returns : goal.returns
returns c = first_are _ _ c.first_priors-yes.ensures c.difference.ensures
