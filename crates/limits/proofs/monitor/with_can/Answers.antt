-- `limits::monitor::with_can` meets its contract (`MonitorLaws`). Assumes nothing.
use Rattle.limits.proofs.MonitorLaws.{joins}
use Rattle.limits.proofs.monitor.with_can.Goals as goal

pub returns : goal.returns
returns c = let a = c.args in joins a.s _ a.k a.x c.requires c.with_node_if.ensures c.with_node_if-2.ensures
