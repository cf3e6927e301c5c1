-- `limits::monitor::evaluate` meets its contract (`MonitorLaws`); the nodes below k are as the definition has them. Assumes nothing.
use mathlib.Core.Path.{◌≡◌}
use Rattle.rule.specs.Nodes.{table_in}
use Rattle.limits.specs.Monitor.{cans_of, now_of, now_below}
use Rattle.limits.proofs.monitor.evaluate.Given as goal

abbrev pub invariant-loop-k : goal.invariant-loop-k
invariant-loop-k l = now_of l.m ≡ now_below l.k (table_in l.rule) l.low l.high (cans_of l.priors)
