-- `rule::monitor::evaluate` meets its contract. The loop keeps: what is worked out is that of the nodes below k. Assumes nothing.
use Prim.Native.Nat.{◌≤◌}
use mathlib.Core.Path.{◌≡◌}
use lib.ListN.{length}
use Rattle.rule.specs.Nodes.{form_in}
use Rattle.spec.specs.Rule.{table_of}
use Rattle.sets.specs.Sets.{set_of}
use Rattle.spec.specs.Monitor.{moment_below}
use Rattle.rule.specs.Monitor.{sets_of}
use Rattle.rule.proofs.monitor.evaluate.Given as goal

abbrev pub invariant-loop-k : goal.invariant-loop-k
invariant-loop-k l = (16 ≤ length l.state) × (length l.rule ≤ 64) × (sets_of l.m ≡ moment_below l.k (table_of form_in l.rule) l.state (set_of l.priors))
