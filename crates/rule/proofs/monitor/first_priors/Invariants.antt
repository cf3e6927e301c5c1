-- `rule::monitor::first_priors` meets its contract. The loop keeps: the set is that of the nodes below k. Assumes nothing.
use mathlib.Core.Path.{◌≡◌}
use Rattle.rule.specs.Nodes.{form_in}
use Rattle.spec.specs.Rule.{table_of}
use Rattle.sets.specs.Sets.{set_of}
use Rattle.rule.specs.Monitor.{first_below}
use Rattle.rule.proofs.monitor.first_priors.Given as goal

abbrev pub invariant-loop-k : goal.invariant-loop-k
invariant-loop-k l = (set_of l.priors ≡ first_below l.k (table_of form_in l.rule))
