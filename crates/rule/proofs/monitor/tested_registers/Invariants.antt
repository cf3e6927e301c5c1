-- `rule::monitor::tested_registers` meets its contract. The loop keeps: the set is that of the nodes below k. Assumes nothing.
use mathlib.Core.Path.{◌≡◌}
use Rattle.sets.specs.Sets.{set_of}
use Rattle.rule.specs.Nodes.{table_in}
use Rattle.rule.proofs.MonitorLaws.{read_of}
use Rattle.rule.proofs.monitor.tested_registers.Given as goal

abbrev pub invariant-loop-word : goal.invariant-loop-word
invariant-loop-word l = (set_of l.tested ≡ read_of l.word-index (table_in l.rule))
