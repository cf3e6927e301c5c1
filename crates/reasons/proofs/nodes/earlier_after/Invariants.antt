-- `reasons::nodes::earlier_after` meets its contract (`RegisterLaws`); the sets of the nodes below k are as the definition has them. Assumes nothing.
use mathlib.Core.Path.{◌≡◌}
use lib.ListN.{length}
use Rattle.rule.specs.Nodes.{table_in}
use Rattle.reasons.proofs.RegisterLaws.{MovedTo}
use Rattle.reasons.proofs.nodes.earlier_after.Given as goal

abbrev pub invariant-loop-k : goal.invariant-loop-k
invariant-loop-k l = (length l.earlier ≡ 64) × MovedTo (table_in l.rule) l.registers l.earlier l.k
