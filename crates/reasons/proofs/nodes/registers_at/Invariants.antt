-- `reasons::nodes::registers_at` meets its contract (`RegisterLaws`); the sets of the nodes below k are as the definition has them. Assumes nothing.
use mathlib.Core.Path.{◌≡◌}
use lib.ListN.{length}
use Rattle.rule.specs.Nodes.{table_in}
use Rattle.limits.specs.Monitor.{cans_of}
use Rattle.reasons.specs.Registers.{sets_in}
use Rattle.reasons.proofs.RegisterLaws.{FilledTo}
use Rattle.reasons.proofs.nodes.registers_at.Given as goal

abbrev pub invariant-loop-k : goal.invariant-loop-k
invariant-loop-k l = (length l.registers ≡ 64) × FilledTo (cans_of l.values) (cans_of l.priors) (sets_in l.earlier) (table_in l.rule) l.registers l.k
