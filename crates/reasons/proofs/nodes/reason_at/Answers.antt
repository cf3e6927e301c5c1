-- `reasons::nodes::reason_at` meets its contract. Assumes nothing.
use mathlib.Core.Bool.{true, false}
use Rattle.reasons.specs.Registers.{sets_in}
use Rattle.intervals.specs.Limits.{open_if}
use Rattle.reasons.proofs.nodes.reason_at.Goals as goal

pub returns : goal.returns
returns c = let a = c.args in let e = c.can_at-can.ensures in λ i. record { truth = open_if (e i true) (e i false); registers = sets_in a.registers.now a.k }
