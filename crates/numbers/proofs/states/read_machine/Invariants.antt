-- `numbers::states::read_machine` meets its contract. The loop keeps: the first i registers are those of the words. Assumes nothing.
use mathlib.Core.Path.{◌≡◌}
use lib.ListN.{length, take, drop}
use Rattle.numbers.proofs.states.read_machine.Given as goal

abbrev pub invariant-loop-i : goal.invariant-loop-i
invariant-loop-i l = (length l.register-items ≡ 16) × (take l.i l.register-items ≡ take l.i (drop 5 l.state))
