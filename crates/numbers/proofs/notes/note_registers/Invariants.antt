-- `numbers::notes::note_registers` meets its contract. The loop keeps: the first i registers stand in the lent words. Assumes nothing.
use mathlib.Core.Path.{◌≡◌}
use lib.Seq.{paste}
use Rattle.numbers.proofs.notes.note_registers.Given as goal

abbrev pub invariant-loop-i : goal.invariant-loop-i
invariant-loop-i l = l.numbers ≡ paste l.initial.numbers l.at l.register-items l.i
