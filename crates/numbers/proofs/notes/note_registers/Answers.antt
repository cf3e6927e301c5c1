-- `numbers::notes::note_registers` meets its contract. The loop keeps: the first i registers stand in the lent words. Assumes nothing.
use native.Mathlib.Omega.{arith}
use Rattle.std.proofs.lemmas.List.Edits.{paste_more}
use Rattle.numbers.proofs.notes.note_registers.Goals as goal

pub loop-i-preserved : goal.loop-i-preserved
loop-i-preserved c =
    let a = c.args in
    rw (c.loop-i.invariant, c.from.ensures) (paste_more a.numbers.now a.at a.registers c.loop-i.i 0 (omega arith) (omega arith))
