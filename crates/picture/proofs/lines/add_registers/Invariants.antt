-- `picture::lines::add_registers` meets its contract: the registers below r are written. Assumes nothing.
use Prim.Native.Nat.{◌*◌}
use Rattle.sets.specs.Sets.{set_of}
use Rattle.print.specs.Written.{Filled, each_of}
use Rattle.picture.specs.Lines.{register_text}
use Rattle.picture.proofs.lines.add_registers.Given as goal

abbrev pub invariant-loop-r : goal.invariant-loop-r
invariant-loop-r l = Filled (4 * l.r) (each_of (register_text (set_of l.on)) l.r) l.at l.end l.initial.out l.out
