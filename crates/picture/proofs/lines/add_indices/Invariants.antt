-- `picture::lines::add_indices` meets its contract (`LineLaws`): the lines below i are written. Assumes nothing.
use Prim.Native.Nat.{◌*◌}
use Rattle.print.specs.Written.{Filled, each_of}
use Rattle.picture.proofs.LineLaws.{line_at}
use Rattle.picture.proofs.lines.add_indices.Given as goal

abbrev pub invariant-loop-i : goal.invariant-loop-i
invariant-loop-i l = Filled (74 * l.i) (each_of (line_at l.answers l.sets) l.i) l.at l.end l.initial.out l.out
