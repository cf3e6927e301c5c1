-- `report::mark::add_shown` meets its contract: the bytes before i are shown. Assumes nothing.
use Prim.Native.Nat.{◌+◌}
use lib.ListN.{take}
use Rattle.print.specs.Written.{Added}
use Rattle.report.proofs.MarkLaws.{shown}
use Rattle.report.proofs.mark.add_shown.Given as goal

abbrev pub invariant-loop-i : goal.invariant-loop-i
invariant-loop-i l = Added (take l.i (shown l.text l.from l.n)) l.at (l.at + l.i) l.initial.out l.out
