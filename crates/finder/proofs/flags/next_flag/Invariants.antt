-- `finder::flags::next_flag` meets its contract. The loop keeps: no line before 64 * i + from has a flag (`FlagLaws.Looking`). Assumes nothing.
use Prim.Native.Nat.{◌+◌, ◌*◌, ◌<◌}
use Rattle.finder.proofs.FlagLaws.{Looking}
use Rattle.finder.proofs.flags.next_flag.Given as goal

abbrev pub invariant-loop-i : goal.invariant-loop-i
invariant-loop-i l = record {
  low : l.from < 64;
  looked : Looking l.flags l.start l.lines (64 * l.i + l.from);
}
