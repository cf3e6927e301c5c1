-- `finder::search::sweep` meets its contract. The loop keeps: the lines with a flag before the next one were pushed (`Rows.Swept`). Assumes nothing.
use Prim.Native.Nat.{◌-◌, ◌<◌}
use Rattle.std.specs.Prelude.{IfSome}
use lib.ListN.{length}
use Rattle.finder.specs.Rows.{Swept}
use Rattle.finder.proofs.SearchLaws.{before}
use Rattle.finder.proofs.search.sweep.Given as goal

abbrev pub invariant-loop-next : goal.invariant-loop-next
invariant-loop-next l = record {
  is_line : IfSome l.next (λ at. at < length l.code);
  swept : Swept l.rule l.code l.initial.notes l.initial.flags l.notes l.flags l.again (before (length l.code) l.next);
}

abbrev pub decreases-loop-next : goal.decreases-loop-next
decreases-loop-next l = length l.code - before (length l.code) l.next
