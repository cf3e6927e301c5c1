-- `text::stack::unwind` meets its contract: what ends on the way comes to the same (`UnwindLaws.Unwinding`). The number of words falls. Assumes nothing.
use Rattle.grammar.specs.Reading.{rank}
use Rattle.text.proofs.UnwindLaws.{Unwinding}
use Rattle.text.proofs.stack.unwind.Given as goal

abbrev pub invariant-loop-t : goal.invariant-loop-t
invariant-loop-t l = Unwinding l.stack l.top l.initial.table l.count (rank l.depth l.level) l.t l.table l.n

abbrev pub decreases-loop-t : goal.decreases-loop-t
decreases-loop-t l = l.t
