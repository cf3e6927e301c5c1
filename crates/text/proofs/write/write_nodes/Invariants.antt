-- `text::write::write_nodes` meets its contract: what is put and owed so far, and the tokens that are left, make the table
-- (`WritingLaws.Writing`). What is left of the text falls. Assumes nothing.
use Prim.Native.Nat.{◌-◌}
use lib.ListN.{length}
use Rattle.text.proofs.WritingLaws.{Writing}
use Rattle.text.proofs.write.write_nodes.Given as goal

abbrev pub invariant-loop-at : goal.invariant-loop-at
invariant-loop-at l = Writing l.text l.allowed l.stack l.table l.progress l.s l.total l.at

abbrev pub decreases-loop-at : goal.decreases-loop-at
decreases-loop-at l = length l.text - l.at
