-- `text::scan::ask_grammar` meets its contract: the scan has come to the place (`TurnLaws.Turning`). What is left of the text falls.
-- Assumes nothing.
use Prim.Native.Nat.{◌-◌}
use lib.ListN.{length}
use Rattle.text.proofs.TurnLaws.{Turning}
use Rattle.text.proofs.scan.ask_grammar.Given as goal

abbrev pub invariant-loop-at : goal.invariant-loop-at
invariant-loop-at l = Turning l.text l.s l.at

abbrev pub decreases-loop-at : goal.decreases-loop-at
decreases-loop-at l = length l.text - l.at
