-- `text::range::ask_range` meets its contract: the places passed start no number out of range (`InRangeLaws.Ranging`). Assumes nothing.
use Rattle.text.proofs.InRangeLaws.{Ranging}
use Rattle.text.proofs.range.ask_range.Given as goal

abbrev pub invariant-loop-i : goal.invariant-loop-i
invariant-loop-i l = Ranging l.text l.before l.i
