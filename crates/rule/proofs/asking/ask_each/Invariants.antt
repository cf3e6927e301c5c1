-- `rule::asking::ask_each` meets its contract: every place below `place` passes. Assumes nothing.
use Rattle.std.proofs.Common.{ℕ, ◌<◌, true}
use Rattle.rule.proofs.asking.ask_each.Given as goal

abbrev pub invariant-loop-place : goal.invariant-loop-place
invariant-loop-place g l = (k : ℕ) → k < l.place → goal.F-post g l.passes k true
