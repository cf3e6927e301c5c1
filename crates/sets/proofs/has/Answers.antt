-- `sets::has` meets its contract (`WordLaws`). Assumes nothing.
use borrow.Author.Tests.{lt-ltb, le-ltb}
use Rattle.spec.specs.Check.{nodes_in}
use Rattle.sets.proofs.has.Goals as goal

pub returns-then-k-lt64 : goal.returns-then-k-lt64
unfolding nodes_in
returns-then-k-lt64 c = rw (lt-ltb _ _ c.if-k-lt64.true)

pub returns-else-k-lt64 : goal.returns-else-k-lt64
unfolding nodes_in
returns-else-k-lt64 c = rw (le-ltb _ _ c.if-k-lt64.false)
