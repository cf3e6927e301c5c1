-- `sets::has_node` meets its contract. Assumes nothing.
use borrow.Author.Tests.{lt-ltb}
use Rattle.spec.specs.Check.{nodes_in}
use Rattle.sets.proofs.has_node.Goals as goal

pub returns : goal.returns
unfolding nodes_in
returns c = rw (lt-ltb _ _ c.requires)
