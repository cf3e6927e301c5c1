-- `rule::node::widen_node` meets its contract: the fields, each at its place. Assumes nothing.
use Rattle.spec.specs.Rule.{form32, form64}
use Rattle.moves.specs.Moves.{widen_node}
use native.Mathlib.Omega.{arith}
use Rattle.rule.proofs.node.widen_node.Goals as goal

pub returns : goal.returns
unfolding widen_node form32 form64
returns c = omega arith
