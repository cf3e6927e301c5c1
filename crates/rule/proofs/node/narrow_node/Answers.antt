-- `rule::node::narrow_node` meets its contract: the fields, each at its place. Assumes nothing.
use Rattle.spec.specs.Rule.{form32, form64}
use Rattle.moves.specs.Moves.{narrow_node}
use Rattle.rule.proofs.EitherLaws.{upper_fields}
use native.Mathlib.Omega.{arith}
use Rattle.rule.proofs.node.narrow_node.Goals as goal

pub returns : goal.returns
unfolding narrow_node form32 form64
returns c = let l = c.requires.left_small in let r = c.requires.right_small in let z = c.requires.spare_zero in let u = upper_fields c.args.word (omega arith) in omega arith
