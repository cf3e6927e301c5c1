-- `in_second_form` of a word of the old form meets its contract: the rule has at most 32 nodes, and the words moved are the first. Assumes nothing.
use Prim.Native.Nat.{◌≤◌}
use native.Mathlib.Omega.{arith}
use lib.ListN.{length}
use Rattle.spec.specs.Rule.{form32}
use Rattle.rule.proofs.stored.U32Word.in_second_form.Goals as goal

pub widen_rule-requires : goal.widen_rule-requires
unfolding form32
widen_rule-requires c = let few : length c.args.rule.now ≤ 32 = c.requires in omega (arith, few, c.told-space)
