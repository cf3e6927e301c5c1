-- `layout::block_size` meets its contract. The loop keeps: the lines of the nodes below k are counted (`SizeLaws.counted_to`). Assumes nothing.
use mathlib.Core.Path.{◌≡◌, ap, ◌∙◌}
use Prim.Native.Nat.{◌+◌, ◌-◌}
use lib.ListN.{length, get_or}
use native.Mathlib.Omega.{arith}
use Rattle.rule.specs.Nodes.{table_in, form_in}
use Rattle.spec.specs.Rule.{last_node}
use Rattle.spec.specs.Weaver.{decide_size}
use Rattle.spec.proofs.RuleLaws.{length_table, rule_out}
use Rattle.layout.proofs.SizeLaws.{counted_to, counted_none, counted_next, counted_all, counted_few, nodes_few, last_few}
use Rattle.layout.proofs.block_size.Goals as goal

pub loop-k-init : goal.loop-k-init
loop-k-init c = counted_none (table_in c.args.rule.now)

pub overflow_add-lines : goal.overflow_add-lines
overflow_add-lines c = let rule = c.args.rule.now in
    let inside = c.loop-k-test.true in
    omega (
      arith,
      counted_few rule c.requires.0.0 (c.loop-k.k + 1) (omega arith),
      counted_next (table_in rule) c.loop-k.k c.loop-k.lines _ c.node_lines-lines.ensures c.loop-k.invariant,
    )

pub loop-k-preserved : goal.loop-k-preserved
loop-k-preserved c = counted_next (table_in c.args.rule.now) c.loop-k.k c.loop-k.lines _ c.node_lines-lines.ensures c.loop-k.invariant

pub overflow_sub-result : goal.overflow_sub-result
overflow_sub-result c = omega (arith, (rule_out form_in c.args.rule.now c.requires.0.0).some_node)

pub bounds-sizes-rule : goal.bounds-sizes-rule
bounds-sizes-rule c = omega (arith, (rule_out form_in c.args.rule.now c.requires.0.0).some_node, nodes_few c.args.rule.now c.requires.0.0)

pub overflow_add-result : goal.overflow_add-result
overflow_add-result c = let rule = c.args.rule.now in
    omega (arith, last_few rule c.args.sizes.now c.requires.0, counted_few rule c.requires.0.0 c.loop-k.k (omega arith))

pub overflow_add-result-2 : goal.overflow_add-result-2
overflow_add-result-2 c = let rule = c.args.rule.now in
    omega (arith, last_few rule c.args.sizes.now c.requires.0, counted_few rule c.requires.0.0 c.loop-k.k (omega arith))

pub returns : goal.returns
returns c = let rule = c.args.rule.now in
    let e = (rule_out form_in rule c.requires.0.0).some_node in
    let n = length_table form_in rule in
    let k : c.loop-k.k ≡ length (table_in rule) = omega arith in
    let size : get_or c.args.sizes.now (length rule - 1) 0 ≡ decide_size (table_in rule) (last_node (table_in rule)) =
    c.requires.0.1 (length rule - 1) (omega arith) ∙ ap (decide_size (table_in rule)) (omega arith) in
    omega (arith, c.loop-k.invariant ∙ ap (counted_to (table_in rule)) k, counted_all (table_in rule))
