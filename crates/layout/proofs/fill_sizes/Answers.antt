-- `layout::fill_sizes` meets its contract. The loop keeps: the sizes of the nodes below k stand in the table (`SizeLaws.SizedTo`).
-- Assumes nothing.
use Rattle.rule.proofs.NodeLaws.{node_at_lem}
use Rattle.sets.specs.Sets.{set_of}
use Rattle.spec.specs.Weaver.{size_from}
use lib.ListN.{length, get_or}
use mathlib.Core.Bool.{cond}
use mathlib.Core.Path.{◌∙◌, ap, sym}
use Prim.Native.Nat.{◌<◌}
use native.Mathlib.Omega.{arith}
use Rattle.rule.specs.Nodes.{table_in}
use Rattle.layout.proofs.SizeLaws.{own_at, size_at, sized_next, nodes_few, own_few}
use Rattle.layout.proofs.fill_sizes.Goals as goal

pub mention_size-requires : goal.mention_size-requires
mention_size-requires c =
    let rule = c.args.rule.now in
    let e = c.read_node.ensures.node ∙ sym (node_at_lem rule c.loop-k.k) in
    let same = ap (λ x. size_from (λ j. get_or c.loop-k.sizes j 0) x 0) e in
    let size = own_at rule c.loop-k.sizes c.loop-k.k c.requires.0 c.loop-k.invariant in
    let few = own_few rule c.requires.0 c.loop-k.k c.loop-k-test.true in
    (omega arith, c.read_node.ensures.small, omega arith)

pub bounds-sizes-k : goal.bounds-sizes-k
bounds-sizes-k c = omega (arith, nodes_few c.args.rule.now c.requires.0)

pub loop-k-preserved : goal.loop-k-preserved
loop-k-preserved c =
    let rule = c.args.rule.now in
    let inside : c.loop-k.k < length c.loop-k.sizes = omega (arith, nodes_few rule c.requires.0) in
    let e = c.read_node.ensures.node ∙ sym (node_at_lem rule c.loop-k.k) in
    let size = c.mention_size.ensures ∙ ap (λ x. cond (set_of c.args.shared c.loop-k.k) 2 (size_from (λ j. get_or c.loop-k.sizes j 0) x 0)) e
    ∙ size_at rule c.loop-k.sizes c.loop-k.k _ c.requires.0 c.loop-k.invariant c.requires.1 in
    sized_next (table_in rule) c.loop-k.sizes c.loop-k.k c.mention_size.result inside size c.loop-k.invariant
