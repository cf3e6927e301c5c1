-- `render::listing::list` meets its contract: what was loaded is the front of the buffers (`ListingLaws`). Assumes nothing.
use native.Mathlib.Omega.{arith}
use borrow.Author.Rules.{rules}
use Rattle.print.proofs.AddedLaws.{front_length}
use Rattle.render.proofs.ListingLaws.{loaded_few, listing_is, text_as}
use Rattle.render.proofs.listing.list.Goals as goal

pub overflow_add-nodes : goal.overflow_add-nodes
overflow_add-nodes c =
    let args = c.args in
    let few = loaded_few 32 args.bytes.now 0 c.load_counted-nodes.result _ _ c.load_counted-nodes.ensures in
    search rules

pub load_counted-lines-requires : goal.load_counted-lines-requires
load_counted-lines-requires c =
    let args = c.args in
    let few = loaded_few 32 args.bytes.now 0 c.load_counted-nodes.result _ _ c.load_counted-nodes.ensures in
    (omega arith, omega arith)

pub slice_bounds-rule-end : goal.slice_bounds-rule-end
slice_bounds-rule-end c =
    let args = c.args in
    let few = loaded_few 32 args.bytes.now 0 c.load_counted-nodes.result _ _ c.load_counted-nodes.ensures in
    let kept = c.load_counted-nodes.auto.out in
    omega arith

pub slice_bounds-list_woven-end : goal.slice_bounds-list_woven-end
slice_bounds-list_woven-end c =
    front_length _ c.load_counted-nodes.result _ _ c.load_counted-nodes.ensures

pub slice_bounds-bare-end : goal.slice_bounds-bare-end
slice_bounds-bare-end c =
    let args = c.args in
    let few = loaded_few 1024 args.bytes.now _ c.load_counted-lines.result _ _ c.load_counted-lines.ensures in
    let kept = c.load_counted-lines.auto.out in
    omega arith

pub slice_bounds-list_woven-end-2 : goal.slice_bounds-list_woven-end-2
slice_bounds-list_woven-end-2 c =
    front_length _ c.load_counted-lines.result _ _ c.load_counted-lines.ensures

pub returns : goal.returns
returns c =
    let args = c.args in
    text_as _ _ _ _ _ (listing_is args.bytes.now c.load_counted-nodes.result c.load_counted-lines.result _ _ _ _ c.load_counted-nodes.ensures c.load_counted-lines.ensures) c.list_woven.ensures
