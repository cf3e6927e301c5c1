-- `text::table::put_weak` meets its contract: by `HoldLaws`. Assumes nothing.
use native.Mathlib.Omega.{arith}
use Rattle.text.proofs.HoldLaws.{holds_weak}
use Rattle.text.proofs.table.put_weak.Goals as goal

pub put_node-requires : goal.put_node-requires
put_node-requires c =
    let p = c.requires in
    let last = c.saturating_sub.ensures in
    (p.0, p.1, omega arith)

pub returns : goal.returns
returns c =
    let a = c.args in
    let p = c.requires in
    holds_weak a.table.now c.put_node.new.table a.n c.put_node.result 0 _ p.0 p.1 c.saturating_sub.ensures c.put_node.ensures
