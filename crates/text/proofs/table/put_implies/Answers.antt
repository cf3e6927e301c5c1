-- `text::table::put_implies` meets its contract: by `HoldLaws`. Assumes nothing.
use native.Mathlib.Omega.{arith}
use Rattle.text.proofs.HoldLaws.{holds_implies}
use Rattle.text.proofs.table.put_implies.Goals as goal

pub put_node-requires : goal.put_node-requires
put_node-requires c =
    let p = c.requires in
    let right = c.saturating_sub-right.ensures in
    (p.0, p.1, (omega arith, omega arith))

pub returns : goal.returns
returns c =
    let a = c.args in
    let p = c.requires in
    holds_implies a.table.now c.put_node.new.table a.n c.put_node.result a.left _ p.0 p.1 c.saturating_sub-right.ensures c.put_node.ensures
