-- `text::table::put_not` meets its contract, by `HoldLaws`. Assumes nothing.
use native.Mathlib.Omega.{arith}
use Rattle.spec.specs.Rule.{false_node}
use Rattle.text.proofs.HoldLaws.{holds_not, count_put}
use Rattle.text.proofs.table.put_not.Goals as goal

pub put_implies-requires : goal.put_implies-requires
put_implies-requires c =
    let n = c.put_false-a.ensures in
    let k = count_put c.args.table.now _ c.args.n _ (omega (arith, c.requires.0)) c.requires.1 false_node n in
    (omega (arith, k, c.requires.0), n.long, omega (arith, c.saturating_sub.ensures, c.requires.0))

pub returns : goal.returns
returns c =
    holds_not c.args.table.now _ _ c.args.n _ _ c.saturating_sub.result (omega (arith, c.requires.0)) c.requires.1
    c.saturating_sub.ensures c.put_false-a.ensures c.put_implies.ensures
