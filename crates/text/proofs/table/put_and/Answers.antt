-- `text::table::put_and` meets its contract, by `HoldLaws`. Assumes nothing.
use native.Mathlib.Omega.{arith}
use Rattle.rule.specs.Nodes.{form_in}
use Rattle.text.specs.Building.{put_implies, put_not}
use Rattle.text.proofs.HoldLaws.{holds_after, count_implies, count_not}
use Rattle.text.proofs.table.put_and.Goals as goal

pub put_implies-b-requires : goal.put_implies-b-requires
put_implies-b-requires c =
    let h = c.put_not-a.ensures in
    let k = count_not c.args.table.now _ c.args.n _ (omega (arith, c.requires.0)) c.requires.1 h in
    (omega (arith, k, c.requires.0), h.long, c.requires.2)

pub put_not-requires : goal.put_not-requires
put_not-requires c =
    let h = c.put_not-a.ensures in
    let k = count_not c.args.table.now _ c.args.n _ (omega (arith, c.requires.0)) c.requires.1 h in
    let g = c.put_implies-b.ensures in
    let j = count_implies c.put_not-a.new.table _ c.put_not-a.result _ (omega (arith, k, c.requires.0)) h.long c.args.left g in
    (omega (arith, j, k, c.requires.0), g.long)

pub returns : goal.returns
returns c =
    holds_after (put_not form_in) (holds_after (put_implies form_in c.args.left)
    c.put_not-a.ensures c.put_implies-b.ensures) c.put_not.ensures
