-- `text::table::put_sofar` meets its contract, by `HoldLaws`. Assumes nothing.
use native.Mathlib.Omega.{arith}
use Rattle.rule.specs.Nodes.{form_in}
use Rattle.text.specs.Building.{put_since, put_not}
use Rattle.text.proofs.HoldLaws.{holds_after, count_since, count_not}
use Rattle.text.proofs.table.put_sofar.Goals as goal

pub put_since-b-requires : goal.put_since-b-requires
put_since-b-requires c =
    let h = c.put_not-a.ensures in
    let k = count_not c.args.table.now _ c.args.n _ (omega (arith, c.requires.0)) c.requires.1 h in
    (omega (arith, k, c.requires.0), h.long, c.requires.2)

pub put_not-requires : goal.put_not-requires
put_not-requires c =
    let h = c.put_not-a.ensures in
    let k = count_not c.args.table.now _ c.args.n _ (omega (arith, c.requires.0)) c.requires.1 h in
    let g = c.put_since-b.ensures in
    let j = count_since c.put_not-a.new.table _ c.put_not-a.result _ (omega (arith, k, c.requires.0)) h.long c.args.left g in
    (omega (arith, j, k, c.requires.0), g.long)

pub returns : goal.returns
returns c =
    holds_after (put_not form_in) (holds_after (put_since form_in c.args.left)
    c.put_not-a.ensures c.put_since-b.ensures) c.put_not.ensures
