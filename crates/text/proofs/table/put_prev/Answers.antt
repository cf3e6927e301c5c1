-- `text::table::put_prev` meets its contract, by `HoldLaws`. Assumes nothing.
use native.Mathlib.Omega.{arith}
use Rattle.rule.specs.Nodes.{form_in}
use Rattle.text.specs.Building.{put_weak, put_not}
use Rattle.text.proofs.HoldLaws.{holds_after, count_weak, count_not}
use Rattle.text.proofs.table.put_prev.Goals as goal

pub put_weak-b-requires : goal.put_weak-b-requires
put_weak-b-requires c =
    let h = c.put_not-a.ensures in
    let k = count_not c.args.table.now _ c.args.n _ (omega (arith, c.requires.0)) c.requires.1 h in
    (omega (arith, k, c.requires.0), h.long)

pub put_not-requires : goal.put_not-requires
put_not-requires c =
    let h = c.put_not-a.ensures in
    let k = count_not c.args.table.now _ c.args.n _ (omega (arith, c.requires.0)) c.requires.1 h in
    let g = c.put_weak-b.ensures in
    let j = count_weak c.put_not-a.new.table _ c.put_not-a.result _ (omega (arith, k, c.requires.0)) h.long g in
    (omega (arith, j, k, c.requires.0), g.long)

pub returns : goal.returns
returns c =
    holds_after (put_not form_in) (holds_after (put_weak form_in) c.put_not-a.ensures
    c.put_weak-b.ensures) c.put_not.ensures
