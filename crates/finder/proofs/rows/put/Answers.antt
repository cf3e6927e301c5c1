-- `finder::rows::put` meets its contract: the line's seven words stand in the place of those before (`SearchLaws.put_done`). Assumes nothing.
use mathlib.Core.Path.{◌≡◌}
use Prim.Native.Nat.{◌+◌, ◌-◌, ◌*◌}
use native.Mathlib.Omega.{arith}
use Rattle.finder.proofs.SearchLaws.{put_done}
use Rattle.finder.proofs.rows.put.Goals as goal

pub returns : goal.returns
returns c =
    let e : 7 * c.args.l + 7 - 7 * c.args.l ≡ 7 = omega arith in
    rw e (put_done c.args.notes.now c.args.l c.args.x _ c.requires c.copy_from_slice.ensures.after)
