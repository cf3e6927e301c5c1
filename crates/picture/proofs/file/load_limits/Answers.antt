-- `picture::file::load_limits` meets its contract (`FileLaws`): the first j numbers are loaded. Assumes nothing.
use native.Mathlib.Omega.{arith}
use Rattle.picture.proofs.FileLaws.{limits_start, limits_next}
use Rattle.picture.proofs.file.load_limits.Goals as goal

pub loop-j-init : goal.loop-j-init
loop-j-init c = let a = c.args in limits_start a.bytes.now a.at a.first a.out.now

pub loop-j-preserved : goal.loop-j-preserved
loop-j-preserved c =
    let a = c.args in
    limits_next a.bytes.now a.at a.first a.out.now c.loop-j.j c.number_at.result c.loop-j.out (omega arith) c.number_at.ensures
    c.loop-j.invariant
