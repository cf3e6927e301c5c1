-- `picture::lines::add_indices` meets its contract (`LineLaws`): the lines below i are written. Assumes nothing.
use native.Mathlib.Omega.{arith}
use Rattle.print.proofs.AddedLaws.{each_start, each_next}
use Rattle.picture.proofs.LineLaws.{line_at}
use Rattle.picture.proofs.lines.add_indices.Goals as goal

pub loop-i-init : goal.loop-i-init
loop-i-init c = let a = c.args in each_start (line_at a.answers.now a.sets.now) 74 a.at a.out.now

pub loop-i-preserved : goal.loop-i-preserved
loop-i-preserved c =
    let a = c.args in
    each_next (line_at a.answers.now a.sets.now) 74 a.at a.out.now c.loop-i.i c.loop-i.end c.add_index-end.result c.loop-i.out
    c.add_index-end.new.out (omega arith) c.loop-i.invariant c.add_index-end.ensures
