-- `finder::lines::put_lines` meets its contract: the loop keeps: the first l lines are written and their facts counted (`FoundLaws.Writing`). Assumes nothing.
use native.Mathlib.Omega.{arith}
use Rattle.finder.proofs.FoundLaws.{writing_start, writing_next}
use Rattle.finder.proofs.lines.put_lines.Goals as goal

pub loop-l-init : goal.loop-l-init
loop-l-init g c = writing_start _ _ _ _

pub loop-l-preserved : goal.loop-l-preserved
loop-l-preserved g c =
    let p = c.requires in let h = c.loop-l-test.true in
    writing_next g.W.Word.IS_WIDE _ _ _ _ _ _ _ _ _ c.load-x.ensures (omega arith) c.count_facts.ensures c.put_line.ensures c.loop-l.invariant
