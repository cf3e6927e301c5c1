-- `report::mark::add_shown` meets its contract: the bytes before i are shown. Assumes nothing.
use native.Mathlib.Omega.{arith}
use Rattle.report.proofs.MarkLaws.{shown_start, shown_next, shown_end}
use Rattle.report.proofs.mark.add_shown.Goals as goal

pub loop-i-init : goal.loop-i-init
loop-i-init c = shown_start c.args.text.now c.args.from c.args.n c.requires.0 c.args.at c.args.out.now c.requires.1

pub loop-i-preserved : goal.loop-i-preserved
loop-i-preserved c =
    shown_next c.args.text.now c.args.from c.args.n c.requires.0 c.args.at c.args.out.now c.requires.1 c.loop-i.i c.show.result
    c.loop-i.out c.loop-i-test.true c.show.ensures c.loop-i.invariant

pub returns : goal.returns
returns c =
    shown_end c.args.text.now c.args.from c.args.n c.requires.0 c.args.at c.args.out.now c.requires.1 c.loop-i.i c.loop-i.out
    (omega arith) c.loop-i.invariant
