-- `finder::rows::cut` meets its contract. The loop keeps: the first j words are met (`RowLaws.Meeting`). Assumes nothing.
use mathlib.Core.Path.{◌≡◌}
use native.Mathlib.Omega.{arith}
use Rattle.finder.proofs.RowLaws.{meeting_next, cut_same, cut_changed}
use Rattle.finder.proofs.rows.cut.Goals as goal

pub loop-j-preserved : goal.loop-j-preserved
loop-j-preserved c =
    let e = c.meet_at-changed.ensures in
    rw (e.0, e.1) (meeting_next _ _ _ _ _ _ c.loop-j.invariant (omega (arith, c.requires.words)))

pub returns-then-changed : goal.returns-then-changed
returns-then-changed c =
    let e : c.loop-j.j ≡ 7 = omega arith in
    cut_changed c.args.notes.now c.loop-j.notes c.args.flags.now c.args.m c.args.g _ (rw e at c.loop-j.invariant) _
    c.if-changed.true c.raise.ensures

pub returns : goal.returns
returns c =
    let e : c.loop-j.j ≡ 7 = omega arith in
    cut_same c.args.notes.now c.loop-j.notes c.args.flags.now c.args.m c.args.g _ (rw e at c.loop-j.invariant) c.if-changed.false
