-- `layout::fill_starts` meets its contract. The loop keeps: n is where line l starts, and the table has the starts below it (`StartLaws.Marked`).
-- Assumes nothing.
use mathlib.Core.Path.{sym}
use Prim.Native.Nat.{◌+◌, ◌/◌, ◌<◌}
use lib.ListN.{length}
use native.Mathlib.Omega.{arith}
use Rattle.rule.specs.Nodes.{table_in}
use Rattle.spec.specs.Script.{bare_code}
use Rattle.spec.proofs.WeaverLaws.{start_zero}
use Rattle.layout.proofs.StartLaws.{start_step, bare_few, next_few, start_few, Marked, marked_next, marked_keep}
use Rattle.layout.proofs.fill_starts.Goals as goal
use Rattle.layout.proofs.fill_starts.Goals.{then-marked, else-marked}

pub loop-l-init : goal.loop-l-init
loop-l-init c = let a = c.args in (sym (start_zero (table_in a.rule.now) (bare_code a.bare.now)), λ j h. absurd (omega arith))

pub overflow_cast-starts : goal.overflow_cast-starts
overflow_cast-starts c = let a = c.args in
    omega (arith, start_few a.rule.now a.bare.now c.requires.0 c.loop-l.l c.loop-l-test.true)

pub bounds-starts-l : goal.bounds-starts-l
bounds-starts-l c = omega (arith, bare_few c.args.rule.now c.args.bare.now c.requires.0)

pub overflow_add-n : goal.overflow_add-n
overflow_add-n c = let a = c.args in
    let next = start_step (table_in a.rule.now) a.bare.now c.loop-l.l c.loop-l.n a.size c.line_size-n.result c.loop-l-test.true
    c.requires.1 c.line_size-n.ensures c.loop-l.invariant.0 in
    omega (arith, next_few a.rule.now a.bare.now c.requires.0 c.loop-l.l c.loop-l-test.true)

pub loop-l-preserved : goal.loop-l-preserved
loop-l-preserved c = let a = c.args in
    let t = table_in a.rule.now in
    let code = bare_code a.bare.now in
    let room : c.loop-l.l / 16 < length c.loop-l.starts = omega (arith, bare_few a.rule.now a.bare.now c.requires.0) in (
      start_step t a.bare.now c.loop-l.l c.loop-l.n a.size c.line_size-n.result c.loop-l-test.true c.requires.1 c.line_size-n.ensures c.loop-l.invariant.0,
      elim c.if-marked.branch as (λ w. Marked t code c.if-marked.starts (c.loop-l.l + 1)) [
        | then-marked w ↦ rw w.starts-is (marked_next t code c.loop-l.starts c.loop-l.l c.loop-l.n w.if-marked.true room c.loop-l.invariant.0 c.loop-l.invariant.1)
        | else-marked w ↦ rw w.starts-is (marked_keep t code c.loop-l.starts c.loop-l.l w.if-marked.false c.loop-l.invariant.1)
      ],
    )
