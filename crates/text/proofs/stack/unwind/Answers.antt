-- `text::stack::unwind` meets its contract: what ends on the way comes to the same (`UnwindLaws.Unwinding`). Assumes nothing.
use mathlib.Core.Path.{sym, ◌∙◌}
use native.Mathlib.Omega.{arith}
use Rattle.grammar.specs.Reading.{rank}
use Rattle.text.proofs.UnwindLaws.{few_waiting, unwinding_start, unwinding_some, unwinding_room, unwinding_next, unwinding_stop}
use Rattle.text.proofs.stack.unwind.Goals as goal

pub loop-t-init : goal.loop-t-init
loop-t-init c = unwinding_start c.args.stack.now c.args.top c.args.table.now c.args.count (rank c.args.depth c.args.level) c.requires.0

pub ends_top-requires : goal.ends_top-requires
ends_top-requires c = (few_waiting _ _ _ _ c.loop-t.invariant.fits, c.requires.1)

pub overflow_sub-t : goal.overflow_sub-t
overflow_sub-t c =
    omega (arith, unwinding_some _ _ _ _ _ _ _ _ c.loop-t.invariant (sym c.ends_top.ensures ∙ c.loop-t-test.true))

pub offset_bounds-stack-t : goal.offset_bounds-stack-t
offset_bounds-stack-t c = omega (arith, few_waiting _ _ _ _ c.loop-t.invariant.fits)

pub bounds-stack-t : goal.bounds-stack-t
bounds-stack-t c =
    omega (
      arith,
      unwinding_some _ _ _ _ _ _ _ _ c.loop-t.invariant (sym c.ends_top.ensures ∙ c.loop-t-test.true),
      few_waiting _ _ _ _ c.loop-t.invariant.fits,
    )

pub loop-t-smaller : goal.loop-t-smaller
loop-t-smaller c =
    omega (arith, unwinding_some _ _ _ _ _ _ _ _ c.loop-t.invariant (sym c.ends_top.ensures ∙ c.loop-t-test.true))

pub put_end-n-requires : goal.put_end-n-requires
put_end-n-requires c = unwinding_room _ _ _ _ _ _ _ _ c.loop-t.invariant (sym c.ends_top.ensures ∙ c.loop-t-test.true)

pub loop-t-preserved : goal.loop-t-preserved
loop-t-preserved c =
    unwinding_next _ _ _ _ _ _ _ _ c.loop-t.invariant (sym c.ends_top.ensures ∙ c.loop-t-test.true) c.put_end-n.new.table c.put_end-n.result
    c.put_end-n.ensures

pub returns : goal.returns
returns c = unwinding_stop _ _ _ _ _ _ _ _ c.loop-t.invariant (sym c.ends_top.ensures ∙ c.loop-t-test.false)
