-- `finder::search::sweep` meets its contract. The loop keeps: the lines with a flag before the next one were pushed (`Rows.Swept`). Assumes nothing.
use mathlib.Core.Path.{◌≡◌}
use native.Mathlib.Omega.{arith}
use lib.ListN.{length}
use Rattle.finder.proofs.SearchLaws.{few_lines, before, next_line, at_flag, later, swept_start, swept_next}
use Rattle.finder.proofs.search.sweep.Goals as goal

pub next_flag-next-requires : goal.next_flag-next-requires
next_flag-next-requires c = (c.requires.1.marks, few_lines _ _ c.requires.0)

pub loop-next-init : goal.loop-next-init
loop-next-init c = record {
  is_line = next_line _ _ _ _ c.next_flag-next.ensures;
  swept = swept_start _ _ _ _ _ c.requires.2 c.next_flag-next.ensures;
}

pub next_flag-next-requires-in-Some : goal.next_flag-next-requires-in-Some
next_flag-next-requires-in-Some c =
    let i = c.loop-next.invariant.swept.searched.lessens in
    let j = c.push-again.ensures.searched.lessens in
    (omega (arith, i.flags_size, j.flags_size, c.requires.1.marks), few_lines _ _ c.requires.0)

pub loop-next-smaller : goal.loop-next-smaller
loop-next-smaller c = later _ _ _ _ _ c.in-Some.is c.loop-next.invariant.is_line c.next_flag-next-in-Some.ensures

pub loop-next-preserved : goal.loop-next-preserved
loop-next-preserved c =
    let e : before (length c.args.code.now) c.loop-next.next ≡ c.in-Some.l = at_flag _ _ _ c.in-Some.is in record {
      is_line = next_line _ _ _ _ c.next_flag-next-in-Some.ensures;
      swept = swept_next _ _ _ _ _ _ _ _ _ _ _ _ (rw e at c.loop-next.invariant.swept) c.push-again.ensures c.next_flag-next-in-Some.ensures;
    }

pub returns : goal.returns
unfolding before
returns c = rw c.in_default.is at c.loop-next.invariant.swept
