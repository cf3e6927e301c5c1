-- `text::scan::ask_grammar` meets its contract: the scan has come to the place (`TurnLaws.Turning`). What is left of the text falls.
-- Assumes nothing.
use mathlib.Core.Path.{sym, subst, ◌∙◌}
use native.Mathlib.Omega.{arith}
use Rattle.text.specs.Places.{scan_of, Over, Reads}
use Rattle.text.proofs.TurnLaws.{turning_start, turning_next, turning_stuck, turning_ends, turning_short}
use Rattle.text.proofs.scan.ask_grammar.Goals as goal

pub loop-at-init : goal.loop-at-init
loop-at-init c = turning_start c.args.text.now c.wanting-s.result c.wanting-s.ensures

pub after_token-s-requires : goal.after_token-s-requires
after_token-s-requires c = omega (arith, c.loop-at.invariant.shallow, c.loop-at-test.true)

pub loop-at-smaller : goal.loop-at-smaller
loop-at-smaller c =
    let o : Over c.args.text.now c.loop-at.at (scan_of c.loop-at.s) _ _ _ = subst (Reads c.args.text.now c.loop-at.at c.loop-at.s.want c.loop-at.s.depth c.loop-at.s.touching) c.in-Ok.is c.read_token-read.ensures in
    omega (arith, o.further, o.inside)

pub loop-at-preserved : goal.loop-at-preserved
loop-at-preserved c =
    turning_next _ _ _ c.loop-at.invariant c.after_token-s.result _ _ (subst (Reads
    c.args.text.now c.loop-at.at c.loop-at.s.want c.loop-at.s.depth c.loop-at.s.touching)
    c.in-Ok.is c.read_token-read.ensures) c.after_token-s.ensures

pub returns-in-Err : goal.returns-in-Err
returns-in-Err c =
    turning_stuck _ _ _ c.loop-at.invariant _ (subst (Reads c.args.text.now c.loop-at.at
    c.loop-at.s.want c.loop-at.s.depth c.loop-at.s.touching) c.in-Err.is c.read_token-read.ensures)

pub returns-then-may_end : goal.returns-then-may_end
returns-then-may_end c = turning_ends _ _ _ c.loop-at.invariant c.loop-at-test.false (sym c.may_end.ensures ∙ c.if-may_end.true)

pub returns : goal.returns
returns c = turning_short _ _ _ c.loop-at.invariant c.loop-at-test.false (sym c.may_end.ensures ∙ c.if-may_end.false)
