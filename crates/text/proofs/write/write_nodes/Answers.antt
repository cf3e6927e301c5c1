-- `text::write::write_nodes` meets its contract: what is put and owed so far, and the tokens that are left, make the table
-- (`WritingLaws.Writing`). What is left of the text falls. Assumes nothing.
use mathlib.Core.Path.{sym, subst}
use Prim.Native.Nat.{◌+◌}
use native.Mathlib.Omega.{arith}
use Rattle.text.specs.Places.{scan_of, Over, Reads}
use Rattle.text.proofs.WritingLaws.{cost_small, Writing, writing_start, writing_stuck, writing_many, writing_ready, writing_next, writing_end}
use Rattle.text.proofs.write.write_nodes.Goals as goal

pub loop-at-init : goal.loop-at-init
loop-at-init c =
    writing_start c.args.text.now c.args.allowed c.args.table.now c.wanting-s.result c.requires.0 c.requires.1 c.requires.2 c.requires.3 c.wanting-s.ensures

pub returns-in_default : goal.returns-in_default
returns-in_default c =
    writing_stuck _ _ _ _ _ _ _ _ c.loop-at.invariant _ (subst (Reads c.args.text.now c.loop-at.at
    c.loop-at.s.want c.loop-at.s.depth c.loop-at.s.touching) c.in_default.is c.read_token-read.ensures)

pub overflow_add-total : goal.overflow_add-total
overflow_add-total c =
    omega (
      arith,
      c.loop-at.invariant.few,
      c.nodes_for-total.ensures,
      cost_small
          c.in-Ok.lexeme.token,
    )

pub returns-then-allowed-total : goal.returns-then-allowed-total
returns-then-allowed-total c =
    writing_many _ _ _ _ _ _ _ _ c.loop-at.invariant _ _
    (subst (Reads c.args.text.now c.loop-at.at c.loop-at.s.want c.loop-at.s.depth c.loop-at.s.touching) c.in-Ok.is
    c.read_token-read.ensures) c.loop-at.table (omega (arith, c.if-allowed-total.true, c.nodes_for-total.ensures))

pub take_token-progress-requires : goal.take_token-progress-requires
take_token-progress-requires c =
    writing_ready _ _ _ _ _ _ _ _ c.loop-at.invariant _ _ (subst (Reads
    c.args.text.now c.loop-at.at c.loop-at.s.want
    c.loop-at.s.depth c.loop-at.s.touching) c.in-Ok.is
    c.read_token-read.ensures) (omega
    (arith, c.if-allowed-total.false, c.nodes_for-total.ensures))

pub after_token-s-requires : goal.after_token-s-requires
after_token-s-requires c =
    omega
    (arith, c.loop-at.invariant.turning.shallow, c.loop-at-test.true)

pub loop-at-smaller : goal.loop-at-smaller
loop-at-smaller c =
    let o : Over c.args.text.now c.loop-at.at (scan_of c.loop-at.s) _ _ _ = subst (Reads c.args.text.now c.loop-at.at c.loop-at.s.want c.loop-at.s.depth c.loop-at.s.touching) c.in-Ok.is c.read_token-read.ensures in
    omega (arith, o.further, o.inside)

pub loop-at-preserved : goal.loop-at-preserved
loop-at-preserved c =
    subst (λ n. Writing c.args.text.now c.args.allowed c.take_token-progress.new.stack c.take_token-progress.new.table
    c.take_token-progress.result c.after_token-s.result (c.loop-at.total + n) c.in-Ok.lexeme.next) (sym c.nodes_for-total.ensures)
    (writing_next _ _ _ _ _ _ _ _ c.loop-at.invariant _ _ (subst (Reads c.args.text.now c.loop-at.at c.loop-at.s.want c.loop-at.s.depth c.loop-at.s.touching) c.in-Ok.is
    c.read_token-read.ensures) (omega
    (arith, c.if-allowed-total.false, c.nodes_for-total.ensures)) _ _ c.take_token-progress.result c.after_token-s.result
    c.take_token-progress.ensures c.after_token-s.ensures)

pub unwind-ended-requires : goal.unwind-ended-requires
unwind-ended-requires c = (c.loop-at.invariant.fits, omega arith)

pub returns : goal.returns
returns c =
    writing_end _ _ _ _ _ _ _ _ c.loop-at.invariant c.loop-at-test.false _ _ _
    c.unwind-ended.ensures
