-- `picture::lines::add_registers` meets its contract: the registers below r are written. Assumes nothing.
use Prim.Native.Nat.{◌*◌}
use mathlib.Core.Path.{◌≡◌, subst}
use native.Mathlib.Omega.{arith}
use Rattle.sets.specs.Sets.{set_of}
use Rattle.print.specs.Written.{Filled, each_of}
use Rattle.print.proofs.AddedLaws.{each_start, each_next}
use Rattle.picture.specs.Lines.{register_text, registers_text}
use Rattle.picture.proofs.lines.add_registers.Goals as goal

pub loop-r-init : goal.loop-r-init
loop-r-init c = let a = c.args in each_start (register_text (set_of a.on)) 4 a.at a.out.now

pub loop-r-preserved : goal.loop-r-preserved
loop-r-preserved c =
    let a = c.args in
    each_next (register_text (set_of a.on)) 4 a.at a.out.now c.loop-r.r c.loop-r.end c.add_register-end.result c.loop-r.out
    c.add_register-end.new.out (omega arith) c.loop-r.invariant c.add_register-end.ensures

pub returns : goal.returns
unfolding registers_text
returns c =
    let a = c.args in
    let all : c.loop-r.r ≡ 16 = omega arith in
    subst (λ n. Filled (4 * n) (each_of (register_text (set_of a.on)) n) a.at c.loop-r.end a.out.now c.loop-r.out) all c.loop-r.invariant
