-- `numbers::states::read_machine` meets its contract. The loop keeps: the first i registers are those of the words. Assumes nothing.
use Prim.Native.Nat.{ℕ, ◌+◌}
use mathlib.Core.Path.{◌≡◌, sym, subst, ◌∙◌}
use native.Mathlib.Omega.{arith}
use lib.ListN.{get_or, take, drop}
use lib.Dec.{leb}
use lib.Seq.{take_all}
use borrow.Author.Tests.{leb-true}
use Rattle.spec.specs.Check.{nodes_in}
use Rattle.spec.specs.Machine.{machine}
use Rattle.spec.proofs.BoolLaws.{and_both}
use Rattle.spec.proofs.QuestionLaws.{below_out}
use Rattle.numbers.specs.States.{registers_fit, state_fits, machine_in}
use Rattle.numbers.proofs.states.read_machine.Goals as goal

pub overflow_cast-register : goal.overflow_cast-register
unfolding state_fits registers_fit
overflow_cast-register c =
    let s = c.args.state.now in
    let h = leb-true (get_or s (5 + c.loop-i.i) 0) 65535 (below_out 16 (λ j. leb (get_or s (5 + j) 0) 65535) (and_both _ _ c.requires.1).0 c.loop-i.i (omega arith)) in
    omega arith

pub returns : goal.returns
unfolding machine_in
returns c = λ h.
    let s = c.args.state.now in
    let e : c.loop-i.i ≡ 16 = omega arith in
    let same = sym (take_all 16 c.loop-i.register-items (omega arith)) ∙ subst (λ (n : ℕ). take n c.loop-i.register-items ≡ take n (drop 5 s)) e c.loop-i.invariant.1 in
    let ready = c.read_readiness.ensures in
    λ i. record {
      machine = machine (get_or s 0 0) (same i) (nodes_in 64 (get_or s 3 0)) (nodes_in 64 (get_or s 4 0)) (get_or s 1 0) (get_or s 2 0) h;
      readiness = ready i;
    }
