-- `limits::answers::put_answers` meets its contract (`AnswerLaws`, `MonitorLaws`); before index i the output has the answers below i, and the priors are those after them. Assumes nothing.
use Prim.Native.Nat.{◌-◌, ◌+◌, ◌*◌}
use mathlib.Core.Path.{◌≡◌, ap}
use native.Mathlib.Omega.{arith}
use lib.ListN.{take, drop, length-take, length-drop}
use borrow.Author.Rules.{rules}
use Rattle.spec.proofs.RuleLaws.{rule_out}
use Rattle.rule.specs.Nodes.{form_in}
use Rattle.intervals.proofs.LimitsLaws.{asked_out}
use Rattle.limits.proofs.MonitorLaws.{few_held}
use Rattle.limits.proofs.AnswerLaws.{worked_start, worked_next, in_output_lem}
use Rattle.limits.specs.Monitor.{cans_of}
use Rattle.limits.proofs.answers.put_answers.Goals as goal

pub overflow_sub-last : goal.overflow_sub-last
overflow_sub-last c = let n = (rule_out form_in c.args.rule.now (asked_out form_in _ _ _ _ c.requires).rule_yes).some_node in omega arith

pub loop-i-init : goal.loop-i-init
loop-i-init c = let a = c.args in worked_start a.rule.now a.lows.now a.highs.now a.out.now c.requires _ c.first_cans-priors.ensures

pub slice_bounds-evaluate-end-in-loop-i : goal.slice_bounds-evaluate-end-in-loop-i
slice_bounds-evaluate-end-in-loop-i c = let same = (asked_out form_in _ _ _ _ c.requires).same_length in search rules

pub evaluate-m-requires : goal.evaluate-m-requires
evaluate-m-requires c = let same = (asked_out form_in _ _ _ _ c.requires).same_length in (simp (length-take, length-drop) (omega arith), simp (length-take, length-drop) (omega arith), (asked_out form_in _ _ _ _ c.requires).rule_yes)

pub can_at-requires : goal.can_at-requires
can_at-requires c = let few = few_held c.args.rule.now (asked_out form_in _ _ _ _ c.requires).rule_yes in let n = (rule_out form_in c.args.rule.now (asked_out form_in _ _ _ _ c.requires).rule_yes).some_node in omega arith

pub bounds-out-i : goal.bounds-out-i
bounds-out-i c = let a = c.args in in_output_lem a.rule.now a.lows.now a.highs.now a.out.now c.requires c.loop-i.i c.loop-i-test.true (cans_of c.loop-i.priors) c.loop-i.out c.loop-i.invariant

pub loop-i-preserved : goal.loop-i-preserved
loop-i-preserved c = let a = c.args in
    let z : 16 * c.loop-i.i + 16 - 16 * c.loop-i.i ≡ 16 = omega arith in
    worked_next a.rule.now a.lows.now a.highs.now a.out.now c.requires c.loop-i.i c.loop-i-test.true (cans_of c.loop-i.priors) c.loop-i.out c.loop-i.invariant
    (take (16 * c.loop-i.i + 16 - 16 * c.loop-i.i) (drop (16 * c.loop-i.i) a.lows.now)) (take (16 * c.loop-i.i + 16 - 16 * c.loop-i.i) (drop (16 * c.loop-i.i) a.highs.now)) (ap (λ n. take n (drop (16 * c.loop-i.i) a.lows.now)) z) (ap (λ n. take n (drop (16 * c.loop-i.i) a.highs.now)) z)
    _ c.evaluate-m.ensures _ c.can_at.ensures _ c.byte_of.ensures
