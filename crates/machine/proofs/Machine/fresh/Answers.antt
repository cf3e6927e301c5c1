-- `machine::Machine::fresh` meets its contract: of as many nodes as the form allows (`ReadyLaws.fresh_state`). Assumes nothing.
use mathlib.Core.Path.{sym, subst, ap, ◌∙◌}
use Prim.Native.Nat.{◌≤◌}
use native.Mathlib.Omega.{arith}
use lib.ListN.{length}
use Rattle.rule.specs.Nodes.{form_by, second_form}
use Rattle.rule.proofs.EachLaws.{length_each}
use Rattle.rule.proofs.SecondLaws.{second_few}
use Rattle.machine.proofs.StepLaws.{few_cut}
use Rattle.machine.proofs.ReadyLaws.{fresh_state}
use Rattle.machine.proofs.Machine.fresh.Goals as goal

pub in_second_form-requires : goal.in_second_form-requires
in_second_form-requires g c =
    let there = length_each g.met.W.Word.each c.first_nodes.result.now in
    let few = subst (λ r. length r ≤ (form_by g.W.Word.IS_WIDE).width) (sym c.first_nodes.ensures) (few_cut (form_by g.W.Word.IS_WIDE) (g.W.Word.numbers c.args.rule.now)) in
    omega arith

pub first_readiness-readiness-requires : goal.first_readiness-readiness-requires
first_readiness-readiness-requires g c =
    let few = subst (λ r. length r ≤ (form_by g.W.Word.IS_WIDE).width) (sym c.first_nodes.ensures) (few_cut (form_by g.W.Word.IS_WIDE) (g.W.Word.numbers c.args.rule.now)) in
    subst (λ r. length r ≤ 64) (sym c.in_second_form.ensures) (second_few g.W.Word.IS_WIDE (g.W.Word.numbers c.first_nodes.result.now) few)

pub returns : goal.returns
returns g c =
    fresh_state g.W.Word.IS_WIDE (g.W.Word.numbers c.args.rule.now) _ _ c.first_readiness-readiness.ensures
    (c.in_second_form.ensures ∙ ap (second_form g.W.Word.IS_WIDE) c.first_nodes.ensures)
