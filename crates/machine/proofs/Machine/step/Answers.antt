-- `machine::Machine::step` meets its contract: no more nodes are looked at than the form allows (`ReadyLaws.state_cut`). Assumes nothing.
use mathlib.Core.Path.{sym, subst, ap, ◌∙◌}
use Prim.Native.Nat.{◌≤◌}
use lib.ListN.{length}
use Rattle.spec.specs.Ready.{state_step_of}
use Rattle.rule.specs.Nodes.{form_by}
use Rattle.machine.specs.Machines.{state_of}
use Rattle.machine.proofs.StepLaws.{few_cut}
use Rattle.machine.proofs.ReadyLaws.{state_cut}
use Rattle.machine.proofs.Machine.step.Goals as goal

pub step_in-requires : goal.step_in-requires
step_in-requires g c =
    subst (λ r. length r ≤ (form_by g.W.Word.IS_WIDE).width) (sym c.first_nodes.ensures) (few_cut (form_by g.W.Word.IS_WIDE) (g.W.Word.numbers c.args.rule.now))

pub returns : goal.returns
returns g c =
    let a = c.args in
    let form = form_by g.W.Word.IS_WIDE in
    c.step_in.ensures ∙ ap (λ r. state_step_of form r (g.W.Word.numbers a.script.now) a.inputs.now (state_of a.self a.history.now)) c.first_nodes.ensures
    ∙ state_cut form (g.W.Word.numbers a.rule.now) (g.W.Word.numbers a.script.now) a.inputs.now (state_of a.self a.history.now)
