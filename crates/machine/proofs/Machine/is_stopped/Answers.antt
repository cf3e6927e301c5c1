-- `machine::Machine::is_stopped` meets its contract: what comes before a step (`RunLaws`). Assumes nothing.
use mathlib.Core.Path.{ap, ◌∙◌}
use mathlib.Core.Bool.{true, false}
use mathlib.Core.Option.{Option-elim}
use Rattle.spec.specs.Machine.{stops}
use Rattle.script.specs.Lines.{instruction_in}
use Rattle.machine.proofs.RunLaws.{stopped_is}
use Rattle.machine.proofs.Machine.is_stopped.Goals as goal

pub returns : goal.returns
returns c =
    let a = c.args in
    c.is_some.ensures ∙ stopped_is c.before_step.result _ (c.before_step.ensures a.self.registers)
    ∙ ap (λ m. Option-elim (stops a.inputs.now (instruction_in a.x) m) false (λ s. true)) (c.from.ensures a.history.now)
