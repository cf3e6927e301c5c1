-- `machine::act::advance` meets its contract: what the word's fields say is done. Assumes nothing.
use mathlib.Core.Path.{ap, ◌∙◌}
use Rattle.spec.specs.Script.{instruction_of, instruction_read}
use Rattle.spec.specs.Machine.{acting}
use Rattle.machine.specs.Machines.{machine_at, names_held}
use Rattle.machine.proofs.act.advance.Goals as goal

pub act-requires : goal.act-requires
unfolding instruction_read
act-requires c =
    (c.requires.0, c.decode.ensures.small, ap (λ f. names_held (instruction_of f)) c.decode.ensures.fields ∙ c.requires.1)

pub returns : goal.returns
unfolding instruction_read
returns c =
    let a = c.args in
    let m = machine_at a.registers.now a.core a.history.now in
    c.act.ensures ∙ ap (λ f. acting a.inputs.now (instruction_of f) m) c.decode.ensures.fields
