-- `machine::ready::renewal_of` meets its contract, by opcode (`ReadyLaws`). Assumes nothing.
use mathlib.Core.Path.{sym, ap₂, ◌∙◌}
use mathlib.Core.Bool.{◌&&◌}
use Rattle.machine.specs.Machines.{readiness_of}
use Rattle.machine.proofs.ReadyLaws.{renew_present, renew_write, renew_not}
use Rattle.machine.proofs.ready.renewal_of.Goals as goal

pub returns-in-Present : goal.returns-in-Present
returns-in-Present c =
    let a = c.args in let x = a.x in
    λ t s. renew_present x.r x.c x.target t s (readiness_of a.before) x.opcode a.done c.if-not-done.false c.in-Present.is

pub returns-in_default : goal.returns-in_default
returns-in_default c =
    let a = c.args in let x = a.x in
    let asked = ap₂ ◌&&◌ c.is_write.ensures c.has.ensures in
    λ t s. renew_write x.r x.c x.target t s (readiness_of a.before) x.opcode a.done c.if-not-done.false c.in_default.not-Present (sym asked ∙ c.if-is_write-has.true)

pub returns-in_default-2 : goal.returns-in_default-2
returns-in_default-2 c =
    let a = c.args in let x = a.x in
    let asked = ap₂ ◌&&◌ c.is_write.ensures c.has.ensures in
    λ t s. renew_not x.r x.c x.target t s (readiness_of a.before) x.opcode a.done c.if-not-done.false c.in_default.not-Present (sym asked ∙ c.if-is_write-has.false)
