-- `machine::running::before_step` meets its contract, by opcode (`RunLaws`). Assumes nothing.
use Rattle.spec.proofs.BoolLaws.{clash}
use Rattle.machine.specs.Machines.{machine_at}
use Rattle.machine.proofs.RunLaws.{stop_halted, stop_spent, stop_dry, stop_full, go_input, go_present, go_other}
use Rattle.machine.proofs.running.before_step.Goals.{in-Halt, in_default}
use Rattle.machine.proofs.running.before_step.Goals as goal

pub returns-then-matches : goal.returns-then-matches
returns-then-matches c = let a = c.args in let x = a.x in λ registers.
    elim c.match-matches.branch [
      | in-Halt w ↦ stop_halted x.r x.c x.target a.inputs.now (machine_at registers a.core a.history.now) x.opcode a.spent w.in-Halt.is
      | in_default w ↦ clash c.if-matches.true w.matches-is
    ]

pub returns-then-spent : goal.returns-then-spent
returns-then-spent c = let a = c.args in let x = a.x in λ registers.
    elim c.match-matches.branch [
      | in-Halt w ↦ clash w.matches-is c.if-matches.false
      | in_default w ↦ stop_spent x.r x.c x.target a.inputs.now (machine_at registers a.core a.history.now) x.opcode a.spent c.if-spent.true w.in_default.not-Halt w.in_default.not-Unknown
    ]

pub returns-then-inputs-core : goal.returns-then-inputs-core
returns-then-inputs-core c = let a = c.args in let x = a.x in λ registers.
    stop_dry x.r x.c x.target a.inputs.now (machine_at registers a.core a.history.now) x.opcode a.spent c.if-spent.false c.in-Input.is c.if-inputs-core.true

pub returns-else-inputs-core : goal.returns-else-inputs-core
returns-else-inputs-core c = let a = c.args in let x = a.x in λ registers.
    go_input x.r x.c x.target a.inputs.now (machine_at registers a.core a.history.now) x.opcode a.spent c.if-spent.false c.in-Input.is c.if-inputs-core.false

pub returns-then-history-core : goal.returns-then-history-core
returns-then-history-core c = let a = c.args in let x = a.x in λ registers.
    stop_full x.r x.c x.target a.inputs.now (machine_at registers a.core a.history.now) x.opcode a.spent c.if-spent.false c.in-Present.is c.if-history-core.true

pub returns-else-history-core : goal.returns-else-history-core
returns-else-history-core c = let a = c.args in let x = a.x in λ registers.
    go_present x.r x.c x.target a.inputs.now (machine_at registers a.core a.history.now) x.opcode a.spent c.if-spent.false c.in-Present.is c.if-history-core.false

pub returns-in_default-opcode : goal.returns-in_default-opcode
returns-in_default-opcode c = let a = c.args in let x = a.x in λ registers.
    elim c.match-matches.branch [
      | in-Halt w ↦ clash w.matches-is c.if-matches.false
      | in_default w ↦ go_other x.r x.c x.target a.inputs.now (machine_at registers a.core a.history.now) x.opcode a.spent c.if-spent.false w.in_default.not-Halt w.in_default.not-Unknown c.in_default-opcode.not-Input c.in_default-opcode.not-Present
    ]
