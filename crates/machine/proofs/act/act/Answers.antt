-- `machine::act::act` meets its contract: a law of `ActLaws` for each return. Assumes nothing.
use mathlib.Core.Path.{refl, sym, ap, ◌∙◌}
use borrow.Author.Tests.{eq-eqb, ne_eqb, lt-ltb, le-ltb}
use Rattle.spec.specs.Logic.{passes}
use Rattle.spec.specs.Script.{fields_of}
use Rattle.spec.specs.Machine.{written, meets}
use Rattle.spec.proofs.OpcodeLaws.{opcode_1, opcode_2, opcode_3, opcode_5, opcode_6, opcode_10, opcode_11, opcode_13, opcode_14}
use Rattle.machine.specs.Machines.{machine_at}
use Rattle.script.specs.Lines.{number_of_opcode, fields_in}
use Rattle.machine.proofs.ActLaws.{read_halt, held_copy, held_equal, held_set, held_keep, act_halt, act_write, act_dry, act_input, act_target, act_next, act_go, act_full, act_present, act_set, act_keep}
use Rattle.machine.proofs.act.act.Goals as goal

pub returns-in-Halt : goal.returns-in-Halt
returns-in-Halt c =
    let a = c.args in
    let m = machine_at a.registers.now a.core a.history.now in
    sym (act_halt (fields_in a.x) a.inputs.now m (read_halt a.x.r a.x.c a.x.target a.x.opcode c.in-Halt.is))

pub bounds-registers-named : goal.bounds-registers-named
bounds-registers-named c = let a = c.args in held_copy (fields_in a.x) c.requires.2 (ap number_of_opcode c.in-Copy.is)

pub returns-then-inputs-n : goal.returns-then-inputs-n
returns-then-inputs-n c =
    let a = c.args in
    let m = machine_at a.registers.now a.core a.history.now in
    sym (act_dry (fields_in a.x) a.inputs.now m (ap number_of_opcode c.in-Input.is) c.if-inputs-n.true)

pub returns-then-history-n : goal.returns-then-history-n
returns-then-history-n c =
    let a = c.args in
    let m = machine_at a.registers.now a.core a.history.now in
    sym (act_full (fields_in a.x) a.inputs.now m (ap number_of_opcode c.in-Present.is) c.if-history-n.true)

pub set_bit-requires : goal.set_bit-requires
set_bit-requires c = let a = c.args in held_set (fields_in a.x) c.requires.2 (ap number_of_opcode c.in-SetWork.is)

pub set_bit-requires-in-Keep : goal.set_bit-requires-in-Keep
set_bit-requires-in-Keep c = let a = c.args in held_keep (fields_in a.x) c.requires.2 (ap number_of_opcode c.in-Keep.is)

pub bounds-registers-named-in-IfEqualRegisters : goal.bounds-registers-named-in-IfEqualRegisters
bounds-registers-named-in-IfEqualRegisters c = let a = c.args in held_equal (fields_in a.x) c.requires.2 (ap number_of_opcode c.in-IfEqualRegisters.is)

pub returns-in-Set : goal.returns-in-Set
unfolding fields_of written
returns-in-Set c =
    let a = c.args in
    let m = machine_at a.registers.now a.core a.history.now in
    sym (act_write (fields_in a.x) a.inputs.now m _ (opcode_1 (fields_in a.x) (ap number_of_opcode c.in-Set.is)) refl)

pub returns-in-Copy : goal.returns-in-Copy
unfolding fields_of written
returns-in-Copy c =
    let a = c.args in
    let m = machine_at a.registers.now a.core a.history.now in
    sym (act_write (fields_in a.x) a.inputs.now m _ (opcode_2 (fields_in a.x) (ap number_of_opcode c.in-Copy.is)) refl)

pub returns-in-Raise : goal.returns-in-Raise
unfolding fields_of written
returns-in-Raise c =
    let a = c.args in
    let m = machine_at a.registers.now a.core a.history.now in
    rw c.raise.ensures (sym (act_write (fields_in a.x) a.inputs.now m _ (opcode_3 (fields_in a.x) (ap number_of_opcode c.in-Raise.is)) refl))

pub returns-else-inputs-n : goal.returns-else-inputs-n
returns-else-inputs-n c =
    let a = c.args in
    let m = machine_at a.registers.now a.core a.history.now in
    sym (act_input (fields_in a.x) a.inputs.now m (ap number_of_opcode c.in-Input.is) c.if-inputs-n.false)

pub returns-then-registers-r : goal.returns-then-registers-r
unfolding fields_of meets passes
returns-then-registers-r c =
    let a = c.args in
    let m = machine_at a.registers.now a.core a.history.now in
    sym (act_target (fields_in a.x) a.inputs.now m _ (opcode_5 (fields_in a.x) (ap number_of_opcode c.in-IfEqual.is)) (eq-eqb _ _ c.if-registers-r.true))

pub returns-else-registers-r : goal.returns-else-registers-r
unfolding fields_of meets passes
returns-else-registers-r c =
    let a = c.args in
    let m = machine_at a.registers.now a.core a.history.now in
    sym (act_next (fields_in a.x) a.inputs.now m _ (opcode_5 (fields_in a.x) (ap number_of_opcode c.in-IfEqual.is)) (ne_eqb _ _ c.if-registers-r.false))

pub returns-then-registers-r-2 : goal.returns-then-registers-r-2
unfolding fields_of meets passes
returns-then-registers-r-2 c =
    let a = c.args in
    let m = machine_at a.registers.now a.core a.history.now in
    sym (act_target (fields_in a.x) a.inputs.now m _ (opcode_6 (fields_in a.x) (ap number_of_opcode c.in-IfBelow.is)) (lt-ltb _ _ c.if-registers-r-2.true))

pub returns-else-registers-r-2 : goal.returns-else-registers-r-2
unfolding fields_of meets passes
returns-else-registers-r-2 c =
    let a = c.args in
    let m = machine_at a.registers.now a.core a.history.now in
    sym (act_next (fields_in a.x) a.inputs.now m _ (opcode_6 (fields_in a.x) (ap number_of_opcode c.in-IfBelow.is)) (le-ltb _ _ c.if-registers-r-2.false))

pub returns-in-Goto : goal.returns-in-Goto
returns-in-Goto c =
    let a = c.args in
    let m = machine_at a.registers.now a.core a.history.now in
    sym (act_go (fields_in a.x) a.inputs.now m (ap number_of_opcode c.in-Goto.is))

pub returns-else-history-n : goal.returns-else-history-n
returns-else-history-n c =
    let a = c.args in
    let m = machine_at a.registers.now a.core a.history.now in
    rw c.store.ensures (sym (act_present (fields_in a.x) a.inputs.now m (ap number_of_opcode c.in-Present.is) c.if-history-n.false))

pub returns-in-SetWork : goal.returns-in-SetWork
returns-in-SetWork c =
    let a = c.args in
    let m = machine_at a.registers.now a.core a.history.now in
    rw c.set_bit.ensures (sym (act_set (fields_in a.x) a.inputs.now m (ap number_of_opcode c.in-SetWork.is)))

pub returns-then-has : goal.returns-then-has
unfolding fields_of meets
returns-then-has c =
    let a = c.args in
    let m = machine_at a.registers.now a.core a.history.now in
    sym (act_target (fields_in a.x) a.inputs.now m _ (opcode_10 (fields_in a.x) (ap number_of_opcode c.in-IfKept.is)) (sym c.has.ensures ∙ c.if-has.true))

pub returns-else-has : goal.returns-else-has
unfolding fields_of meets
returns-else-has c =
    let a = c.args in
    let m = machine_at a.registers.now a.core a.history.now in
    sym (act_next (fields_in a.x) a.inputs.now m _ (opcode_10 (fields_in a.x) (ap number_of_opcode c.in-IfKept.is)) (sym c.has.ensures ∙ c.if-has.false))

pub returns-then-has-2 : goal.returns-then-has-2
unfolding fields_of meets
returns-then-has-2 c =
    let a = c.args in
    let m = machine_at a.registers.now a.core a.history.now in
    sym (act_target (fields_in a.x) a.inputs.now m _ (opcode_11 (fields_in a.x) (ap number_of_opcode c.in-IfWork.is)) (sym c.has-in-IfWork.ensures ∙ c.if-has-2.true))

pub returns-else-has-2 : goal.returns-else-has-2
unfolding fields_of meets
returns-else-has-2 c =
    let a = c.args in
    let m = machine_at a.registers.now a.core a.history.now in
    sym (act_next (fields_in a.x) a.inputs.now m _ (opcode_11 (fields_in a.x) (ap number_of_opcode c.in-IfWork.is)) (sym c.has-in-IfWork.ensures ∙ c.if-has-2.false))

pub returns-in-Keep : goal.returns-in-Keep
returns-in-Keep c =
    let a = c.args in
    let m = machine_at a.registers.now a.core a.history.now in
    rw (c.set_bit-in-Keep.ensures, c.has-in-Keep.ensures) (sym (act_keep (fields_in a.x) a.inputs.now m (ap number_of_opcode c.in-Keep.is)))

pub returns-then-registers-r-3 : goal.returns-then-registers-r-3
unfolding fields_of meets passes
returns-then-registers-r-3 c =
    let a = c.args in
    let m = machine_at a.registers.now a.core a.history.now in
    sym (act_target (fields_in a.x) a.inputs.now m _ (opcode_13 (fields_in a.x) (ap number_of_opcode c.in-IfEqualRegisters.is)) (eq-eqb _ _ c.if-registers-r-3.true))

pub returns-else-registers-r-3 : goal.returns-else-registers-r-3
unfolding fields_of meets passes
returns-else-registers-r-3 c =
    let a = c.args in
    let m = machine_at a.registers.now a.core a.history.now in
    sym (act_next (fields_in a.x) a.inputs.now m _ (opcode_13 (fields_in a.x) (ap number_of_opcode c.in-IfEqualRegisters.is)) (ne_eqb _ _ c.if-registers-r-3.false))

pub returns-in-Lower : goal.returns-in-Lower
unfolding fields_of written
returns-in-Lower c =
    let a = c.args in
    let m = machine_at a.registers.now a.core a.history.now in
    rw c.lower.ensures (sym (act_write (fields_in a.x) a.inputs.now m _ (opcode_14 (fields_in a.x) (ap number_of_opcode c.in-Lower.is)) refl))
