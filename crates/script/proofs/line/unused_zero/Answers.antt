-- `script::line::unused_zero` meets its contract, opcode by opcode: used fields are what they are, the others zero. Assumes nothing.
use mathlib.Core.Bool.{◌&&◌, and-true}
use lib.Dec.{eqb, leb}
use Rattle.spec.specs.Script.{instruction_of, fields_for, stored_fit}
use Rattle.script.proofs.LineLaws.{same, bit_fit}
use Rattle.script.proofs.line.unused_zero.Goals as goal

pub returns-in-Halt : goal.returns-in-Halt
unfolding stored_fit instruction_of fields_for
returns-in-Halt c = rw c.in-Halt.is

pub returns-in-Set : goal.returns-in-Set
unfolding stored_fit instruction_of fields_for
returns-in-Set c = let x = c.args.x in rw (c.in-Set.is, same x.r, same x.c)

pub returns-in-Copy : goal.returns-in-Copy
unfolding stored_fit instruction_of fields_for
returns-in-Copy c = let x = c.args.x in rw (c.in-Copy.is, same x.r, same x.c)

pub returns-in-Raise : goal.returns-in-Raise
unfolding stored_fit instruction_of fields_for
returns-in-Raise c = let x = c.args.x in rw (c.in-Raise.is, same x.r, same x.c)

pub returns-in-Input : goal.returns-in-Input
unfolding stored_fit instruction_of fields_for
returns-in-Input c = let x = c.args.x in rw (c.in-Input.is, same x.r)

pub returns-in-IfEqual : goal.returns-in-IfEqual
unfolding stored_fit instruction_of fields_for
returns-in-IfEqual c = let x = c.args.x in rw (c.in-IfEqual.is, same x.r, same x.c, same x.target)

pub returns-in-IfBelow : goal.returns-in-IfBelow
unfolding stored_fit instruction_of fields_for
returns-in-IfBelow c = let x = c.args.x in rw (c.in-IfBelow.is, same x.r, same x.c, same x.target)

pub returns-in-Goto : goal.returns-in-Goto
unfolding stored_fit instruction_of fields_for
returns-in-Goto c = let x = c.args.x in rw (c.in-Goto.is, same x.target, and-true (eqb x.r 0 && eqb x.c 0))

pub returns-in-Present : goal.returns-in-Present
unfolding stored_fit instruction_of fields_for
returns-in-Present c = rw c.in-Present.is

pub returns-in-SetWork : goal.returns-in-SetWork
unfolding stored_fit instruction_of fields_for
returns-in-SetWork c = let x = c.args.x in rw (c.in-SetWork.is, same x.c, bit_fit x.r, and-true (leb x.r 1))

pub returns-in-IfKept : goal.returns-in-IfKept
unfolding stored_fit instruction_of fields_for
returns-in-IfKept c = let x = c.args.x in rw (c.in-IfKept.is, same x.c, same x.target, and-true (eqb x.r 0), and-true (eqb x.r 0))

pub returns-in-IfWork : goal.returns-in-IfWork
unfolding stored_fit instruction_of fields_for
returns-in-IfWork c = let x = c.args.x in rw (c.in-IfWork.is, same x.c, same x.target, and-true (eqb x.r 0), and-true (eqb x.r 0))

pub returns-in-Keep : goal.returns-in-Keep
unfolding stored_fit instruction_of fields_for
returns-in-Keep c = let x = c.args.x in rw (c.in-Keep.is, same x.c, and-true (eqb x.r 0))

pub returns-in-IfEqualRegisters : goal.returns-in-IfEqualRegisters
unfolding stored_fit instruction_of fields_for
returns-in-IfEqualRegisters c = let x = c.args.x in rw (c.in-IfEqualRegisters.is, same x.r, same x.c, same x.target)

pub returns-in-Lower : goal.returns-in-Lower
unfolding stored_fit instruction_of fields_for
returns-in-Lower c = let x = c.args.x in rw (c.in-Lower.is, same x.r, same x.c)

pub returns-in-Unknown : goal.returns-in-Unknown
unfolding stored_fit instruction_of fields_for
returns-in-Unknown c = rw c.in-Unknown.is
