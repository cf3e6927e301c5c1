-- `script::line::has_target` meets its contract (`LineLaws`). Assumes nothing.
use Rattle.script.proofs.LineLaws.{some_target, no_target}
use Rattle.script.proofs.line.has_target.Goals as goal

pub returns-in-IfEqual : goal.returns-in-IfEqual
returns-in-IfEqual c = let x = c.args.x in some_target x.r x.c x.target x.opcode c.in-IfEqual.is

pub returns-in_default : goal.returns-in_default
returns-in_default c = let x = c.args.x in let no = c.in_default in
    no_target x.r x.c x.target x.opcode no.not-IfEqual no.not-IfBelow no.not-Goto no.not-IfKept no.not-IfWork no.not-IfEqualRegisters
