-- `script::line::is_present` meets its contract (`LineLaws`). Assumes nothing.
use Rattle.spec.specs.Script.{instruction_of}
use Rattle.script.proofs.LineLaws.{not_present}
use Rattle.script.proofs.line.is_present.Goals as goal

pub returns-in-Present : goal.returns-in-Present
unfolding instruction_of
returns-in-Present c = rw c.in-Present.is

pub returns-in_default : goal.returns-in_default
returns-in_default c = let x = c.args.x in not_present x.r x.c x.target x.opcode c.in_default.not-Present
