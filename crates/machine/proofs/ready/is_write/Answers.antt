-- `machine::ready::is_write` meets its contract, by opcode (`ReadyLaws`). Assumes nothing.
use Rattle.machine.proofs.ReadyLaws.{writing, not_writing}
use Rattle.machine.proofs.ready.is_write.Goals as goal

pub returns-in-Set : goal.returns-in-Set
returns-in-Set c = let x = c.args.x in writing x.r x.c x.target x.opcode c.in-Set.is

pub returns-in_default : goal.returns-in_default
returns-in_default c = let x = c.args.x in let no = c.in_default in
    not_writing x.r x.c x.target x.opcode no.not-Set no.not-Copy no.not-Raise no.not-Input no.not-Lower
