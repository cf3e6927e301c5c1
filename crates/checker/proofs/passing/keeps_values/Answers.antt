-- `checker::passing::keeps_values` meets its contract (`PassLaws`). Assumes nothing.
use Rattle.checker.proofs.PassLaws.{keeping, not_keeping}
use Rattle.checker.proofs.passing.keeps_values.Goals as goal

pub returns-in-Goto : goal.returns-in-Goto
returns-in-Goto c = let i = c.args.i in keeping i.r i.c i.target i.opcode c.in-Goto.is

pub returns-in_default : goal.returns-in_default
returns-in_default c = let i = c.args.i in let no = c.in_default in
    not_keeping i.r i.c i.target i.opcode no.not-Goto no.not-SetWork no.not-Keep
