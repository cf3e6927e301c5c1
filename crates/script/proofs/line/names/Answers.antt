-- `script::line::names` meets its contract: opcode by opcode (`LineLaws`). Assumes nothing.
use mathlib.Core.Path.{refl}
use Rattle.spec.specs.Script.{instruction_of, names_allowed}
use Rattle.script.proofs.LineLaws.{names_other}
use Rattle.script.proofs.line.names.Goals as goal

pub returns-in-SetWork-clause-asked : goal.returns-in-SetWork-clause-asked
unfolding instruction_of names_allowed
returns-in-SetWork-clause-asked c = λ t. rw c.in-SetWork.is

pub returns-in-IfKept-clause-asked : goal.returns-in-IfKept-clause-asked
unfolding instruction_of names_allowed
returns-in-IfKept-clause-asked c = λ t. rw c.in-IfKept.is

pub returns-in-IfWork-clause-asked : goal.returns-in-IfWork-clause-asked
unfolding instruction_of names_allowed
returns-in-IfWork-clause-asked c = λ t. rw c.in-IfWork.is

pub returns-in-Keep-clause-asked : goal.returns-in-Keep-clause-asked
unfolding instruction_of names_allowed
returns-in-Keep-clause-asked c = λ t. rw c.in-Keep.is

pub returns-in_default : goal.returns-in_default
returns-in_default c = let x = c.args.x in let no = c.in_default in
    record { asked = λ t. names_other x.r x.c x.target t x.opcode no.not-SetWork no.not-IfKept no.not-IfWork no.not-Keep; bare = λ e. refl }
