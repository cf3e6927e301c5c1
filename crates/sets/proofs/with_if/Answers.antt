-- `sets::with_if` meets its contract (`WordLaws`). Assumes nothing.
use Rattle.sets.proofs.SetLaws.{adding_not}
use Rattle.sets.proofs.with_if.Goals as goal

pub returns-else-when : goal.returns-else-when
returns-else-when c = rw c.if-when.false (adding_not _ c.args.k)
