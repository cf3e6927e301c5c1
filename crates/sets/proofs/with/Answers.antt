-- `sets::with` meets its contract (`WordLaws`). Assumes nothing.
use Rattle.sets.proofs.WordLaws.{word_set}
use Rattle.sets.proofs.SetLaws.{adding_none}
use Rattle.sets.proofs.with.Goals as goal

pub returns-then-k-lt64 : goal.returns-then-k-lt64
returns-then-k-lt64 c = word_set c.args.w c.args.k c.if-k-lt64.true

pub returns-else-k-lt64 : goal.returns-else-k-lt64
returns-else-k-lt64 c = adding_none _ c.args.k _ c.if-k-lt64.false
