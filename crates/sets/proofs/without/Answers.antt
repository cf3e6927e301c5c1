-- `sets::without` meets its contract (`WordLaws`). Assumes nothing.
use Rattle.sets.proofs.WordLaws.{word_clear, clear_none}
use Rattle.sets.proofs.without.Goals as goal

pub returns-then-k-lt64 : goal.returns-then-k-lt64
returns-then-k-lt64 c = word_clear c.args.w c.args.k c.if-k-lt64.true

pub returns-else-k-lt64 : goal.returns-else-k-lt64
returns-else-k-lt64 c = clear_none c.args.w c.args.k c.if-k-lt64.false
