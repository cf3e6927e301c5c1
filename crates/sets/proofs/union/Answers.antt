-- `sets::union` meets its contract (`WordLaws`). Assumes nothing.
use Rattle.sets.proofs.WordLaws.{word_or}
use Rattle.sets.proofs.union.Goals as goal

pub returns : goal.returns
returns c = word_or c.args.a c.args.b
