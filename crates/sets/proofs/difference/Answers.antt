-- `sets::difference` meets its contract (`WordLaws`). Assumes nothing.
use Rattle.sets.proofs.WordLaws.{word_minus}
use Rattle.sets.proofs.difference.Goals as goal

pub returns : goal.returns
returns c = word_minus c.args.a c.args.b
