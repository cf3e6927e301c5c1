-- `sets::first_from` meets its contract (`WordLaws`). Assumes nothing.
use Rattle.sets.proofs.WordLaws.{word_first}
use Rattle.sets.proofs.first_from.Goals as goal

pub returns : goal.returns
returns c = word_first c.args.w c.args.k c.requires
