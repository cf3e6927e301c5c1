-- `sets::with_node_if` meets its contract (`WordLaws.word_set_if`). Assumes nothing.
use Rattle.sets.proofs.WordLaws.{word_set_if}
use Rattle.sets.proofs.with_node_if.Goals as goal

pub returns : goal.returns
returns c = word_set_if c.args.w c.args.k c.requires c.args.when
