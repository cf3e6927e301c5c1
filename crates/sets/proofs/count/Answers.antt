-- `sets::count` meets its contract (`WordLaws`). Assumes nothing.
use lib.Count.{ones-le}
use Rattle.sets.proofs.WordLaws.{word_count}
use Rattle.sets.proofs.count.Goals as goal

pub returns : goal.returns
returns c = (word_count c.args.w c.ranges.w.fits, ones-le 64 c.args.w c.ranges.w.fits)
