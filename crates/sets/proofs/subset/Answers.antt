-- `sets::subset` meets its contract (`WordLaws`). Assumes nothing.
use Rattle.sets.proofs.WordLaws.{word_within}
use Rattle.sets.proofs.subset.Goals as goal

pub returns : goal.returns
returns c = word_within c.args.a c.args.b c.ranges.a.fits c.ranges.b.fits
