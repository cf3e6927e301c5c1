-- `finder::flags::raise` meets its contract (`FlagLaws.raised`). Assumes nothing.
use Rattle.finder.proofs.FlagLaws.{raised}
use Rattle.finder.proofs.flags.raise.Goals as goal

pub returns : goal.returns
returns c = raised c.args.flags.now c.args.l _ c.requires c.with.ensures
