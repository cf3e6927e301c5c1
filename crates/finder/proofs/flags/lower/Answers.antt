-- `finder::flags::lower` meets its contract (`FlagLaws.lowered`). Assumes nothing.
use Rattle.finder.proofs.FlagLaws.{lowered}
use Rattle.finder.proofs.flags.lower.Goals as goal

pub returns : goal.returns
returns c = lowered c.args.flags.now c.args.l _ c.requires c.without.ensures
