-- `finder::rows::load` meets its contract: a line read (`RowLaws.loaded`). Assumes nothing.
use Rattle.finder.proofs.RowLaws.{loaded}
use Rattle.finder.proofs.rows.load.Goals as goal

pub returns : goal.returns
returns c =
    loaded c.args.notes.now c.args.l
