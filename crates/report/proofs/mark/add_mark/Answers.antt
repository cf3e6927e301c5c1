-- `report::mark::add_mark` meets its contract. Assumes nothing.
use Rattle.report.specs.Compiled.{mark_text}
use Rattle.print.proofs.AddedLaws.{filled_then}
use Rattle.report.proofs.mark.add_mark.Goals as goal

pub returns : goal.returns
unfolding mark_text
returns c =
    filled_then c.requires
    c.add_text-end.ensures c.add_pointer.ensures
