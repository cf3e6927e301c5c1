-- `finder::search::find_in` meets its contract: no flag is left, so the notes are the largest (`SearchLaws.settled_largest`). Assumes nothing.
use mathlib.Core.Path.{◌∙◌}
use Rattle.finder.proofs.SearchLaws.{settled_largest}
use Rattle.finder.proofs.search.find_in.Goals as goal

pub returns : goal.returns
returns c =
    let e = c.prepare.ensures in
    let d = c.settle.ensures in
    (d.notes_size ∙ e.0, settled_largest _ _ _ _ c.requires.0 d.known d.down)
