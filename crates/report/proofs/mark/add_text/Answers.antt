-- `report::mark::add_text` meets its contract. Assumes nothing.
use native.Mathlib.Omega.{arith}
use Rattle.print.proofs.AddedLaws.{filled_as, filled_is, filled_then, filled_room}
use Rattle.report.proofs.MarkLaws.{shown_few, shown_all}
use Rattle.report.proofs.mark.add_text.Goals as goal

pub add_shown-end-requires : goal.add_shown-end-requires
add_shown-end-requires c =
    let few = c.min-n.ensures in
    let rest = c.saturating_sub.ensures in
    let room = c.requires in
    (omega arith, omega arith)

pub add_bytes-requires : goal.add_bytes-requires
add_bytes-requires c =
    let few = c.min-n.ensures in
    let shown = shown_few c.args.text.now c.shown_from-from.result c.min-n.result in
    let room = c.requires in
    filled_room 1 (omega arith) (filled_as 72 (omega arith) c.add_shown-end.ensures)

pub returns : goal.returns
returns c =
    let few = c.min-n.ensures in
    let shown = shown_few c.args.text.now c.shown_from-from.result c.min-n.result in
    let room = c.requires in
    filled_is
    (shown_all c.args.text.now c.args.place c.shown_from-from.result c.min-n.result c.shown_from-from.ensures (let rest = c.saturating_sub.ensures in omega arith))
    (filled_then (omega arith) (filled_as 72 (omega arith) c.add_shown-end.ensures) (filled_as 1 (omega arith) c.add_bytes.ensures))
