-- `report::mark::add_pointer` meets its contract. Assumes nothing.
use mathlib.Core.Path.{sym}
use native.Mathlib.Omega.{arith}
use Rattle.print.proofs.AddedLaws.{filled_as, filled_is, filled_then, filled_room}
use Rattle.report.proofs.MarkLaws.{indent_length, indent_text}
use Rattle.report.proofs.mark.add_pointer.Goals as goal

pub slice_bounds-add_bytes-end : goal.slice_bounds-add_bytes-end
slice_bounds-add_bytes-end c = sym (indent_length c.args.place c.shown_from.result c.shown_from.ensures)

pub add_bytes-end-requires : goal.add_bytes-end-requires
add_bytes-end-requires c =
    let l = indent_length c.args.place c.shown_from.result c.shown_from.ensures in
    let e = c.shown_from.ensures in
    let room = c.requires in
    omega arith

pub add_bytes-requires : goal.add_bytes-requires
add_bytes-requires c =
    let e = c.shown_from.ensures in
    let room = c.requires in
    filled_room 2 (omega arith) (filled_as 60 (let l = indent_length c.args.place c.shown_from.result e in omega arith)
    c.add_bytes-end.ensures)

pub returns : goal.returns
returns c =
    let e = c.shown_from.ensures in
    let room = c.requires in
    filled_is (indent_text c.args.place c.shown_from.result e) (filled_then (omega arith) (filled_as 60 (let l = indent_length c.args.place
    c.shown_from.result e in omega arith) c.add_bytes-end.ensures) (filled_as 2 (omega arith)
    c.add_bytes.ensures))
