-- `report::add_node` meets its contract. Assumes nothing.
use native.Mathlib.Omega.{arith}
use Rattle.print.proofs.AddedLaws.{filled_as, filled_then, filled_room}
use Rattle.report.proofs.add_node.Goals as goal

pub add_bytes-requires : goal.add_bytes-requires
add_bytes-requires c =
    let room = c.requires in
    filled_room 1 (omega arith) c.add_hex-end.ensures

pub returns : goal.returns
returns c =
    filled_then (omega arith) c.add_hex-end.ensures (filled_as 1 (omega arith)
    c.add_bytes.ensures)
