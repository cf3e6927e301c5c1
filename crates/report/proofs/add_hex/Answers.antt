-- `report::add_hex` meets its contract. Assumes nothing.
use lib.ListN.{length}
use mathlib.Core.Path.{ap}
use native.Mathlib.Omega.{arith}
use Rattle.report.specs.Compiled.{hex_text}
use Rattle.print.proofs.AddedLaws.{added_as, filled_as}
use Rattle.report.proofs.NodeLaws.{hex_text_lem, hex_length}
use Rattle.report.proofs.add_hex.Goals as goal

pub add_bytes-requires : goal.add_bytes-requires
add_bytes-requires c =
    let e = ap length (hex_text_lem c.args.word _ _ (omega arith) c.hex-n.ensures.len c.hex-n.ensures.digits) in
    let n = hex_length c.args.word in
    let room = c.requires in
    omega arith

pub returns : goal.returns
returns c =
    filled_as 8 (let n = hex_length c.args.word in omega arith) (added_as _ (hex_text c.args.word) _ _ _ _ (hex_text_lem c.args.word _ _
    (omega arith) c.hex-n.ensures.len c.hex-n.ensures.digits) c.add_bytes.ensures)
