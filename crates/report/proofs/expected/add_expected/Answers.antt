-- `report::expected::add_expected` meets its contract. Assumes nothing.
use native.Mathlib.Omega.{arith}
use Rattle.report.specs.Compiled.{expected_text}
use Rattle.print.proofs.AddedLaws.{filled_as, filled_then}
use Rattle.report.proofs.expected.add_expected.Goals as goal

pub returns : goal.returns
unfolding expected_text
returns c =
    let room = c.requires.1 in
    filled_then room (filled_then (omega arith) (filled_as 9 (omega arith)
    c.add_bytes-start.ensures)
    c.add_items-end.ensures) (filled_as 1 (omega arith)
    c.add_bytes.ensures)
