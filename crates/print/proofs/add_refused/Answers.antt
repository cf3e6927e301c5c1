-- `print::add_refused` meets its contract: the word, the number and the place, one after another (`AddedLaws`). Assumes nothing.
use native.Mathlib.Omega.{arith}
use Rattle.print.specs.Decimal.{refused_text}
use Rattle.print.proofs.AddedLaws.{filled_as, filled_then, filled_room}
use Rattle.print.proofs.DecimalLaws.{number_filled, number_room}
use Rattle.print.proofs.add_refused.Goals as goal

pub add_number-place_at-requires : goal.add_number-place_at-requires
add_number-place_at-requires c =
    let room = c.requires in
    let f1 = filled_as 8 (omega arith) c.add_bytes-number_at.ensures in
    number_room 19 c.args.question 32 c.add_bytes-number_at.result c.add_bytes-number_at.new.out (omega arith)
    (filled_room 21 (omega arith) f1)

pub add_number-requires : goal.add_number-requires
add_number-requires c =
    let room = c.requires in
    let f1 = filled_as 8 (omega arith) c.add_bytes-number_at.ensures in
    let f2 = filled_then (omega arith) f1 (number_filled 19 c.args.question 32 (omega arith) c.add_number-place_at.ensures) in
    number_room 19 c.args.place 10 c.add_number-place_at.result c.add_number-place_at.new.out (omega arith)
    (filled_room 21 (omega arith) f2)

pub returns : goal.returns
unfolding refused_text
returns c =
    let room = c.requires in
    let f1 = filled_as 8 (omega arith) c.add_bytes-number_at.ensures in
    let f2 = filled_then (omega arith) f1 (number_filled 19 c.args.question 32 (omega arith) c.add_number-place_at.ensures) in
    filled_then (omega arith) f2 (number_filled 19 c.args.place 10 (omega arith) c.add_number.ensures)
