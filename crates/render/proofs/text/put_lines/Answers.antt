-- `render::text::put_lines` meets its contract: the header's word, the count and the lines, one after another (`AddedLaws`). Assumes nothing.
use Prim.Native.Nat.{◌*◌}
use native.Mathlib.Omega.{arith}
use Rattle.render.specs.Text.{answer_text}
use Rattle.print.proofs.AddedLaws.{filled_as, filled_then, filled_room, filled_last}
use Rattle.print.proofs.DecimalLaws.{number_filled, number_room}
use Rattle.render.proofs.text.put_lines.Goals as goal

pub add_number-lines_at-requires : goal.add_number-lines_at-requires
add_number-lines_at-requires c =
    let few = c.requires.0 in
    let room = c.requires.2 in
    let f1 = filled_as 6 (omega arith) c.add_bytes-count_at.ensures in
    number_room 4 c.args.n 10 c.add_bytes-count_at.result c.add_bytes-count_at.new.out (omega arith) (filled_room 6 (omega arith) f1)

pub add_lines-requires : goal.add_lines-requires
add_lines-requires c =
    let few = c.requires.0 in
    let room = c.requires.2 in
    let f1 = filled_as 6 (omega arith) c.add_bytes-count_at.ensures in
    let f2 = filled_then (omega arith) f1 (number_filled 4 c.args.n 10 (omega arith) c.add_number-lines_at.ensures) in
    (few, c.requires.1, filled_room (30 * c.args.n) (omega arith) f2)

pub returns : goal.returns
unfolding answer_text
returns c =
    let few = c.requires.0 in
    let room = c.requires.2 in
    let f1 = filled_as 6 (omega arith) c.add_bytes-count_at.ensures in
    let f2 = filled_then (omega arith) f1 (number_filled 4 c.args.n 10 (omega arith) c.add_number-lines_at.ensures) in
    filled_last (omega arith) f2 c.add_lines.ensures
