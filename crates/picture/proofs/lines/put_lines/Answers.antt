-- `picture::lines::put_lines` meets its contract. Assumes nothing.
use Prim.Native.Nat.{◌*◌}
use native.Mathlib.Omega.{arith}
use lib.ListN.{length}
use Rattle.picture.specs.Lines.{lines_text}
use Rattle.print.proofs.DecimalLaws.{number_filled, number_room}
use Rattle.print.proofs.AddedLaws.{filled_as, filled_then, filled_room}
use Rattle.picture.proofs.lines.put_lines.Goals as goal

pub add_number-lines_at-requires : goal.add_number-lines_at-requires
add_number-lines_at-requires c =
    let p0 = c.requires.0 in
    let p2 = c.requires.2 in
    let f1 = filled_as 8 (omega arith) c.add_bytes-count_at.ensures in
    number_room 3 (length c.args.answers.now) 10 c.add_bytes-count_at.result c.add_bytes-count_at.new.out (omega arith)
    (filled_room 5 (omega arith) f1)

pub add_indices-requires : goal.add_indices-requires
add_indices-requires c =
    let p0 = c.requires.0 in
    let p2 = c.requires.2 in
    let f1 = filled_as 8 (omega arith) c.add_bytes-count_at.ensures in
    let f2 = filled_then (omega arith) f1 (number_filled 3 (length c.args.answers.now) 10 (omega arith) c.add_number-lines_at.ensures) in
    (c.requires.0, c.requires.1, filled_room (74 * length c.args.answers.now) (omega arith) f2)

pub returns : goal.returns
unfolding lines_text
returns c =
    let p0 = c.requires.0 in
    let p2 = c.requires.2 in
    let f1 = filled_as 8 (omega arith) c.add_bytes-count_at.ensures in
    let f2 = filled_then (omega arith) f1 (number_filled 3 (length c.args.answers.now) 10 (omega arith) c.add_number-lines_at.ensures) in
    (filled_then (omega arith) f2 c.add_indices.ensures).added
