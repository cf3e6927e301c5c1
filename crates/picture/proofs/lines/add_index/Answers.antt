-- `picture::lines::add_index` meets its contract. Assumes nothing.
use native.Mathlib.Omega.{arith}
use Rattle.picture.specs.Lines.{index_text}
use Rattle.print.proofs.DecimalLaws.{number_filled, number_room}
use Rattle.print.proofs.AddedLaws.{filled_as, filled_then, filled_room}
use Rattle.picture.proofs.lines.add_index.Goals as goal

pub add_number-answer_at-requires : goal.add_number-answer_at-requires
add_number-answer_at-requires c = let small = c.requires.0 in let room = c.requires.1 in number_room 2 c.args.i 32 c.args.at c.args.out.now (omega arith) (omega arith)

pub add_answer-reason_at-requires : goal.add_answer-reason_at-requires
add_answer-reason_at-requires c = let small = c.requires.0 in let room = c.requires.1 in let f1 = number_filled 2 c.args.i 32 (omega arith) c.add_number-answer_at.ensures in filled_room 5 (omega arith) f1

pub add_reason-end-requires : goal.add_reason-end-requires
add_reason-end-requires c = let small = c.requires.0 in let room = c.requires.1 in let f1 = number_filled 2 c.args.i 32 (omega arith) c.add_number-answer_at.ensures in let f2 = filled_then (omega arith) f1 c.add_answer-reason_at.ensures in filled_room 64 (omega arith) f2

pub add_bytes-requires : goal.add_bytes-requires
add_bytes-requires c = let small = c.requires.0 in let room = c.requires.1 in let f1 = number_filled 2 c.args.i 32 (omega arith) c.add_number-answer_at.ensures in let f2 = filled_then (omega arith) f1 c.add_answer-reason_at.ensures in let f3 = filled_then (omega arith) f2 c.add_reason-end.ensures in filled_room 1 (omega arith) f3

pub returns : goal.returns
unfolding index_text
returns c = let small = c.requires.0 in let room = c.requires.1 in let f1 = number_filled 2 c.args.i 32 (omega arith) c.add_number-answer_at.ensures in let f2 = filled_then (omega arith) f1 c.add_answer-reason_at.ensures in let f3 = filled_then (omega arith) f2 c.add_reason-end.ensures in filled_then (omega arith) f3 (filled_as 1 (omega arith) c.add_bytes.ensures)
