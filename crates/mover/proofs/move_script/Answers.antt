-- `mover::move_script` meets its contract: question 13, then the words (`MoverLaws`). Assumes nothing.
use mathlib.Core.Path.{◌≡◌, sym, ap, ap₂, ◌∙◌}
use native.Mathlib.Omega.{arith}
use lib.Dec.{leb}
use lib.ListN.{length}
use Rattle.spec.specs.Questions.{passed, ask_once}
use Rattle.spec.specs.Weaver.{room_for_lines}
use Rattle.spec.proofs.QuestionLaws.{then_passed, then_refused}
use Rattle.moves.specs.Moves.{line_count, move_script}
use Rattle.rule.proofs.AnswerLaws.{handed_on}
use Rattle.rule.proofs.EachLaws.{length_each}
use Rattle.mover.proofs.MoverLaws.{room_in}
use Rattle.mover.proofs.move_script.Goals as goal

pub returns-in_err-ask_room-clause-answer : goal.returns-in_err-ask_room-clause-answer
unfolding move_script
returns-in_err-ask_room-clause-answer g c =
    let script = g.A.Word.numbers c.args.script.now in
    let out = g.B.Word.numbers c.args.out.now in
    let room : ask_once 13 (leb (length c.args.script.now) (length c.args.out.now)) ≡ room_for_lines (line_count script) out =
    ap₂ (λ m n. ask_once 13 (leb m n)) (sym (c.requires ∙ length_each g.met.A.Word.each c.args.script.now)) (sym (length_each g.met.B.Word.each c.args.out.now)) in
    handed_on (λ n. n) c.from_residual.result c.in_err-ask_room.field-0.0 c.from_residual.ensures.1
    ∙ sym (then_refused (room_for_lines (line_count script) out) (passed (line_count script)) _ _ (sym (c.in_err-ask_room.ensures ∙ room)))

pub move_words-requires : goal.move_words-requires
move_words-requires g c =
    let from = c.args.script.now in
    let to = c.args.out.now in
    omega (arith, length_each g.met.A.Word.each from, length_each g.met.B.Word.each to, room_in (length from) (length to) c.in_ok-ask_room.ensures)

pub returns-clause-answer : goal.returns-clause-answer
unfolding move_script
returns-clause-answer g c =
    let script = g.A.Word.numbers c.args.script.now in
    let out = g.B.Word.numbers c.args.out.now in
    let room : ask_once 13 (leb (length c.args.script.now) (length c.args.out.now)) ≡ room_for_lines (line_count script) out =
    ap₂ (λ m n. ask_once 13 (leb m n)) (sym (c.requires ∙ length_each g.met.A.Word.each c.args.script.now)) (sym (length_each g.met.B.Word.each c.args.out.now)) in
    ap passed c.count_lines.ensures ∙ sym (then_passed (room_for_lines (line_count script) out) (passed (line_count script)) (sym (c.in_ok-ask_room.ensures ∙ room)))
