-- `mover::script_back` meets its contract: question by question, then the words (`MoverLaws`). Assumes nothing.
use mathlib.Core.Path.{sym, ap, ◌∙◌}
use Rattle.spec.specs.Rule.{form64}
use Rattle.spec.specs.Weaver.{output_for}
use Rattle.spec.proofs.QuestionLaws.{then_passed, then_refused}
use Rattle.moves.specs.Moves.{narrow_script, check_back, check_move, check_script_back, move_script, script_back, script_back_output}
use Rattle.moves.proofs.AnswerLaws.{back_out, whole_lines}
use Rattle.rule.proofs.AnswerLaws.{handed_on}
use Rattle.mover.proofs.MoverLaws.{refuses, goes}
use Rattle.mover.proofs.script_back.Goals as goal

pub returns-in_err-check_back : goal.returns-in_err-check_back
unfolding script_back script_back_output check_script_back
returns-in_err-check_back c =
    let rule = c.args.rule.now in let script = c.args.script.now in let out = c.args.out.now in
    let both = refuses (check_script_back rule script) (move_script script out) (narrow_script script) out _ _ _
    (handed_on (λ n. n) c.from_residual.result c.in_err-check_back.field-0.0 c.from_residual.ensures.1)
    (then_refused (check_back rule) (check_move form64 rule script) _ _ (sym c.in_err-check_back.ensures)) in
    record { answer = both.0; output = both.1 }

pub returns-in_err-check_move : goal.returns-in_err-check_move
unfolding script_back script_back_output check_script_back
returns-in_err-check_move c =
    let rule = c.args.rule.now in let script = c.args.script.now in let out = c.args.out.now in
    let both = refuses (check_script_back rule script) (move_script script out) (narrow_script script) out _ _ _
    (handed_on (λ n. n) c.from_residual-in_err-check_move.result c.in_err-check_move.field-0.0 c.from_residual-in_err-check_move.ensures.1)
    (then_passed (check_back rule) (check_move form64 rule script) (sym c.in_ok-check_back.ensures) ∙ sym c.in_err-check_move.ensures) in
    record { answer = both.0; output = both.1 }

pub check_move-requires : goal.check_move-requires
check_move-requires c = (back_out c.args.rule.now (sym c.in_ok-check_back.ensures)).0

pub move_script-requires : goal.move_script-requires
move_script-requires c = whole_lines form64 c.args.rule.now c.args.script.now (sym c.in_ok-check_move.ensures)

pub returns : goal.returns
unfolding script_back script_back_output check_script_back
returns c =
    let rule = c.args.rule.now in let script = c.args.script.now in let out = c.args.out.now in
    let moved = c.move_script.ensures in
    let both = goes (check_script_back rule script) (move_script script out) (narrow_script script) out
    (then_passed (check_back rule) (check_move form64 rule script) (sym c.in_ok-check_back.ensures) ∙ sym c.in_ok-check_move.ensures) _ _
    moved.answer (moved.output ∙ ap (λ x. output_for (narrow_script script) x out) moved.answer) in
    record { answer = both.0; output = both.1 }
