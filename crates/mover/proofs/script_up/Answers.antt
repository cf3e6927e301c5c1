-- `mover::script_up` meets its contract: question by question, then the words (`MoverLaws`). Assumes nothing.
use mathlib.Core.Path.{sym, ap, ◌∙◌}
use Rattle.spec.specs.Rule.{form32, check_rule}
use Rattle.spec.specs.Weaver.{output_for}
use Rattle.spec.proofs.QuestionLaws.{then_passed, then_refused}
use Rattle.moves.specs.Moves.{widen_script, check_move, check_script_up, move_script, script_up, script_up_output}
use Rattle.moves.proofs.AnswerLaws.{whole_lines}
use Rattle.rule.specs.Answers.{counted_of}
use Rattle.rule.proofs.AnswerLaws.{handed_on}
use Rattle.mover.proofs.MoverLaws.{refuses, goes, up_words}
use Rattle.mover.proofs.script_up.Goals as goal

pub returns-in_err-check_rule : goal.returns-in_err-check_rule
unfolding script_up script_up_output check_script_up
returns-in_err-check_rule c =
    let rule = c.args.rule.now in let script = c.args.script.now in let out = c.args.out.now in
    let both = refuses (check_script_up rule script) (move_script script out) (widen_script script) out _ _ _
    (handed_on (λ n. n) c.from_residual.result c.in_err-check_rule.field-0.0 c.from_residual.ensures.1)
    (then_refused (check_rule form32 rule) (check_move form32 rule script) _ _ (sym c.in_err-check_rule.ensures)) in
    record { answer = both.0; output = both.1 }

pub returns-in_err-check_move : goal.returns-in_err-check_move
unfolding script_up script_up_output check_script_up
returns-in_err-check_move c =
    let rule = c.args.rule.now in let script = c.args.script.now in let out = c.args.out.now in
    let both = refuses (check_script_up rule script) (move_script script out) (widen_script script) out _ _ _
    (handed_on (λ n. n) c.from_residual-in_err-check_move.result c.in_err-check_move.field-0.0 c.from_residual-in_err-check_move.ensures.1)
    (then_passed (check_rule form32 rule) (check_move form32 rule script) (sym c.in_ok-check_rule.ensures) ∙ sym c.in_err-check_move.ensures) in
    record { answer = both.0; output = both.1 }

pub move_script-requires : goal.move_script-requires
move_script-requires c = whole_lines form32 c.args.rule.now c.args.script.now (sym c.in_ok-check_move.ensures)

pub returns : goal.returns
unfolding script_up script_up_output check_script_up
returns c =
    let rule = c.args.rule.now in let script = c.args.script.now in let out = c.args.out.now in
    let moved = c.move_script.ensures in
    let both = goes (check_script_up rule script) (move_script script out) (widen_script script) out
    (then_passed (check_rule form32 rule) (check_move form32 rule script) (sym c.in_ok-check_rule.ensures) ∙ sym c.in_ok-check_move.ensures) _ _
    moved.answer (moved.output ∙ ap (λ ws. output_for ws (counted_of c.move_script.result) out) (up_words script) ∙ ap (λ x. output_for (widen_script script) x out) moved.answer) in
    record { answer = both.0; output = both.1 }
