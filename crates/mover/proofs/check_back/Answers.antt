-- `mover::check_back` meets its contract: the rule's questions, then 20 (`AnswerLaws` of crate moves). Assumes nothing.
use mathlib.Core.Path.{sym, ◌∙◌}
use native.Mathlib.Omega.{arith}
use Rattle.spec.specs.Rule.{form32}
use Rattle.spec.proofs.QuestionLaws.{then_refused}
use Rattle.moves.specs.Moves.{check_back}
use Rattle.moves.proofs.AnswerLaws.{back_in, back_many}
use Rattle.rule.proofs.AnswerLaws.{handed_on}
use Rattle.mover.proofs.check_back.Goals as goal

pub returns-in_err-check_rule : goal.returns-in_err-check_rule
unfolding check_back
returns-in_err-check_rule c =
    handed_on (λ u. tt) c.from_residual.result c.in_err-check_rule.field-0.0 c.from_residual.ensures.1
    ∙ sym (then_refused _ _ _ _ (sym c.in_err-check_rule.ensures))

pub returns-then-most_nodes-rule : goal.returns-then-most_nodes-rule
unfolding form32
returns-then-most_nodes-rule c = sym (back_many c.args.rule.now (sym c.in_ok-check_rule.ensures) (omega (arith, c.most_nodes.ensures, c.if-most_nodes-rule.true)))

pub returns : goal.returns
unfolding form32
returns c = sym (back_in c.args.rule.now (sym c.in_ok-check_rule.ensures) (omega (arith, c.most_nodes.ensures, c.if-most_nodes-rule.false)))
