-- `finder::check_instructions` meets its contract: the rule's questions, then those of the code. Assumes nothing.
use mathlib.Core.Path.{sym, ap, ◌∙◌}
use native.Mathlib.Omega.{arith}
use Rattle.spec.specs.Rule.{table_of, check_rule}
use Rattle.spec.specs.Script.{annotated_opcode, check_code}
use Rattle.spec.specs.Facts.{belongs}
use Rattle.spec.proofs.QuestionLaws.{then_passed, then_refused}
use Rattle.spec.proofs.RuleLaws.{rule_out}
use Rattle.largest.specs.Largest.{check_instructions}
use Rattle.rule.specs.Nodes.{form_in, form_by, table_in}
use Rattle.rule.proofs.AnswerLaws.{handed_on}
use Rattle.rule.proofs.EachLaws.{length_each}
use Rattle.rule.proofs.SecondLaws.{second_asked, second_table}
use Rattle.script.proofs.StrideLaws.{bare_is}
use Rattle.checker.proofs.PassLaws.{few_nodes}
use Rattle.checker.proofs.AskLaws.{grouped}
use Rattle.finder.proofs.check_instructions.Goals as goal

pub returns-in_err-check_rule : goal.returns-in_err-check_rule
unfolding check_instructions
returns-in_err-check_rule g c =
    handed_on (λ u. tt) c.from_residual.result c.in_err-check_rule.field-0.0 c.from_residual.ensures.1
    ∙ sym (then_refused _ _ _ _ (sym c.in_err-check_rule.ensures))

pub in_second_form-requires : goal.in_second_form-requires
in_second_form-requires g c =
    omega (arith, length_each g.met.W.Word.each c.args.rule.now, (rule_out (form_by g.W.Word.IS_WIDE) (g.W.Word.numbers c.args.rule.now) (sym c.in_ok-check_rule.ensures)).few_nodes)

pub belonging-most-requires : goal.belonging-most-requires
belonging-most-requires g c =
    let rule = g.W.Word.numbers c.args.rule.now in
    let few = (rule_out (form_by g.W.Word.IS_WIDE) rule (sym c.in_ok-check_rule.ensures)).few_nodes in
    few_nodes c.in_second_form.result.now (ap (check_rule form_in) c.in_second_form.ensures ∙ second_asked g.W.Word.IS_WIDE rule few ∙ sym c.in_ok-check_rule.ensures)

pub returns : goal.returns
unfolding check_instructions
returns g c =
    let rule = g.W.Word.numbers c.args.rule.now in
    let t = table_of (form_by g.W.Word.IS_WIDE) rule in
    let belong = c.belonging-most.ensures ∙ ap belongs (ap table_in c.in_second_form.ensures ∙ second_table g.W.Word.IS_WIDE rule) in
    c.check_code.ensures t (grouped t c.belonging-most.result belong) ∙ ap (check_code t annotated_opcode) (bare_is c.args.instructions.now)
    ∙ sym (then_passed _ _ (sym c.in_ok-check_rule.ensures))
