-- `rule::verdict` meets its contract: each return is one of the laws of `VerdictLaws`. Assumes nothing.
use mathlib.Core.Path.{sym, ap, ◌∙◌}
use native.Mathlib.Omega.{arith}
use Rattle.spec.proofs.RuleLaws.{rule_out}
use Rattle.rule.specs.Answers.{told_of, found_of}
use Rattle.spec.specs.Rule.{table_of, check_rule}
use Rattle.spec.specs.Judging.{states_of, first_false}
use Rattle.rule.specs.Nodes.{form_by, form_in}
use Rattle.rule.proofs.AnswerLaws.{handed_on}
use Rattle.rule.proofs.EachLaws.{length_each}
use Rattle.rule.proofs.SecondLaws.{second_asked, second_table}
use Rattle.rule.proofs.VerdictLaws.{rule_no, length_no, numbers_no, found_at, found_none, right}
use Rattle.rule.proofs.verdict.Goals as goal

pub returns-in_err-check_rule : goal.returns-in_err-check_rule
returns-in_err-check_rule g c =
    let no = handed_on told_of c.from_residual.result c.in_err-check_rule.field-0.0 c.from_residual.ensures.1 in
    let both = right (form_by g.W.Word.IS_WIDE) (g.W.Word.numbers c.args.rule.now) c.args.history.now _ (no ∙ rule_no (form_by g.W.Word.IS_WIDE) (g.W.Word.numbers c.args.rule.now) c.args.history.now _ _ (sym c.in_err-check_rule.ensures)) in
    record { answer = both.0; right = both.1 }

pub returns-then-history-ne0 : goal.returns-then-history-ne0
returns-then-history-ne0 g c =
    let both = right (form_by g.W.Word.IS_WIDE) (g.W.Word.numbers c.args.rule.now) c.args.history.now _ (length_no (form_by g.W.Word.IS_WIDE) (g.W.Word.numbers c.args.rule.now) c.args.history.now (sym c.in_ok-check_rule.ensures) c.if-history-ne0.true) in
    record { answer = both.0; right = both.1 }

pub returns-in_err-ask_numbers : goal.returns-in_err-ask_numbers
returns-in_err-ask_numbers g c =
    let no = handed_on told_of c.from_residual-in_err-ask_numbers.result c.in_err-ask_numbers.field-0.0 c.from_residual-in_err-ask_numbers.ensures.1 in
    let both = right (form_by g.W.Word.IS_WIDE) (g.W.Word.numbers c.args.rule.now) c.args.history.now _ (no ∙ numbers_no (form_by g.W.Word.IS_WIDE) (g.W.Word.numbers c.args.rule.now) c.args.history.now (sym c.in_ok-check_rule.ensures) c.if-history-ne0.false _ _ (sym c.in_err-ask_numbers.ensures)) in
    record { answer = both.0; right = both.1 }

pub in_second_form-table-requires : goal.in_second_form-table-requires
in_second_form-table-requires g c =
    let there = length_each g.met.W.Word.each c.args.rule.now in
    let few = (rule_out (form_by g.W.Word.IS_WIDE) (g.W.Word.numbers c.args.rule.now) (sym c.in_ok-check_rule.ensures)).few_nodes in
    omega arith

pub first_false-requires : goal.first_false-requires
first_false-requires g c =
    let r = g.W.Word.numbers c.args.rule.now in
    let few = (rule_out (form_by g.W.Word.IS_WIDE) r (sym c.in_ok-check_rule.ensures)).few_nodes in
    ap (check_rule form_in) c.in_second_form-table.ensures ∙ second_asked g.W.Word.IS_WIDE r few ∙ sym c.in_ok-check_rule.ensures

pub returns-in-Some : goal.returns-in-Some
returns-in-Some g c =
    let both = right (form_by g.W.Word.IS_WIDE) (g.W.Word.numbers c.args.rule.now) c.args.history.now _
    (found_at (form_by g.W.Word.IS_WIDE) (g.W.Word.numbers c.args.rule.now) c.args.history.now (sym c.in_ok-check_rule.ensures) c.if-history-ne0.false (sym c.in_ok-ask_numbers.ensures) _
    (sym (ap found_of c.in-Some.is) ∙ c.first_false.ensures
    ∙ ap (λ t. first_false t (states_of c.args.history.now))
    (ap (table_of form_in) c.in_second_form-table.ensures ∙ second_table g.W.Word.IS_WIDE (g.W.Word.numbers c.args.rule.now)))) in
    record { answer = both.0; right = both.1 }

pub returns-in-None : goal.returns-in-None
returns-in-None g c =
    let both = right (form_by g.W.Word.IS_WIDE) (g.W.Word.numbers c.args.rule.now) c.args.history.now _
    (found_none (form_by g.W.Word.IS_WIDE) (g.W.Word.numbers c.args.rule.now) c.args.history.now (sym c.in_ok-check_rule.ensures) c.if-history-ne0.false (sym c.in_ok-ask_numbers.ensures)
    (sym (ap found_of c.in-None.is) ∙ c.first_false.ensures
    ∙ ap (λ t. first_false t (states_of c.args.history.now))
    (ap (table_of form_in) c.in_second_form-table.ensures ∙ second_table g.W.Word.IS_WIDE (g.W.Word.numbers c.args.rule.now)))) in
    record { answer = both.0; right = both.1 }
