-- `limits::judge` meets its contract (`AnswerLaws`, `SecondLaws`). Assumes nothing.
use mathlib.Core.Path.{sym, ap, ◌∙◌}
use mathlib.Core.List.{◌++◌}
use native.Mathlib.Omega.{arith}
use lib.ListN.{drop}
use Rattle.spec.specs.Judging.{state_count}
use Rattle.spec.proofs.RuleLaws.{rule_out}
use Rattle.rule.specs.Nodes.{form_in, form_by}
use Rattle.rule.proofs.AnswerLaws.{handed_on}
use Rattle.rule.proofs.EachLaws.{length_each}
use Rattle.intervals.specs.Limits.{rule_truth, check_limits, bytes_for}
use Rattle.intervals.proofs.LimitsLaws.{asked_out}
use Rattle.limits.proofs.AnswerLaws.{judged_no, judged_yes}
use Rattle.limits.proofs.SecondLaws.{second_limits, second_truth}
use Rattle.limits.proofs.judge.Goals as goal

pub returns-in_err-ask_limits : goal.returns-in_err-ask_limits
returns-in_err-ask_limits g c = let a = c.args in
    let no = handed_on (λ n. n) c.from_residual.result c.in_err-ask_limits.field-0.0 c.from_residual.ensures.1 in
    let both = judged_no (form_by g.W.Word.IS_WIDE) (g.W.Word.numbers a.rule.now) a.lows.now a.highs.now a.out.now _ _ _ no (sym c.in_err-ask_limits.ensures) in
    record { answer = both.0; output = both.1.0; right = both.1.1 }

pub in_second_form-table-requires : goal.in_second_form-table-requires
in_second_form-table-requires g c =
    let there = length_each g.met.W.Word.each c.args.rule.now in
    let few = (rule_out (form_by g.W.Word.IS_WIDE) (g.W.Word.numbers c.args.rule.now) (asked_out _ _ _ _ _ (sym c.in_ok-ask_limits.ensures)).rule_yes).few_nodes in
    omega arith

pub put_answers-requires : goal.put_answers-requires
put_answers-requires g c = let a = c.args in
    let b = g.W.Word.IS_WIDE in
    let r = g.W.Word.numbers a.rule.now in
    let few = (rule_out (form_by b) r (asked_out _ _ _ _ _ (sym c.in_ok-ask_limits.ensures)).rule_yes).few_nodes in
    ap (λ t. check_limits form_in t a.lows.now a.highs.now a.out.now) c.in_second_form-table.ensures
    ∙ second_limits b r a.lows.now a.highs.now a.out.now few ∙ sym c.in_ok-ask_limits.ensures

pub returns : goal.returns
returns g c = let a = c.args in
    let b = g.W.Word.IS_WIDE in
    let r = g.W.Word.numbers a.rule.now in
    let same = ap (λ t. rule_truth form_in t a.lows.now a.highs.now) c.in_second_form-table.ensures ∙ second_truth b r a.lows.now a.highs.now in
    let both = judged_yes (form_by b) r a.lows.now a.highs.now a.out.now (sym c.in_ok-ask_limits.ensures) _
    (c.put_answers.ensures ∙ ap (λ f. bytes_for f (state_count a.lows.now) ++ drop (state_count a.lows.now) a.out.now) same) in
    record { answer = both.0; output = both.1.0; right = both.1.1 }
