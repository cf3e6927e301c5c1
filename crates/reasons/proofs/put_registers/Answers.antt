-- `reasons::put_registers` meets its contract (`SecondLaws`). Assumes nothing.
use mathlib.Core.Path.{ap, ◌∙◌}
use native.Mathlib.Omega.{arith}
use Rattle.spec.proofs.RuleLaws.{rule_out}
use Rattle.rule.specs.Nodes.{form_in, form_by}
use Rattle.rule.proofs.EachLaws.{length_each}
use Rattle.intervals.specs.Limits.{check_limits}
use Rattle.intervals.proofs.LimitsLaws.{asked_out}
use Rattle.limits.proofs.SecondLaws.{second_limits}
use Rattle.reasons.proofs.SecondLaws.{second_put}
use Rattle.reasons.proofs.put_registers.Goals as goal

pub in_second_form-table-requires : goal.in_second_form-table-requires
in_second_form-table-requires g c =
    let there = length_each g.met.W.Word.each c.args.rule.now in
    let few = (rule_out (form_by g.W.Word.IS_WIDE) (g.W.Word.numbers c.args.rule.now) (asked_out _ _ _ _ _ c.requires).rule_yes).few_nodes in
    omega arith

pub put_sets-requires : goal.put_sets-requires
put_sets-requires g c = let a = c.args in
    let b = g.W.Word.IS_WIDE in
    let r = g.W.Word.numbers a.rule.now in
    let few = (rule_out (form_by b) r (asked_out _ _ _ _ _ c.requires).rule_yes).few_nodes in
    ap (λ t. check_limits form_in t a.lows.now a.highs.now a.out.now) c.in_second_form-table.ensures
    ∙ second_limits b r a.lows.now a.highs.now a.out.now few ∙ c.requires

pub returns : goal.returns
returns g c = let a = c.args in second_put g.W.Word.IS_WIDE (g.W.Word.numbers a.rule.now) a.lows.now a.highs.now _ _ _ c.in_second_form-table.ensures c.put_sets.ensures
