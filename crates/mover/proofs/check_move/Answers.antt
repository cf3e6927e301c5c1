-- `mover::check_move` meets its contract: questions 5 to 8 for the rule in the second form (`MoverLaws`). Assumes nothing.
use mathlib.Core.Path.{ap, ◌∙◌}
use native.Mathlib.Omega.{arith}
use Rattle.spec.specs.Rule.{check_rule}
use Rattle.spec.proofs.RuleLaws.{rule_out}
use Rattle.rule.specs.Nodes.{form_in, form_by}
use Rattle.rule.proofs.EachLaws.{length_each}
use Rattle.rule.proofs.SecondLaws.{second_asked}
use Rattle.mover.proofs.MoverLaws.{move_asked}
use Rattle.mover.proofs.check_move.Goals as goal

pub in_second_form-requires : goal.in_second_form-requires
in_second_form-requires g c =
    omega (arith, length_each g.met.W.Word.each c.args.rule.now, (rule_out (form_by g.W.Word.IS_WIDE) (g.W.Word.numbers c.args.rule.now) c.requires).few_nodes)

pub check_lines-requires : goal.check_lines-requires
check_lines-requires g c =
    let rule = g.W.Word.numbers c.args.rule.now in
    ap (check_rule form_in) c.in_second_form.ensures
    ∙ second_asked g.W.Word.IS_WIDE rule (rule_out (form_by g.W.Word.IS_WIDE) rule c.requires).few_nodes ∙ c.requires

pub returns : goal.returns
returns g c =
    c.check_lines.ensures
    ∙ move_asked g.W.Word.IS_WIDE (g.W.Word.numbers c.args.rule.now) _ (g.W.Word.numbers c.args.script.now) c.in_second_form.ensures
