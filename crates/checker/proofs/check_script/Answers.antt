-- `checker::check_script` meets its contract: the rule moved and the script have the same answer (`AskLaws`). Assumes nothing.
use mathlib.Core.Path.{◌∙◌}
use native.Mathlib.Omega.{arith}
use Rattle.rule.specs.Nodes.{form_by}
use Rattle.rule.proofs.EachLaws.{length_each}
use Rattle.checker.proofs.AskLaws.{script_second, script_many}
use Rattle.checker.proofs.check_script.Goals as goal

pub returns-then-most_nodes-rule : goal.returns-then-most_nodes-rule
returns-then-most_nodes-rule g c =
    let there = length_each g.met.W.Word.each c.args.rule.now in
    script_many (form_by g.W.Word.IS_WIDE) (g.W.Word.numbers c.args.rule.now) (g.W.Word.numbers c.args.script.now)
    (omega (arith, c.most_nodes.ensures, c.if-most_nodes-rule.true))

pub returns : goal.returns
returns g c =
    let there = length_each g.met.W.Word.each c.args.rule.now in
    c.check_in.ensures
    ∙ script_second g.W.Word.IS_WIDE (g.W.Word.numbers c.args.rule.now) _ (g.W.Word.numbers c.args.script.now) c.in_second_form.ensures
    (omega (arith, c.most_nodes.ensures, c.if-most_nodes-rule.false))
