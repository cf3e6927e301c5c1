-- `machine::run` meets its contract: the run of the rule moved and the script (`AnswerLaws`). Assumes nothing.
use mathlib.Core.Path.{refl}
use native.Mathlib.Omega.{arith}
use Rattle.spec.specs.Questions.{refused}
use Rattle.rule.specs.Nodes.{form_by}
use Rattle.rule.proofs.EachLaws.{length_each}
use Rattle.machine.proofs.AnswerLaws.{answered, running_second, running_many}
use Rattle.machine.proofs.run.Goals as goal

pub returns-then-most_nodes-rule : goal.returns-then-most_nodes-rule
returns-then-most_nodes-rule g c =
    let there = length_each g.met.W.Word.each c.args.rule.now in
    let both = answered (form_by g.W.Word.IS_WIDE) (g.W.Word.numbers c.args.rule.now) (g.W.Word.numbers c.args.script.now) c.args.inputs.now c.args.budget c.args.history.now (refused 1 0) (running_many (form_by g.W.Word.IS_WIDE) (g.W.Word.numbers c.args.rule.now) (g.W.Word.numbers c.args.script.now) c.args.inputs.now c.args.budget c.args.history.now (omega (arith, c.most_nodes.ensures, c.if-most_nodes-rule.true))) _ _ refl refl in
    record { report = both.0; left = both.1.0; safe = both.1.1 }

pub returns : goal.returns
returns g c =
    let there = length_each g.met.W.Word.each c.args.rule.now in
    let both = answered (form_by g.W.Word.IS_WIDE) (g.W.Word.numbers c.args.rule.now) (g.W.Word.numbers c.args.script.now) c.args.inputs.now c.args.budget c.args.history.now _
    (running_second g.W.Word.IS_WIDE (g.W.Word.numbers c.args.rule.now) _ (g.W.Word.numbers c.args.script.now) c.args.inputs.now c.args.budget c.args.history.now
    c.in_second_form.ensures (omega (arith, c.most_nodes.ensures, c.if-most_nodes-rule.false))) _ _ c.run_in.ensures.report c.run_in.ensures.left in
    record { report = both.0; left = both.1.0; safe = both.1.1 }
