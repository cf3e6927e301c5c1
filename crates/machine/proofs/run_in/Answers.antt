-- `machine::run_in` meets its contract: each return is one of the laws of `AnswerLaws`. Assumes nothing.
use mathlib.Core.Path.{sym}
use Rattle.machine.proofs.AnswerLaws.{runnable, script_no, inputs_no, runs, refused_report}
use Rattle.machine.proofs.run_in.Goals as goal

pub returns-in_err-check_in : goal.returns-in_err-check_in
returns-in_err-check_in g c =
    let no = refused_report c.from_residual.result c.in_err-check_in.field-0.0 c.from_residual.ensures.1 in
    let both = script_no c.args.rule.now g.W.Word.IS_WIDE (g.W.Word.numbers c.args.script.now) c.args.inputs.now c.args.budget c.args.history.now _ _ (sym c.in_err-check_in.ensures) _ no in
    record { report = both.0; left = both.1 }

pub returns-in_err-ask_numbers : goal.returns-in_err-ask_numbers
returns-in_err-ask_numbers g c =
    let no = refused_report c.from_residual-in_err-ask_numbers.result c.in_err-ask_numbers.field-0.0 c.from_residual-in_err-ask_numbers.ensures.1 in
    let both = inputs_no c.args.rule.now g.W.Word.IS_WIDE (g.W.Word.numbers c.args.script.now) c.args.inputs.now c.args.budget c.args.history.now (sym c.in_ok-check_in.ensures) _ _ (sym c.in_err-ask_numbers.ensures) _ no in
    record { report = both.0; left = both.1 }

pub run_from-requires : goal.run_from-requires
run_from-requires g c = runnable c.args.rule.now g.W.Word.IS_WIDE (g.W.Word.numbers c.args.script.now) (sym c.in_ok-check_in.ensures)

pub returns : goal.returns
returns g c =
    let both = runs c.args.rule.now g.W.Word.IS_WIDE (g.W.Word.numbers c.args.script.now) c.args.inputs.now c.args.budget c.args.history.now (sym c.in_ok-check_in.ensures) (sym c.in_ok-ask_numbers.ensures) _ c.first_priors.ensures _ _ c.run_from.ensures.report c.run_from.ensures.left in
    record { report = both.0; left = both.1 }
