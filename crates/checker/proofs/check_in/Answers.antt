-- `checker::check_in` meets its contract: the first no, or all yes (`AskLaws`). Assumes nothing.
use mathlib.Core.Path.{sym, ◌∙◌}
use Rattle.spec.proofs.QuestionLaws.{both_passed}
use Rattle.rule.proofs.AnswerLaws.{handed_on}
use Rattle.checker.specs.Settled.{code_asked, belong_asked}
use Rattle.checker.proofs.AskLaws.{rule_no, lines_no, notes_last}
use Rattle.checker.proofs.check_in.Goals as goal

pub returns-in_err-check_rule : goal.returns-in_err-check_rule
returns-in_err-check_rule g c =
    let no = handed_on (λ u. tt) c.from_residual.result c.in_err-check_rule.field-0.0 c.from_residual.ensures.1 in
    rule_no c.args.rule.now g.W.Word.IS_WIDE (g.W.Word.numbers c.args.script.now) _ _ _ no (no ∙ c.in_err-check_rule.ensures)

pub check_lines-requires : goal.check_lines-requires
check_lines-requires g c = sym c.in_ok-check_rule.ensures

pub returns-in_err-check_lines : goal.returns-in_err-check_lines
returns-in_err-check_lines g c =
    let no = handed_on (λ u. tt) c.from_residual-in_err-check_lines.result c.in_err-check_lines.field-0.0 c.from_residual-in_err-check_lines.ensures.1 in
    lines_no c.args.rule.now g.W.Word.IS_WIDE (g.W.Word.numbers c.args.script.now) _ (sym c.in_ok-check_rule.ensures) _ _ no (no ∙ c.in_err-check_lines.ensures)

pub check_notes-requires : goal.check_notes-requires
check_notes-requires g c =
    let both = both_passed (code_asked c.args.rule.now g.W.Word.IS_WIDE (g.W.Word.numbers c.args.script.now)) (belong_asked c.args.rule.now g.W.Word.IS_WIDE (g.W.Word.numbers c.args.script.now)) tt (sym c.in_ok-check_lines.ensures) in
    ((sym c.in_ok-check_rule.ensures, both.0), both.1)

pub returns : goal.returns
returns g c = notes_last c.args.rule.now g.W.Word.IS_WIDE (g.W.Word.numbers c.args.script.now) _ (sym c.in_ok-check_rule.ensures) (sym c.in_ok-check_lines.ensures) c.check_notes.ensures
