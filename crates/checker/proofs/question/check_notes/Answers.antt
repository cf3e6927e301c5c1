-- `checker::question::check_notes` meets its contract: the first no, or all yes (`AskLaws`). Assumes nothing.
use mathlib.Core.Path.{sym, ◌∙◌}
use Rattle.rule.proofs.AnswerLaws.{handed_on}
use Rattle.checker.proofs.PassLaws.{few_nodes}
use Rattle.checker.proofs.AskLaws.{some_node, no_9, no_10, last_11}
use Rattle.checker.proofs.question.check_notes.Goals as goal

pub ask_first-requires : goal.ask_first-requires
ask_first-requires g c = c.requires

pub returns-in_err-ask_first : goal.returns-in_err-ask_first
returns-in_err-ask_first g c =
    let no = handed_on (λ u. tt) c.from_residual.result c.in_err-ask_first.field-0.0 c.from_residual.ensures.1 in
    no_9 c.args.rule.now g.W.Word.IS_WIDE (g.W.Word.numbers c.args.script.now) _ _ _ no (no ∙ c.in_err-ask_first.ensures)

pub ask_known-requires : goal.ask_known-requires
ask_known-requires g c = (some_node c.args.rule.now g.W.Word.IS_WIDE (g.W.Word.numbers c.args.script.now) c.requires.0.0, few_nodes c.args.rule.now c.requires.0.0)

pub returns-in_err-ask_known : goal.returns-in_err-ask_known
returns-in_err-ask_known g c =
    let no = handed_on (λ u. tt) c.from_residual-in_err-ask_known.result c.in_err-ask_known.field-0.0 c.from_residual-in_err-ask_known.ensures.1 in
    no_10 c.args.rule.now g.W.Word.IS_WIDE (g.W.Word.numbers c.args.script.now) _ (sym c.in_ok-ask_first.ensures) _ _ no (no ∙ c.in_err-ask_known.ensures)

pub ask_following-requires : goal.ask_following-requires
ask_following-requires g c = c.requires

pub returns : goal.returns
returns g c = last_11 c.args.rule.now g.W.Word.IS_WIDE (g.W.Word.numbers c.args.script.now) _ (sym c.in_ok-ask_first.ensures) (sym c.in_ok-ask_known.ensures) c.ask_following.ensures
