-- `text::fill_table` meets its contract: each question in turn (`AnswerLaws`). Assumes nothing.
use Rattle.rule.proofs.AnswerLaws.{handed_on}
use mathlib.Core.Path.{sym}
use Rattle.text.proofs.AnswerLaws.{fills_grammar, fills_range, fills_many, fills_short, fills_count}
use Rattle.text.proofs.fill_table.Goals as goal

pub returns-in_err-ask_grammar : goal.returns-in_err-ask_grammar
returns-in_err-ask_grammar c =
    fills_grammar (handed_on (λ n. n) c.from_residual.result c.in_err-ask_grammar.field-0.0 c.from_residual.ensures.1) c.in_err-ask_grammar.ensures

pub returns-in_err-ask_range : goal.returns-in_err-ask_range
returns-in_err-ask_range c =
    fills_range (sym c.in_ok-ask_grammar.ensures)
    (handed_on (λ n. n) c.from_residual-in_err-ask_range.result c.in_err-ask_range.field-0.0 c.from_residual-in_err-ask_range.ensures.1) c.in_err-ask_range.ensures

pub returns-in_default : goal.returns-in_default
returns-in_default c = fills_many (sym c.in_ok-ask_grammar.ensures) (sym c.in_ok-ask_range.ensures) c.in_default.ensures

pub returns-then-lent-n : goal.returns-then-lent-n
returns-then-lent-n c =
    fills_short (sym c.in_ok-ask_grammar.ensures) (sym c.in_ok-ask_range.ensures) c.in-Some.ensures c.if-lent-n.true

pub returns : goal.returns
returns c =
    fills_count (sym c.in_ok-ask_grammar.ensures) (sym c.in_ok-ask_range.ensures) c.in-Some.ensures c.requires.0 c.if-lent-n.false
