-- `script::line::check_code` meets its contract: questions 5 to 7 in turn (`StrideLaws`). Assumes nothing.
use mathlib.Core.Path.{sym, ◌∙◌}
use Rattle.rule.specs.Nodes.{words_in}
use Rattle.rule.proofs.AnswerLaws.{handed_on}
use Rattle.script.specs.Lines.{opcodes_of}
use Rattle.script.proofs.StrideLaws.{lines_no, allowed_no, last_yes}
use Rattle.script.proofs.line.check_code.Goals as goal

pub returns-then-not-whole-lines : goal.returns-then-not-whole-lines
returns-then-not-whole-lines g c =
    let a = c.args in
    λ t k. lines_no t (opcodes_of a.opcodes) a.whole a.stride a.lines (words_in g.W.Word.IS_WIDE (g.W.Word.numbers a.script.now)) c.if-not-whole-lines.true

pub returns-in_err-ask_allowed : goal.returns-in_err-ask_allowed
returns-in_err-ask_allowed g c =
    let a = c.args in
    let no = handed_on (λ u. tt) c.from_residual.result c.in_err-ask_allowed.field-0.0 c.from_residual.ensures.1 in
    λ t k. allowed_no t (opcodes_of a.opcodes) a.whole a.stride a.lines (words_in g.W.Word.IS_WIDE (g.W.Word.numbers a.script.now)) c.if-not-whole-lines.false _ _ _
    no (no ∙ c.in_err-ask_allowed.ensures t k)

pub returns : goal.returns
returns g c =
    let a = c.args in
    λ t k. last_yes t (opcodes_of a.opcodes) a.whole a.stride a.lines (words_in g.W.Word.IS_WIDE (g.W.Word.numbers a.script.now)) c.if-not-whole-lines.false
    (sym (c.in_ok-ask_allowed.ensures t k)) _ c.ask_followers.ensures
