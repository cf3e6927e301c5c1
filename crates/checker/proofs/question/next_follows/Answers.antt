-- `checker::question::next_follows` meets its contract: the next line is there, since question 7 has a yes. Assumes nothing.
use Rattle.spec.specs.Script.{goes_on}
use mathlib.Core.Path.{sym, ◌∙◌, ap}
use native.Mathlib.Numerals.{add-one}
use Rattle.script.proofs.LineLaws.{line_instruction}
use Rattle.checker.proofs.AskLaws.{next_in, next_yes, next_no}
use Rattle.checker.proofs.question.next_follows.Goals as goal

pub follows-requires : goal.follows-requires
follows-requires g c = let a = c.args in
    let p = c.requires in
    (p.0, p.1, rw add-one (next_in c.args.rule.now g.W.Word.IS_WIDE (g.W.Word.numbers c.args.script.now) p.0.0 a.l p.1.0 (sym c.if-goes_on.true ∙ c.goes_on.ensures ∙ ap goes_on (line_instruction g.W.Word.IS_WIDE (g.W.Word.numbers c.args.script.now) c.args.l c.requires.1.0 _ c.line_word.ensures _ c.decode.ensures.fields))))

pub returns-then-goes_on : goal.returns-then-goes_on
returns-then-goes_on g c = let a = c.args in
    let p = c.requires in
    next_yes c.args.rule.now g.W.Word.IS_WIDE (g.W.Word.numbers c.args.script.now) a.l p.1.0 _ _ (c.goes_on.ensures ∙ ap goes_on (line_instruction g.W.Word.IS_WIDE (g.W.Word.numbers c.args.script.now) c.args.l c.requires.1.0 _ c.line_word.ensures _ c.decode.ensures.fields)) c.if-goes_on.true (rw (← add-one) c.follows.ensures)

pub returns-else-goes_on : goal.returns-else-goes_on
returns-else-goes_on g c = let a = c.args in
    next_no c.args.rule.now g.W.Word.IS_WIDE (g.W.Word.numbers c.args.script.now) a.l c.requires.1.0 _ (c.goes_on.ensures ∙ ap goes_on (line_instruction g.W.Word.IS_WIDE (g.W.Word.numbers c.args.script.now) c.args.l c.requires.1.0 _ c.line_word.ensures _ c.decode.ensures.fields)) c.if-goes_on.false
