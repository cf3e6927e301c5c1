-- `checker::question::target_follows` meets its contract: the target is a line, since question 7 has a yes. Assumes nothing.
use Rattle.spec.specs.Script.{target_of}
use mathlib.Core.Path.{ap, ◌∙◌}
use Rattle.script.proofs.LineLaws.{line_instruction}
use Rattle.checker.proofs.AskLaws.{target_in, target_is, target_yes, target_no}
use Rattle.checker.proofs.question.target_follows.Goals as goal

pub follows-requires : goal.follows-requires
follows-requires g c = let a = c.args in
    let p = c.requires in
    (p.0, p.1, target_in c.args.rule.now g.W.Word.IS_WIDE (g.W.Word.numbers c.args.script.now) p.0.0 a.l p.1.0 _ (target_is c.args.rule.now g.W.Word.IS_WIDE (g.W.Word.numbers c.args.script.now) a.l p.1.0 _ _ c.if-has_target.true (c.has_target.ensures ∙ ap target_of (line_instruction g.W.Word.IS_WIDE (g.W.Word.numbers c.args.script.now) c.args.l c.requires.1.0 _ c.line_word.ensures _ c.decode-i.ensures.fields))))

pub returns-then-has_target : goal.returns-then-has_target
returns-then-has_target g c = let a = c.args in
    let p = c.requires in
    target_yes c.args.rule.now g.W.Word.IS_WIDE (g.W.Word.numbers c.args.script.now) a.l p.1.0 _ _ (target_is c.args.rule.now g.W.Word.IS_WIDE (g.W.Word.numbers c.args.script.now) a.l p.1.0 _ _ c.if-has_target.true (c.has_target.ensures ∙ ap target_of (line_instruction g.W.Word.IS_WIDE (g.W.Word.numbers c.args.script.now) c.args.l c.requires.1.0 _ c.line_word.ensures _ c.decode-i.ensures.fields))) c.follows.ensures

pub returns-else-has_target : goal.returns-else-has_target
returns-else-has_target g c = let a = c.args in
    target_no c.args.rule.now g.W.Word.IS_WIDE (g.W.Word.numbers c.args.script.now) a.l c.requires.1.0 _ _ c.if-has_target.false (c.has_target.ensures ∙ ap target_of (line_instruction g.W.Word.IS_WIDE (g.W.Word.numbers c.args.script.now) c.args.l c.requires.1.0 _ c.line_word.ensures _ c.decode-i.ensures.fields))
