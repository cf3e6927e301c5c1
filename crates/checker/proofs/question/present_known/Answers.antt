-- `checker::question::present_known` meets its contract: closed only where the line is a present. Assumes nothing.
use mathlib.Core.Path.{◌≡◌, sym, ap, ◌∙◌}
use mathlib.Core.Bool.{true}
use Prim.Native.Nat.{◌-◌}
use lib.ListN.{length}
use Rattle.spec.specs.Facts.{value_is, Facts, close}
use Rattle.spec.proofs.RuleLaws.{length_table}
use Rattle.rule.specs.Nodes.{table_in, form_in}
use Rattle.script.specs.Lines.{line_in}
use Rattle.spec.specs.Script.{is_present}
use Rattle.script.proofs.LineLaws.{line_instruction}
use Rattle.checker.proofs.AskLaws.{present_yes, present_no}
use Rattle.checker.proofs.question.present_known.Goals as goal

pub returns-then-is_present : goal.returns-then-is_present
returns-then-is_present g c = let a = c.args in
    let t = table_in a.rule.now in
    let z : length a.rule.now - 1 ≡ length t - 1 = ap (λ n. n - 1) (sym (length_table form_in a.rule.now)) in
    let closed = c.close_facts-x.ensures ∙ ap (close t) c.read_facts.ensures in
    present_yes a.rule.now g.W.Word.IS_WIDE (g.W.Word.numbers a.script.now) a.l c.requires.2 _ _ (c.is_present.ensures ∙ ap is_present (line_instruction g.W.Word.IS_WIDE (g.W.Word.numbers c.args.script.now) c.args.l c.requires.2 _ c.line_word.ensures _ c.decode.ensures.fields)) c.if-is_present.true
    (c.has.ensures ∙ ap (λ (F : Facts). F (value_is true) (length a.rule.now - 1)) closed ∙ ap (close t (line_in g.W.Word.IS_WIDE (g.W.Word.numbers a.script.now) a.l).annotation (value_is true)) z)

pub returns-else-is_present : goal.returns-else-is_present
returns-else-is_present g c = let a = c.args in
    present_no a.rule.now g.W.Word.IS_WIDE (g.W.Word.numbers a.script.now) a.l c.requires.2 _ (c.is_present.ensures ∙ ap is_present (line_instruction g.W.Word.IS_WIDE (g.W.Word.numbers c.args.script.now) c.args.l c.requires.2 _ c.line_word.ensures _ c.decode.ensures.fields)) c.if-is_present.false
