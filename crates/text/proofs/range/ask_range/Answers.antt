-- `text::range::ask_range` meets its contract: the places passed start no number out of range (`InRangeLaws.Ranging`). What is left of the
-- text falls. Assumes nothing.
use mathlib.Core.Path.{sym, ◌∙◌}
use Rattle.text.proofs.InRangeLaws.{ranging_next, ranging_stop, ranging_end}
use Rattle.text.proofs.range.ask_range.Goals as goal

pub returns-then-not-in_range : goal.returns-then-not-in_range
returns-then-not-in_range c =
    ranging_stop _ _ _ c.loop-i.invariant c.loop-i-test.true (sym c.in_range.ensures ∙ c.if-not-in_range.true)

pub loop-i-preserved : goal.loop-i-preserved
loop-i-preserved c =
    ranging_next _ _ _ c.loop-i.invariant c.loop-i-test.true (sym
    c.in_range.ensures ∙ c.if-not-in_range.false)

pub returns : goal.returns
returns c = ranging_end _ _ _ c.loop-i.invariant c.loop-i-test.false
