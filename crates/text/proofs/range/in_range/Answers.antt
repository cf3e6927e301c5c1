-- `text::range::in_range` meets its contract. Assumes nothing.
use mathlib.Core.Path.{sym, ap, ap₂, ◌∙◌}
use lib.Dec.{leb}
use Rattle.grammar.specs.Texting.{most_after}
use Rattle.grammar.specs.Grammar.{is_digit}
use Rattle.text.proofs.InRangeLaws.{in_range_other, in_range_inside, in_range_start}
use Rattle.text.proofs.range.in_range.Goals as goal

pub returns-then-not-is_digit : goal.returns-then-not-is_digit
returns-then-not-is_digit c =
    in_range_other c.args.text.now c.args.at (sym c.is_digit.ensures ∙ c.if-not-is_digit.true)

pub returns-then-is_digit : goal.returns-then-is_digit
returns-then-is_digit c =
    in_range_inside c.args.text.now c.args.at (sym (c.is_digit-2.ensures ∙ ap is_digit c.requires.1) ∙ c.if-is_digit.true)

pub returns : goal.returns
returns c =
    ap₂ leb c.digits_at-digits.ensures.value (c.most_after.ensures ∙ ap most_after c.requires.1) ∙ in_range_start
    c.args.text.now c.args.at (sym c.is_digit.ensures ∙ c.if-not-is_digit.false)
    (sym (c.is_digit-2.ensures ∙ ap is_digit c.requires.1) ∙ c.if-is_digit.false)
