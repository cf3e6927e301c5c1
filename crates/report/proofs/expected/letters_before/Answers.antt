-- `report::expected::letters_before` meets its contract (`BegunLaws`). Assumes nothing.
use native.Mathlib.Omega.{arith}
use mathlib.Core.Path.{◌∙◌}
use Rattle.report.proofs.BegunLaws.{letters_last, letters_few, letters_out}
use Rattle.report.proofs.expected.letters_before.Goals as goal

pub returns-then-text-place : goal.returns-then-text-place
returns-then-text-place c = (omega arith, letters_out c.args.text.now c.args.place c.if-text-place.true)

pub returns : goal.returns
returns c =
    let last = c.last_letters.ensures ∙ letters_last c.args.text.now c.args.place c.if-text-place.false in
    (omega (arith, last, letters_few c.args.text.now c.args.place c.if-text-place.false), last)
