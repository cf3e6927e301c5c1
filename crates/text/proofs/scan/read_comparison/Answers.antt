-- `text::scan::read_comparison` meets its contract. Assumes nothing.
use mathlib.Core.Path.{refl, sym, subst}
use Rattle.grammar.specs.Place.{at, comparison, constant_number}
use Rattle.grammar.specs.Grammar.{equal_sign, below_sign}
use Rattle.text.specs.Places.{Reads}
use Rattle.text.specs.declared.scan.Want.TheVariants as want
use Rattle.text.specs.declared.token.Token.TheVariants as token
use Rattle.text.proofs.OverLaws.{stuck_here, sign_over, comparison_none}
use Rattle.text.proofs.scan.read_comparison.Goals as goal

pub returns-in-61 : goal.returns-in-61
returns-in-61 c =
    let known = c.args in
    subst (Reads known.text.now known.at want.Comparison known.depth known.touching) (sym c.one_byte.ensures) (sign_over
    known.text.now known.at c.requires.0 known.touching (at comparison known.depth) (at constant_number
    known.depth) equal_sign token.Equal c.in-61.is refl refl)

pub returns-in-60 : goal.returns-in-60
returns-in-60 c =
    let known = c.args in
    subst (Reads known.text.now known.at want.Comparison known.depth known.touching) (sym c.one_byte-in-60.ensures) (sign_over
    known.text.now known.at c.requires.0 known.touching (at comparison known.depth) (at constant_number
    known.depth) below_sign token.Below c.in-60.is refl refl)

pub returns-in_default : goal.returns-in_default
returns-in_default c =
    let known = c.args in
    stuck_here known.text.now known.at c.requires.0 known.touching (at comparison known.depth) (comparison_none known.touching
    known.depth _ c.requires.1 c.in_default.in_default-own.rest.0.1 c.in_default.in_default-own.rest.1)
