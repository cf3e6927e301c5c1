-- `text::scan::read_register` meets its contract. Assumes nothing.
use mathlib.Core.Bool.{true}
use mathlib.Core.Option.{some}
use mathlib.Core.Path.{◌≡◌, sym, subst}
use Prim.Native.Nat.{◌+◌}
use lib.ListN.{drop}
use Rattle.grammar.specs.Scan.{between, stuck_from}
use Rattle.grammar.specs.Place.{at, comparison}
use Rattle.text.specs.Places.{scan_at, Over}
use Rattle.text.specs.declared.token.Token.TheVariants as token
use Rattle.text.specs.declared.scan.Want.TheVariants as want
use Rattle.text.proofs.OverLaws.{register_touches, register_breaks, register_over}
use Rattle.text.proofs.scan.read_register.Goals as goal

pub returns-then-touching : goal.returns-then-touching
returns-then-touching c =
    let known = c.args in
    subst (λ t. stuck_from known.at (scan_at want.Operand known.depth t) (drop known.at known.text.now) ≡ some known.at) (sym
    c.if-touching.true) (register_touches known.text.now known.at c.requires.0 known.depth c.requires.1)

pub returns-then-next-first : goal.returns-then-next-first
returns-then-next-first c =
    let known = c.args in
    subst (λ t. stuck_from known.at (scan_at want.Operand known.depth t) (drop known.at known.text.now) ≡ some (known.at + 1)) (sym
    c.if-touching.false) (register_breaks known.text.now known.at c.requires.0 known.depth _ _ c.requires.1
    c.digits_at-digits.ensures.value c.digits_at-digits.ensures.next c.if-next-first.true)

pub returns : goal.returns
returns c =
    let known = c.args in
    subst (λ t. Over known.text.now known.at (scan_at want.Operand known.depth t) (token.Register c.digits_at-digits.result.value)
    c.digits_at-digits.result.next (between true (at comparison known.depth))) (sym c.if-touching.false) (register_over
    known.text.now known.at c.requires.0 known.depth _ _ c.requires.1 c.digits_at-digits.ensures.value c.digits_at-digits.ensures.next
    c.if-next-first.false)
