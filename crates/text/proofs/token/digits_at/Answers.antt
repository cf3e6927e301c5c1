-- `text::token::digits_at` meets its contract: the digits passed make the value (`DigitLaws.Passed`). Assumes nothing.
use mathlib.Core.Path.{sym, subst, ◌∙◌}
use Prim.Native.Nat.{◌+◌}
use native.Mathlib.Omega.{arith}
use lib.ListN.{get_or}
use Rattle.text.proofs.DigitLaws.{digit_high, cap_small, Passed, passed_start, passed_next, passed_stop, passed_end}
use Rattle.text.proofs.token.digits_at.Goals as goal

pub loop-i-init : goal.loop-i-init
loop-i-init c = passed_start c.args.text.now c.args.at c.requires

pub returns-then-not-is_digit : goal.returns-then-not-is_digit
returns-then-not-is_digit c =
    let x = passed_stop _ _ _ _ c.loop-i.invariant c.loop-i-test.true (sym c.is_digit.ensures ∙ c.if-not-is_digit.true) in
    record { value = x.value_is_lem; next = x.next_is }

pub overflow_mul-value : goal.overflow_mul-value
overflow_mul-value c = omega (arith, cap_small c.loop-i.invariant.exact, c.loop-i.invariant.value_is_lem)

pub overflow_add-value : goal.overflow_add-value
overflow_add-value c =
    let d = sym c.is_digit.ensures ∙ c.if-not-is_digit.false in
    omega (
      arith,
      digit_high (get_or c.args.text.now c.loop-i.i 0) d,
      cap_small
          c.loop-i.invariant.exact,
      c.loop-i.invariant.value_is_lem,
    )

pub loop-i-preserved : goal.loop-i-preserved
loop-i-preserved c =
    subst (λ v. Passed c.args.text.now c.args.at v (c.loop-i.i + 1)) (sym c.cap-value.ensures) (passed_next _ _ _ _ c.loop-i.invariant
    c.loop-i-test.true (sym c.is_digit.ensures ∙ c.if-not-is_digit.false))

pub returns : goal.returns
returns c = let x = passed_end _ _ _ _ c.loop-i.invariant c.loop-i-test.false in record { value = x.value_is_lem; next = x.next_is }
