-- Digits read from a place of a text, with a value that fits (`specs/Tokens.antt`).
--     cap_low, cap_high, cap_min, cap_small, cap_next      a number above 16,383 counts as 16,384, digit by digit too
--     Passed, passed_start, passed_next, passed_stop, passed_end      the loop over them
--     digit_low, digit_high                       what a digit is
-- Assumes nothing.
use mathlib.Core.Path.{◌≡◌, refl, sym, ap, ◌∙◌}
use mathlib.Core.Logic.{inl, inr}
use mathlib.Core.Bool.{true, false}
use mathlib.Core.List.{List, ◌∷◌}
use Prim.Native.Nat.{ℕ, min, ◌+◌, ◌-◌, ◌*◌, ◌≤◌, ◌<◌}
use native.Mathlib.Numerals.{add-one}
use native.Mathlib.Omega.{arith}
use lib.ListN.{length, get_or, drop, drop_of_length-le}
use lib.Seq.{drop-cons}
use lib.Dec.{leb}
use borrow.Author.Tests.{leb-true, le-leb, lt-leb}
use Rattle.spec.proofs.BoolLaws.{and_both, le_or_lt}
use Rattle.grammar.specs.Grammar.{is_digit}
use Rattle.grammar.specs.Bytes.{leading_from, digits_in}
use Rattle.grammar.proofs.NumeralLaws.{leading_on, leading_off, digits_on, digits_off}
use Rattle.text.specs.Tokens.{capped}

pub digit_low : (b : ℕ) → is_digit b ≡ true → 48 ≤ b
digit_low b e = leb-true 48 b (and_both (leb 48 b) (leb b 57) e).0

pub digit_high : (b : ℕ) → is_digit b ≡ true → b ≤ 57
digit_high b e = leb-true b 57 (and_both (leb 48 b) (leb b 57) e).1

-- ---- a value that fits

pub cap_low : (n : ℕ) → n ≤ 16383 → capped n ≡ n
unfolding capped
cap_low n h = rw (le-leb n 16383 h)

pub cap_high : (n : ℕ) → 16383 < n → capped n ≡ 16384
unfolding capped
cap_high n h = rw (lt-leb n 16383 h)

pub cap_min : (n : ℕ) → min n 16384 ≡ capped n
cap_min n = elim (le_or_lt n 16383) [ inl h ↦ let e = cap_low n h in (omega arith) | inr h ↦ let e = cap_high n h in (omega arith) ]

pub cap_small : (n : ℕ) → capped n ≤ 16384
cap_small n = elim (le_or_lt n 16383) [ inl h ↦ let e = cap_low n h in (omega arith) | inr h ↦ let e = cap_high n h in (omega arith) ]

pub cap_next : (n k : ℕ) → capped (10 * capped n + k) ≡ capped (10 * n + k)
cap_next n k =
    elim (le_or_lt n 16383) [
      | inl h ↦ ap (λ m. capped (10 * m + k)) (cap_low n h)
      | inr h ↦ let e = cap_high n h in cap_high (10 * capped n + k) (omega arith) ∙ sym (cap_high (10 * n + k) (omega arith))
    ]

-- ---- the loop

-- the digits from `at` up to place i are passed, and have this value
pub record Passed (text : List ℕ) (at value i : ℕ) : Type 0 where
  pub exact : ℕ
  pub value_is_lem : value ≡ capped exact
  pub leading : leading_from 0 (drop at text) ≡ leading_from exact (drop i text)
  pub digits : at + digits_in (drop at text) ≡ i + digits_in (drop i text)
  pub inside : i ≤ length text

pub record Read (text : List ℕ) (at value next : ℕ) : Type 0 where
  pub value_is_lem : value ≡ capped (leading_from 0 (drop at text))
  pub next_is : next ≡ at + digits_in (drop at text)

pub passed_start : (text : List ℕ) (at : ℕ) → at ≤ length text → Passed text at 0 at
passed_start text at h = record { exact = 0; value_is_lem = sym (cap_low 0 (omega arith)); leading = refl; digits = refl; inside = h }

module _ (text : List ℕ) (at value i : ℕ) (x : Passed text at value i) where
  module _ (h : i < length text) where
    here : drop i text ≡ get_or text i 0 ∷ drop (i + 1) text
    here = drop-cons text i 0 h ∙ ap (λ n. get_or text i 0 ∷ drop n text) (sym (add-one i))

    pub passed_next : is_digit (get_or text i 0) ≡ true → Passed text at (capped (10 * value + (get_or text i 0 - 48))) (i + 1)
    passed_next e = record {
      exact = 10 * x.exact + (get_or text i 0 - 48);
      value_is_lem = ap (λ v. capped (10 * v + (get_or text i 0 - 48))) x.value_is_lem ∙ cap_next x.exact (get_or text i 0 - 48);
      leading = x.leading ∙ ap (leading_from x.exact) here ∙ leading_on x.exact (get_or text i 0) (drop (i + 1) text) e;
      digits = let a = x.digits in let b = ap digits_in here in let c = digits_on (get_or text i 0) (drop (i + 1) text) e in omega arith;
      inside = omega arith;
    }

    pub passed_stop : is_digit (get_or text i 0) ≡ false → Read text at value i
    passed_stop e = record {
      value_is_lem = x.value_is_lem
          ∙ ap capped (sym (x.leading ∙ ap (leading_from x.exact) here ∙ leading_off x.exact (get_or text i 0) (drop (i + 1) text) e));
      next_is = let a = x.digits in let b = ap digits_in here in let c = digits_off (get_or text i 0) (drop (i + 1) text) e in omega arith;
    }

  pub passed_end : length text ≤ i → Read text at value (length text)
  unfolding leading_from digits_in
  passed_end h =
      let e = drop_of_length-le text h in
      record {
        value_is_lem = x.value_is_lem ∙ ap capped (sym (x.leading ∙ ap (leading_from x.exact) e));
        next_is = let a = x.digits in let b = ap digits_in e in omega arith;
      }
