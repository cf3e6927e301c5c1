-- The laws of `specs/Decimal.antt`.
--     decimal_small, decimal_more                a number's last digit stands after those of its tenth
--     decimal_some, decimal_short                how many digits there are
--     one_digit, tenth, last_room, last_digit    digits written one after another
--     digits_room, end_room                      a number with what ends it has a place
--     number_short, number_filled, number_room    a number of few digits is short
-- Assumes nothing.
use mathlib.Core.Path.{◌≡◌, sym, ap, ◌∙◌}
use mathlib.Core.Logic.{inl, inr}
use mathlib.Core.List.{List, [], ◌∷◌, ◌++◌}
use Prim.Native.Nat.{ℕ, zero, suc, ◌+◌, ◌/◌, ◌%◌, ◌^◌, ◌≤◌, ◌<◌}
use native.Mathlib.Nat.{pow-suc}
use native.Mathlib.Omega.{arith}
use lib.ListN.{length, set, length-append}
use borrow.Author.Tests.{lt-ltb, le-ltb}
use Rattle.spec.proofs.BoolLaws.{le_or_lt}
use Rattle.print.specs.Decimal.{digit, digits_for, decimal, number}
use Rattle.print.specs.Written.{Added, Filled}
use Rattle.print.proofs.AddedLaws.{added_as, added_one, added_byte}

-- any `most` above n gives the same digits
digits_same : (a b n : ℕ) → n < a → n < b → digits_for a n ≡ digits_for b n
unfolding digits_for
digits_same zero b n ha hb = absurd (omega arith)
digits_same (suc a) zero n ha hb = absurd (omega arith)
digits_same (suc a) (suc b) n ha hb =
    elim (le_or_lt 10 n) [
      | inl h ↦ rw (le-ltb n 10 h) (ap (λ l. l ++ (digit (n % 10) ∷ [])) (digits_same a b (n / 10) (omega arith) (omega arith)))
      | inr h ↦ rw (lt-ltb n 10 h)
    ]

pub decimal_small : (n : ℕ) → n < 10 → decimal n ≡ digit n ∷ []
unfolding decimal digits_for
decimal_small n h = rw (lt-ltb n 10 h)

pub decimal_more : (n : ℕ) → 10 ≤ n → decimal n ≡ decimal (n / 10) ++ (digit (n % 10) ∷ [])
unfolding decimal digits_for
decimal_more n h =
    rw (le-ltb n 10 h) (ap (λ l. l ++ (digit (n % 10) ∷ [])) (digits_same n (suc (n / 10)) (n / 10) (omega arith) (omega arith)))

length_more : (n : ℕ) → 10 ≤ n → length (decimal n) ≡ length (decimal (n / 10)) + 1
length_more n h = ap length (decimal_more n h) ∙ length-append (decimal (n / 10)) (digit (n % 10) ∷ [])

pub decimal_some : (n : ℕ) → 0 < length (decimal n)
decimal_some n =
    elim (le_or_lt 10 n) [
      | inl h ↦ let e = length_more n h in omega arith
      | inr h ↦ let e = ap length (decimal_small n h) in omega arith
    ]

-- a number below 10 ^ d has at most d digits
pub decimal_short : (d n : ℕ) → n < 10 ^ suc d → length (decimal n) ≤ suc d
decimal_short zero n h = let e = ap length (decimal_small n h) in omega arith
decimal_short (suc d) n h =
    elim (le_or_lt 10 n) [
      | inl l ↦
          let p = pow-suc 10 (suc d) in
          let r = decimal_short d (n / 10) (omega arith) in
          let e = length_more n l in
          omega arith
      | inr s ↦ let e = ap length (decimal_small n s) in omega arith
    ]

pub one_digit : (n at x : ℕ) (o : List ℕ) → n < 10 → at + length (decimal n) ≤ length o → x ≡ digit n
    → Added (decimal n) at (at + 1) o (set o at x)
one_digit n at x o h room e =
    let d = decimal_some n in
    added_as (x ∷ []) (decimal n) at (at + 1) o (set o at x) (ap (λ y. y ∷ []) e ∙ sym (decimal_small n h)) (added_one x at o (omega arith))

module _ (n at : ℕ) (o : List ℕ) (large : 10 ≤ n) (room : at + length (decimal n) ≤ length o) where
  -- its tenth is smaller, and has a place
  pub tenth : (t : ℕ) → n ≡ t → (n / 10 < t) × (at + length (decimal (n / 10)) ≤ length o)
  tenth t e = let d = length_more n large in (omega arith, omega arith)

  -- and so has the last digit
  pub last_room : (k : ℕ) (o1 : List ℕ) → length o1 ≡ length o → Added (decimal (n / 10)) at k o o1 → k < length o1
  last_room k o1 l y = let d = length_more n large in let s = y.ends in omega arith

  pub last_digit : (k x : ℕ) (o1 : List ℕ) → x ≡ digit (n % 10) → Added (decimal (n / 10)) at k o o1
      → Added (decimal n) at (k + 1) o (set o1 k x)
  last_digit k x o1 e y =
      let d = length_more n large in
      added_as (decimal (n / 10) ++ (x ∷ [])) (decimal n) at (k + 1) o (set o1 k x)
      (ap (λ z. decimal (n / 10) ++ (z ∷ [])) e ∙ sym (decimal_more n large))
      (added_byte (decimal (n / 10)) at k x o o1 (omega arith) y)

-- a number and what ends it
module _ (n end at : ℕ) (o : List ℕ) (room : at + length (number n end) ≤ length o) where
  pub digits_room : at + length (decimal n) < length o
  digits_room = let l = length-append (decimal n) (end ∷ []) in omega arith

  pub end_room : (k : ℕ) (o1 : List ℕ) → length o1 ≡ length o → Added (decimal n) at k o o1 → k < length o1
  end_room k o1 l y = let d = digits_room in let s = y.ends in omega arith

-- a number of at most d + 1 digits, with what ends it
pub number_short : (d n e : ℕ) → n < 10 ^ suc d → length (number n e) ≤ d + 2
number_short d n e h = let s = decimal_short d n h in rw (length-append (decimal n) (e ∷ [])) (omega arith)

pub number_filled : (d n e : ℕ) {at end : ℕ} {o o1 : List ℕ} → n < 10 ^ suc d → Added (number n e) at end o o1
    → Filled (d + 2) (number n e) at end o o1
number_filled d n e h x = record { added = x; short = number_short d n e h }

pub number_room : (d n e at : ℕ) (o : List ℕ) → n < 10 ^ suc d → at + (d + 2) ≤ length o → at + length (number n e) ≤ length o
number_room d n e at o h room = let s = number_short d n e h in omega arith
