-- Question 17's loop over a text's bytes (`specs/Texting.antt` of crate grammar).
--     in_range_other, in_range_inside, in_range_start      a byte that starts no number, and one that does
--     Ranging, ranging_start, ranging_next, ranging_stop, ranging_end      the loop
-- Assumes nothing.
use mathlib.Core.Path.{◌≡◌, refl, sym, ap, ◌∙◌}
use mathlib.Core.Logic.{inl, inr}
use mathlib.Core.Bool.{Bool, true, false, cond}
use mathlib.Core.List.{List}
use Prim.Native.Nat.{ℕ, ◌+◌, ◌≤◌, ◌<◌}
use native.Mathlib.Numerals.{add-one}
use native.Mathlib.Omega.{arith}
use lib.ListN.{length, get_or, drop}
use lib.Dec.{eqb, leb}
use borrow.Author.Tests.{lt-leb}
use Rattle.spec.specs.Logic.{largest_value}
use Rattle.spec.specs.Questions.{passed, refused}
use Rattle.spec.proofs.BoolLaws.{le_or_lt}
use Rattle.spec.proofs.QuestionLaws.{Scanned, scanned_start, scanned_next, scan_no, scan_yes}
use Rattle.grammar.specs.Grammar.{letter_r, is_digit}
use Rattle.grammar.specs.Bytes.{leading_from}
use Rattle.grammar.specs.Texting.{byte_before, most_after, in_range_at, question17}
use Rattle.grammar.proofs.RangeLaws.{quiet, started}
use Rattle.text.specs.Tokens.{capped}
use Rattle.text.proofs.DigitLaws.{cap_low, cap_high}

most_small : (b : ℕ) → most_after b ≤ 16383
most_small b = go (eqb b letter_r)
  where
    go : (x : Bool) → cond x 15 largest_value ≤ 16383
    go true = omega arith
    go false = omega arith

-- a value that fits is above the same limits
cap_leb : (n m : ℕ) → m ≤ 16383 → leb (capped n) m ≡ leb n m
cap_leb n m h =
    elim (le_or_lt n 16383) [
      | inl l ↦ ap (λ k. leb k m) (cap_low n l)
      | inr l ↦ let e = cap_high n l in lt-leb (capped n) m (omega arith) ∙ sym (lt-leb n m (omega arith))
    ]

module _ (text : List ℕ) (i : ℕ) where
  abbrev fits : Bool
  fits = leb (leading_from 0 (drop i text)) (most_after (byte_before text i))

  pub in_range_other : is_digit (get_or text i 0) ≡ false → true ≡ in_range_at text i
  in_range_other e = sym (quiet (is_digit (get_or text i 0)) (is_digit (byte_before text i)) fits (inl e))

  pub in_range_inside : is_digit (byte_before text i) ≡ true → true ≡ in_range_at text i
  in_range_inside e = sym (quiet (is_digit (get_or text i 0)) (is_digit (byte_before text i)) fits (inr e))

  pub in_range_start : is_digit (get_or text i 0) ≡ true → is_digit (byte_before text i) ≡ false
      → leb (capped (leading_from 0 (drop i text))) (most_after (byte_before text i)) ≡ in_range_at text i
  in_range_start e f =
      cap_leb (leading_from 0 (drop i text)) (most_after (byte_before text i)) (most_small (byte_before text i))
      ∙ sym (started (is_digit (get_or text i 0)) (is_digit (byte_before text i)) fits e f)

pub record Ranging (text : List ℕ) (before i : ℕ) : Type 0 where
  pub scanned : Scanned (in_range_at text) (length text) i
  pub last : before ≡ byte_before text i

pub ranging_start : (text : List ℕ) → Ranging text 0 0
ranging_start text = record { scanned = scanned_start (in_range_at text) (length text); last = refl }

module _ (text : List ℕ) (before i : ℕ) (x : Ranging text before i) where
  pub ranging_next : i < length text → in_range_at text i ≡ true → Ranging text (get_or text i 0) (i + 1)
  ranging_next h e = record {
    scanned = scanned_next (in_range_at text) (length text) i h e x.scanned;
    last = sym (ap (byte_before text) (add-one i));
  }

  pub ranging_stop : i < length text → in_range_at text i ≡ false → refused 17 i ≡ question17 text
  unfolding question17
  ranging_stop h e = scan_no 17 (length text) (in_range_at text) i h e x.scanned

  pub ranging_end : length text ≤ i → passed tt ≡ question17 text
  unfolding question17
  ranging_end h = scan_yes 17 (length text) (in_range_at text) i h x.scanned
