-- The laws of `specs/Counted.antt`.
--     count_over, count_missing, count_there     a count by cases
--     count_most, length_words, length_counted   how many words there are
--     words_start, words_next                    words written one after another
-- Assumes nothing.
use mathlib.Core.Path.{◌≡◌, refl, ap, subst, ◌∙◌}
use mathlib.Core.Logic.{inl, inr}
use mathlib.Core.List.{List, [], ◌∷◌, ◌++◌}
use Prim.Native.Nat.{ℕ, zero, suc, ◌+◌, ◌/◌, ◌≤◌, ◌<◌}
use native.Mathlib.Omega.{arith}
use lib.ListN.{length, set, length-append}
use borrow.Author.Tests.{le-leb, lt-leb}
use Rattle.words.specs.Words.{word_at}
use Rattle.spec.proofs.BoolLaws.{le_or_lt}
use Rattle.words.specs.Counted.{words_from, count_in, counted}
use Rattle.print.specs.Written.{Added}
use Rattle.print.proofs.AddedLaws.{added_as, added_none, added_byte}

module _ (most : ℕ) (bytes : List ℕ) (at n : ℕ) (e : n ≡ word_at bytes at) where
  pub count_over : most < n → 0 ≡ count_in most bytes at
  unfolding count_in
  count_over h = let l : most < word_at bytes at = omega arith in rw (lt-leb (word_at bytes at) most l)

  pub count_missing : n ≤ most → length bytes / 4 < at + 1 + n → 0 ≡ count_in most bytes at
  unfolding count_in
  count_missing h m =
      let l : word_at bytes at ≤ most = omega arith in
      let k : length bytes / 4 < at + 1 + word_at bytes at = omega arith in
      rw (le-leb (word_at bytes at) most l, lt-leb (at + 1 + word_at bytes at) (length bytes / 4) k)

  pub count_there : n ≤ most → at + 1 + n ≤ length bytes / 4 → n ≡ count_in most bytes at
  unfolding count_in
  count_there h m =
      let l : word_at bytes at ≤ most = omega arith in
      let k : at + 1 + word_at bytes at ≤ length bytes / 4 = omega arith in
      rw (le-leb (word_at bytes at) most l, le-leb (at + 1 + word_at bytes at) (length bytes / 4) k) e

pub count_most : (most : ℕ) (bytes : List ℕ) (at : ℕ) → count_in most bytes at ≤ most
count_most most bytes at =
    let n = word_at bytes at in
    elim (le_or_lt n most) [
      | inl h ↦ elim (le_or_lt (at + 1 + n) (length bytes / 4)) [
        | inl m ↦ let e = count_there most bytes at n refl h m in omega arith
        | inr m ↦ let e = count_missing most bytes at n refl h m in omega arith
      ]
      | inr h ↦ let e = count_over most bytes at n refl h in omega arith
    ]

pub length_words : (bytes : List ℕ) (at n : ℕ) → length (words_from bytes at n) ≡ n
unfolding words_from
length_words bytes at zero = refl
length_words bytes at (suc n) =
    let r = length_words bytes at n in
    length-append (words_from bytes at n) (word_at bytes (at + n) ∷ []) ∙ omega arith

pub length_counted : (most : ℕ) (bytes : List ℕ) (at : ℕ) → length (counted most bytes at) ≤ most
length_counted most bytes at =
    let l = length_words bytes (at + 1) (count_in most bytes at) in
    let m = count_most most bytes at in
    omega arith

-- words written one after another
module _ (bytes : List ℕ) (at : ℕ) (o : List ℕ) where
  pub words_start : Added (words_from bytes at 0) 0 0 o o
  unfolding words_from
  words_start = added_none 0 o

  pub words_next : (i x : ℕ) (o1 : List ℕ) → i < length o → x ≡ word_at bytes (at + i) → Added (words_from bytes at i) 0 i o o1
      → Added (words_from bytes at (i + 1)) 0 (i + 1) o (set o1 i x)
  unfolding words_from
  words_next i x o1 h e y =
      let l = length_words bytes at i in
      let s : suc i ≡ i + 1 = omega arith in
      subst (λ n. Added (words_from bytes at n) 0 (i + 1) o (set o1 i x)) s
      (added_as (words_from bytes at i ++ (x ∷ [])) (words_from bytes at (suc i)) 0 (i + 1) o (set o1 i x)
      (ap (λ w. words_from bytes at i ++ (w ∷ [])) e) (added_byte (words_from bytes at i) 0 i x o o1 (omega arith) y))
