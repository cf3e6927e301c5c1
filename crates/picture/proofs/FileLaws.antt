-- The laws of `specs/File.antt`.
--     whole_no, whole_is, whole_out            whether the limits are all there
--     length_limits, limits_start, limits_next  numbers written one after another
-- Assumes nothing.
use mathlib.Core.Path.{◌≡◌, refl, ap, subst, ◌∙◌}
use mathlib.Core.Bool.{true, false}
use mathlib.Core.List.{List, [], ◌∷◌, ◌++◌}
use Prim.Native.Nat.{ℕ, zero, suc, ◌+◌, ◌*◌, ◌≤◌, ◌<◌}
use native.Mathlib.Omega.{arith}
use lib.ListN.{length, set, length-append}
use lib.Dec.{leb}
use borrow.Author.Tests.{leb-true, le-leb, lt-leb}
use Rattle.words.specs.Words.{word_at}
use Rattle.spec.proofs.BoolLaws.{and_both}
use Rattle.print.specs.Written.{Added}
use Rattle.print.proofs.AddedLaws.{added_as, added_none, added_byte}
use Rattle.picture.specs.File.{index_count, limits_at, is_whole, number_at, place_of, limits_from}

module _ (bytes : List ℕ) (at n : ℕ) (e : n ≡ word_at bytes at) where
  pub whole_no : 1000 < n → false ≡ is_whole bytes at
  unfolding is_whole
  whole_no h = let l : 1000 < word_at bytes at = omega arith in rw (lt-leb (word_at bytes at) 1000 l)

  pub whole_is : n ≤ 1000 → leb (4 * at + 4 + 64 * n) (length bytes) ≡ is_whole bytes at
  unfolding is_whole
  whole_is h = let l : word_at bytes at ≤ 1000 = omega arith in rw (le-leb (word_at bytes at) 1000 l) (ap (λ m. leb (4 * at + 4 + 64 * m) (length bytes)) e)

pub whole_out : (bytes : List ℕ) (at : ℕ) → is_whole bytes at ≡ true → (index_count bytes at ≤ 1000) × (limits_at at + 64 * index_count bytes at ≤ length bytes)
unfolding is_whole
whole_out bytes at e =
    let (p, q) = and_both (leb (index_count bytes at) 1000) (leb (limits_at at + 64 * index_count bytes at) (length bytes)) e in
    (leb-true (index_count bytes at) 1000 p, leb-true (limits_at at + 64 * index_count bytes at) (length bytes) q)

pub length_limits : (bytes : List ℕ) (at first n : ℕ) → length (limits_from bytes at first n) ≡ n
unfolding limits_from
length_limits bytes at first zero = refl
length_limits bytes at first (suc n) =
    let r = length_limits bytes at first n in
    length-append (limits_from bytes at first n) (number_at bytes (place_of at first n) ∷ []) ∙ omega arith

module _ (bytes : List ℕ) (at first : ℕ) (o : List ℕ) where
  pub limits_start : Added (limits_from bytes at first 0) 0 0 o o
  unfolding limits_from
  limits_start = added_none 0 o

  pub limits_next : (j x : ℕ) (o1 : List ℕ) → j < length o → x ≡ number_at bytes (place_of at first j) → Added (limits_from bytes at first j) 0 j o o1
      → Added (limits_from bytes at first (j + 1)) 0 (j + 1) o (set o1 j x)
  unfolding limits_from
  limits_next j x o1 h e y =
      let l = length_limits bytes at first j in
      let s : suc j ≡ j + 1 = omega arith in
      subst (λ n. Added (limits_from bytes at first n) 0 (j + 1) o (set o1 j x)) s
      (added_as (limits_from bytes at first j ++ (x ∷ [])) (limits_from bytes at first (suc j)) 0 (j + 1) o (set o1 j x)
      (ap (λ w. limits_from bytes at first j ++ (w ∷ [])) e) (added_byte (limits_from bytes at first j) 0 j x o o1 (omega arith) y))
