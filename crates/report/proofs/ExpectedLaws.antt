-- The words for what may stand at a place (`specs/Compiled.antt`).
--     item_stands, item_not        one of them, where it may stand and where not
--     candidate_count              how many there are
--     short_at, pair_at, each_begins, each_goes_on      one after another
--     expected_none, expected_some      within a word, and elsewhere
-- Assumes nothing.
use mathlib.Core.Path.{◌≡◌, refl, sym, ap, subst}
use mathlib.Core.Logic.{◌≢◌}
use mathlib.Core.Bool.{Bool, true, false, cond, ◌&&◌}
use mathlib.Core.List.{List, [], ◌∷◌, ◌++◌, map}
use Prim.Native.Nat.{ℕ, zero, suc, ◌+◌, ◌-◌, ◌*◌, ◌≤◌, ◌<◌}
use native.Mathlib.Omega.{arith}
use lib.ListN.{length, get_or, length-append}
use lib.Dec.{leb}
use borrow.Author.Tests.{leb-true}
use denote.Bor.{Bor}
use Rattle.std.proofs.lemmas.List.{get_or-map}
use Rattle.spec.proofs.BoolLaws.{and_both}
use Rattle.print.specs.Decimal.{space}
use Rattle.print.specs.Written.{Added, Filled}
use Rattle.print.proofs.AddedLaws.{added_none, filled_as, filled_is, filled_last, each_start, each_next}
use Rattle.report.specs.Compiled.{Candidate, itself, candidates, candidate_of, all_short, item_text, each_text, items_text, letters_before, or_else, expected_items}

-- ---- one

pub item_stands : (b : Bool) (shown : List ℕ) {at end : ℕ} {o o1 : List ℕ} → b ≡ true → Filled 9 (space ∷ shown) at end o o1
    → Filled 9 (cond b (space ∷ shown) []) at end o o1
item_stands b shown e x = filled_is (ap (λ c. cond c (space ∷ shown) []) (sym e)) x

pub item_not : (b : Bool) (shown : List ℕ) (at : ℕ) (o : List ℕ) → b ≡ false → Filled 9 (cond b (space ∷ shown) []) at at o o
item_not b shown at o e = filled_is (ap (λ c. cond c (space ∷ shown) []) (sym e)) (filled_as 9 (omega arith) (added_none at o))

abbrev pub candidate_at : ℕ → Candidate
candidate_at k = get_or candidates k (itself [])

pub candidate_count : length candidates ≡ 18
unfolding candidates
candidate_count = refl

-- ---- one after another

abbrev no_bytes : Bor (List ℕ)
no_bytes = record { ref_ptr = (0, 0); now = [] }

pub short_at : (cs : List Candidate) (k : ℕ) → k < length cs → all_short cs ≡ true
    → (length (get_or cs k (itself [])).tried ≤ 8) × (length (get_or cs k (itself [])).shown ≤ 8)
short_at [] k h e = absurd (omega arith)
short_at (c ∷ cs) zero h e =
    let (both, rest) = and_both _ (all_short cs) e in
    let (t, s) = and_both (leb (length c.tried) 8) (leb (length c.shown) 8) both in
    (leb-true (length c.tried) 8 t, leb-true (length c.shown) 8 s)
short_at (c ∷ cs) (suc k) h e = short_at cs k (omega arith) (and_both (leb (length c.tried) 8 && leb (length c.shown) 8) (all_short cs) e).1

module _ (text : List ℕ) (start typed at : ℕ) (o : List ℕ) (ps : List (Bor (List ℕ) × Bor (List ℕ))) where
  abbrev item : ℕ → List ℕ
  item k = item_text text start typed (get_or (map candidate_of ps) k (itself []))

  pub pair_at : (k : ℕ) → k < length ps → candidate_of (get_or ps k (no_bytes, no_bytes)) ≡ get_or (map candidate_of ps) k (itself [])
  pair_at k h = sym (get_or-map candidate_of ps k (no_bytes, no_bytes) (itself []) h)

  pub each_begins : Filled (9 * 0) (each_text text start typed (map candidate_of ps) 0) at at o o
  unfolding each_text
  each_begins = each_start item 9 at o

  pub each_goes_on : (k end end2 : ℕ) (o1 o2 : List ℕ) → k < length ps → at + 9 * (k + 1) ≤ length o
      → Filled (9 * k) (each_text text start typed (map candidate_of ps) k) at end o o1
      → Filled 9 (item_text text start typed (candidate_of (get_or ps k (no_bytes, no_bytes)))) end end2 o1 o2
      → Filled (9 * (k + 1)) (each_text text start typed (map candidate_of ps) (k + 1)) at end2 o o2
  unfolding each_text
  each_goes_on k end end2 o1 o2 h room x y =
      each_next item 9 at o k end end2 o1 o2 room x (filled_is (ap (item_text text start typed) (pair_at k h)) y)

-- ---- where there is none

module _ (a b : List ℕ) (at end : ℕ) (o o1 : List ℕ) (x : Filled 162 a at end o o1) where
  or_some : (l : List ℕ) → length l ≢ 0 → l ≡ or_else l b
  or_some [] h = absurd (h refl)
  or_some (c ∷ cs) h = refl

  or_none : (l : List ℕ) → length l ≡ 0 → l ++ b ≡ or_else l b
  or_none [] e = refl
  or_none (c ∷ cs) e = absurd (omega arith)

  else_none : (end2 : ℕ) (o2 : List ℕ) → end ≡ at → at + 162 ≤ length o → Filled 162 b at end2 o1 o2 → Filled 162 (or_else a b) at end2 o o2
  else_none end2 o2 e room y =
      let l = x.added.ends in
      let none : length a ≡ 0 = omega arith in
      let s = y.short in
      let z = or_none a none in
      filled_is z
      (filled_as 162 (rw (length-append a b) (omega arith))
      (filled_last room x (subst (λ n. Added b n end2 o1 o2) (sym e) y.added)))

  else_some : end ≢ at → Filled 162 (or_else a b) at end o o1
  else_some h =
      let l = x.added.ends in
      filled_is (or_some a (λ z. h (omega arith))) x

module _ (text : List ℕ) (place n : ℕ) (e : n ≡ letters_before text place) (at end : ℕ) (o o1 : List ℕ)
    (x : Filled 162 (items_text text (place - n) n (length candidates)) at end o o1) where
  abbrev begun : List ℕ
  begun = items_text text (place - n) n (length candidates)

  abbrev stand : List ℕ
  stand = items_text text place 0 (length candidates)

  all : or_else begun stand ≡ expected_items text place
  unfolding expected_items
  all = ap (λ m. or_else (items_text text (place - m) m (length candidates)) stand) e

  pub expected_none : (end2 : ℕ) (o2 : List ℕ) → end ≡ at → at + 162 ≤ length o → Filled 162 stand at end2 o1 o2
      → Filled 162 (expected_items text place) at end2 o o2
  expected_none end2 o2 d room y = filled_is all (else_none begun stand at end o o1 x end2 o2 d room y)

  pub expected_some : end ≢ at → Filled 162 (expected_items text place) at end o o1
  expected_some d = filled_is all (else_some begun stand at end o o1 x d)
