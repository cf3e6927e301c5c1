-- Words written into an output, one after another.
--     set_at                       a store is one word written
--     length_at, at_then, over_then, at_none    words, and more words after them
--     back_at                      words written into the part from a word on are written into the whole
-- Assumes nothing.
use mathlib.Core.Path.{◌≡◌, refl, sym, ap, ◌∙◌}
use mathlib.Core.List.{List, [], ◌∷◌, ◌++◌, append_assoc, append-nil}
use Prim.Native.Nat.{ℕ, zero, suc, ◌+◌, ◌-◌, ◌≤◌, ◌<◌}
use native.Mathlib.Omega.{arith}
use lib.ListN.{length, take, drop, set, length-append, length-drop, drop_of_length-le, take-append-drop}
use lib.Seq.{drop-drop, take-add, take_at, drop_at, take_all, length-take-le}
use Rattle.rule.specs.Nodes.{over_at}

-- ---- one output

pub set_at : (o : List ℕ) (i v : ℕ) → i < length o → set o i v ≡ over_at i (v ∷ []) o
set_at [] i v h = absurd (omega arith)
set_at (x ∷ o) zero v h = refl
set_at (x ∷ o) (suc i) v h = ap (◌∷◌ x) (set_at o i v (omega arith))

module _ (i : ℕ) (x o : List ℕ) (room : i + length x ≤ length o) where
  start_length : length (take i o) ≡ i
  start_length = length-take-le i o (omega arith)

  regroup : over_at i x o ≡ (take i o ++ x) ++ drop (length x) (drop i o)
  regroup = sym (append_assoc (take i o) x (drop (length x) (drop i o)))

  module _ (n : ℕ) (e : n ≡ i + length x) where
    both_length : length (take i o ++ x) ≡ n
    both_length = let s = start_length in let a = length-append (take i o) x in omega arith

    front_at : take n (over_at i x o) ≡ take i o ++ x
    front_at = ap (take n) regroup ∙ take_at (take i o ++ x) (drop (length x) (drop i o)) n both_length

    rest_at : drop n (over_at i x o) ≡ drop (length x) (drop i o)
    rest_at = ap (drop n) regroup ∙ drop_at (take i o ++ x) (drop (length x) (drop i o)) n both_length

  pub length_at : length (over_at i x o) ≡ length o
  length_at =
      let s = start_length in
      let a = length-append (take i o) (x ++ drop (length x) (drop i o)) in
      let b = length-append x (drop (length x) (drop i o)) in
      let c = length-drop (length x) (drop i o) in
      let d = length-drop i o in
      omega arith

-- words at i, then more words after them, at j
pub at_then : (i j : ℕ) (x y o : List ℕ) → j ≡ i + length x → i + length x ≤ length o → over_at j y (over_at i x o) ≡ over_at i (x ++ y) o
at_then i j x y o e room =
    rw (front_at i x o room j e, rest_at i x o room j e)
    (append_assoc (take i o) x (y ++ drop (length y) (drop (length x) (drop i o)))
    ∙ ap (λ z. take i o ++ z)
    (sym (append_assoc x y (drop (length y) (drop (length x) (drop i o))))
    ∙ ap (λ z. (x ++ y) ++ z) (drop-drop (length y) (length x) (drop i o) ∙ ap (λ n. drop n (drop i o)) (sym (length-append x y)))))

-- the same of outputs, one after another
pub over_then : (i j : ℕ) (x y o o₁ o₂ : List ℕ) → j ≡ i + length x → i + length x ≤ length o
    → o₁ ≡ over_at i x o → o₂ ≡ over_at j y o₁ → o₂ ≡ over_at i (x ++ y) o
over_then i j x y o o₁ o₂ e room f g = g ∙ ap (over_at j y) f ∙ at_then i j x y o e room

-- no words
pub at_none : (i : ℕ) (o : List ℕ) → over_at i [] o ≡ o
at_none i o = take-append-drop i o

-- ---- a part of the output

-- the part from word s on, and the whole with p in its place
abbrev pub part_from : (s : ℕ) (o : List ℕ) → List ℕ
part_from s o = take (length o - s) (drop s o)

abbrev pub back_from : (s : ℕ) (o p : List ℕ) → List ℕ
back_from s o p = take s o ++ (p ++ drop (length o - s) (drop s o))

module _ (s : ℕ) (o : List ℕ) where
  part_is : part_from s o ≡ drop s o
  part_is = take_all (length o - s) (drop s o) (rw length-drop (omega arith))

  part_length : length (part_from s o) ≡ length o - s
  part_length = ap length part_is ∙ length-drop s o

  back_is : (p : List ℕ) → back_from s o p ≡ take s o ++ p
  back_is p = rw (drop_of_length-le (drop s o) {i = length o - s} (rw length-drop (omega arith)), append-nil p) refl

  back_same : (p : List ℕ) → p ≡ part_from s o → back_from s o p ≡ o
  back_same p e = back_is p ∙ ap (λ z. take s o ++ z) (e ∙ part_is) ∙ take-append-drop s o

  pub back_at : (i j : ℕ) (x p : List ℕ) → j ≡ s + i → p ≡ over_at i x (part_from s o) → back_from s o p ≡ over_at j x o
  back_at i j x p ej e =
      back_is p ∙ ap (λ z. take s o ++ z) (e ∙ ap (over_at i x) part_is)
      ∙ sym (append_assoc (take s o) (take i (drop s o)) (x ++ drop (length x) (drop i (drop s o))))
      ∙ ap (λ z. z ++ (x ++ drop (length x) (drop i (drop s o)))) (sym (take-add s i o))
      ∙ ap (λ z. take (s + i) o ++ (x ++ drop (length x) z)) (drop-drop i s o)
      ∙ ap (λ k. over_at k x o) (sym ej)

  back_length : (p : List ℕ) → s ≤ length o → length p ≡ length (part_from s o) → length (back_from s o p) ≡ length o
  back_length p h e =
      let a = ap length (back_is p) ∙ length-append (take s o) p in
      let b = length-take-le s o h in
      let d = part_length in
      omega arith
