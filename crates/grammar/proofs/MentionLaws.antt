-- In the table of a formula (`specs/Nodes.antt`) each node but the last is an operand exactly once.
--     Mentioned, mentioned
-- Assumes nothing.
use mathlib.Core.Path.{◌≡◌, refl, ap, ◌∙◌}
use mathlib.Core.Logic.{◌⊎◌, inl, inr, ◌≢◌}
use mathlib.Core.Bool.{cond}
use mathlib.Core.List.{List, [], ◌∷◌, ◌++◌}
use Prim.Native.Nat.{ℕ, suc, ◌+◌, ◌≤◌, ◌<◌}
use native.Mathlib.Omega.{arith}
use lib.Dec.{eqb}
use borrow.Author.Tests.{eq-eqb, ne_eqb}
use Rattle.spec.specs.Logic.{Formula, never, test, implies, since, weak_previous}
use Rattle.spec.specs.Questions.{count}
use Rattle.spec.specs.Rule.{Node, Table, operands, mentions}
use Rattle.spec.proofs.BoolLaws.{le_or_lt}
use Rattle.grammar.specs.Nodes.{size, last_from, nodes_from}
use Rattle.grammar.proofs.NodeLaws.{size_some}

mentions_append : (xs ys : Table) (j : ℕ) → mentions (xs ++ ys) j ≡ mentions xs j + mentions ys j
unfolding mentions
mentions_append [] ys j = omega arith
mentions_append (x ∷ xs) ys j = let e = mentions_append xs ys j in omega arith

mentions_last : (xs : Table) (x : Node) (os : List ℕ) (j : ℕ) → operands x ≡ os → mentions (xs ++ x ∷ []) j ≡ mentions xs j + count (λ i. eqb i j) os
unfolding mentions
mentions_last xs x os j e = let a = mentions_append xs (x ∷ []) j in let b = ap (count (λ i. eqb i j)) e in omega arith

hit : (i j : ℕ) → i ≡ j → ◌≡◌ {A = ℕ} (cond (eqb i j) 1 0) 1
hit i j e = rw (eq-eqb i j e)

miss : (i j : ℕ) → i ≢ j → ◌≡◌ {A = ℕ} (cond (eqb i j) 1 0) 0
miss i j e = rw (ne_eqb i j e)

-- of n nodes from number k on
pub record Mentioned (k n : ℕ) (t : Table) : Type 0 where
  pub outside : (j : ℕ) → (j < k) ⊎ (k + n ≤ suc j) → mentions t j ≡ 0
  pub inside : (j : ℕ) → k ≤ j → suc j < k + n → mentions t j ≡ 1

-- a node over the last of m nodes
module _ (k m : ℕ) (xs : Table) (p : 0 < m) (a : Mentioned k m xs) (x : Node) (e : operands x ≡ last_from k m ∷ []) where
  total : (j : ℕ) → mentions (xs ++ x ∷ []) j ≡ mentions xs j + (cond (eqb (last_from k m) j) 1 0 + 0)
  total j = mentions_last xs x _ j e

  one_outside : (j : ℕ) → (j < k) ⊎ (k + (m + 1) ≤ suc j) → mentions (xs ++ x ∷ []) j ≡ 0
  one_outside j (inl h) = let b = a.outside j (inl h) in let c = miss (last_from k m) j (omega arith) in let s = total j in omega arith
  one_outside j (inr h) = let b = a.outside j (inr (omega arith)) in let c = miss (last_from k m) j (omega arith) in let s = total j in omega arith

  one_inside : (j : ℕ) → k ≤ j → suc j < k + (m + 1) → mentions (xs ++ x ∷ []) j ≡ 1
  one_inside j l u = go (le_or_lt (k + m) (suc j))
    where
      go : (k + m ≤ suc j) ⊎ (suc j < k + m) → mentions (xs ++ x ∷ []) j ≡ 1
      go (inl h) = let b = a.outside j (inr h) in let c = hit (last_from k m) j (omega arith) in let s = total j in omega arith
      go (inr h) = let b = a.inside j l h in let c = miss (last_from k m) j (omega arith) in let s = total j in omega arith

  over_one : Mentioned k (m + 1) (xs ++ x ∷ [])
  over_one = record { outside = one_outside; inside = one_inside }

-- a node over the last of m nodes and the last of the n nodes after them
module _ (k m n : ℕ) (xs ys : Table) (p : 0 < m) (q : 0 < n) (a : Mentioned k m xs) (b : Mentioned (k + m) n ys) (x : Node)
    (e : operands x ≡ last_from k m ∷ last_from (k + m) n ∷ []) where
  sum : (j : ℕ) → mentions (xs ++ (ys ++ x ∷ [])) j
      ≡ mentions xs j + (mentions ys j + (cond (eqb (last_from k m) j) 1 0 + (cond (eqb (last_from (k + m) n) j) 1 0 + 0)))
  sum j = mentions_append xs (ys ++ x ∷ []) j ∙ ap (λ i. mentions xs j + i) (mentions_last ys x _ j e)

  two_outside : (j : ℕ) → (j < k) ⊎ (k + (m + n + 1) ≤ suc j) → mentions (xs ++ (ys ++ x ∷ [])) j ≡ 0
  two_outside j (inl h) =
      let f = a.outside j (inl h) in
      let g = b.outside j (inl (omega arith)) in
      let c = miss (last_from k m) j (omega arith) in
      let d = miss (last_from (k + m) n) j (omega arith) in
      let s = sum j in omega arith
  two_outside j (inr h) =
      let f = a.outside j (inr (omega arith)) in
      let g = b.outside j (inr (omega arith)) in
      let c = miss (last_from k m) j (omega arith) in
      let d = miss (last_from (k + m) n) j (omega arith) in
      let s = sum j in omega arith

  -- among the first, the last of them, among the second, the last of them
  in_left : (j : ℕ) → k ≤ j → suc j < k + m → mentions (xs ++ (ys ++ x ∷ [])) j ≡ 1
  in_left j l h =
      let f = a.inside j l h in
      let g = b.outside j (inl (omega arith)) in
      let c = miss (last_from k m) j (omega arith) in
      let d = miss (last_from (k + m) n) j (omega arith) in
      let s = sum j in omega arith

  last_left : (j : ℕ) → suc j ≡ k + m → mentions (xs ++ (ys ++ x ∷ [])) j ≡ 1
  last_left j h =
      let f = a.outside j (inr (omega arith)) in
      let g = b.outside j (inl (omega arith)) in
      let c = hit (last_from k m) j (omega arith) in
      let d = miss (last_from (k + m) n) j (omega arith) in
      let s = sum j in omega arith

  in_right : (j : ℕ) → k + m ≤ j → suc j < k + m + n → mentions (xs ++ (ys ++ x ∷ [])) j ≡ 1
  in_right j l h =
      let f = a.outside j (inr (omega arith)) in
      let g = b.inside j l h in
      let c = miss (last_from k m) j (omega arith) in
      let d = miss (last_from (k + m) n) j (omega arith) in
      let s = sum j in omega arith

  last_right : (j : ℕ) → suc j ≡ k + m + n → mentions (xs ++ (ys ++ x ∷ [])) j ≡ 1
  last_right j h =
      let f = a.outside j (inr (omega arith)) in
      let g = b.outside j (inr (omega arith)) in
      let c = miss (last_from k m) j (omega arith) in
      let d = hit (last_from (k + m) n) j (omega arith) in
      let s = sum j in omega arith

  two_inside : (j : ℕ) → k ≤ j → suc j < k + (m + n + 1) → mentions (xs ++ (ys ++ x ∷ [])) j ≡ 1
  two_inside j l u =
      elim (le_or_lt (k + m) (suc j)) [
        | inr h ↦ in_left j l h
        | inl h ↦ elim (le_or_lt (k + m) j) [
          | inr g ↦ last_left j (omega arith)
          | inl g ↦ elim (le_or_lt (k + m + n) (suc j)) [ inl i ↦ last_right j (omega arith) | inr i ↦ in_right j g i ]
        ]
      ]

  over_two : Mentioned k (m + n + 1) (xs ++ (ys ++ x ∷ []))
  over_two = record { outside = two_outside; inside = two_inside }

pub mentioned : (φ : Formula) (k : ℕ) → Mentioned k (size φ) (nodes_from k φ)
unfolding nodes_from size mentions
mentioned never k = record { outside = λ j h. refl; inside = λ j l u. absurd (omega arith) }
mentioned (test a) k = record { outside = λ j h. refl; inside = λ j l u. absurd (omega arith) }
mentioned (implies φ ψ) k =
    over_two k (size φ) (size ψ) (nodes_from k φ) (nodes_from (k + size φ) ψ) (size_some φ) (size_some ψ) (mentioned φ k) (mentioned ψ (k + size φ)) _ refl
mentioned (since φ ψ) k =
    over_two k (size φ) (size ψ) (nodes_from k φ) (nodes_from (k + size φ) ψ) (size_some φ) (size_some ψ) (mentioned φ k) (mentioned ψ (k + size φ)) _ refl
mentioned (weak_previous φ) k = over_one k (size φ) (nodes_from k φ) (size_some φ) (mentioned φ k) _ refl
