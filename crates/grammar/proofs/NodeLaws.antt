-- The laws of `specs/Nodes.antt`: the table of a formula stands for the formula.
--     size_some, length_nodes      as many nodes as the size says, at least one
--     lower_all, nodes_ordered     operands are lower
--     rule_nodes                   the table's last node stands for the formula
-- Not here: how often a node is an operand (`proofs/MentionLaws.antt`), the words (`proofs/TableLaws.antt`). Assumes nothing.
use mathlib.Core.Path.{◌≡◌, refl, sym, subst, ap, ap₂, ◌∙◌}
use mathlib.Core.Bool.{true}
use mathlib.Core.List.{[], ◌∷◌, ◌++◌, append_assoc, append-nil}
use Prim.Native.Nat.{ℕ, zero, suc, ◌+◌, ◌<◌}
use native.Mathlib.Omega.{arith}
use lib.ListN.{length, length-append}
use lib.Seq.{get_or_at}
use lib.Dec.{ltb}
use borrow.Author.Tests.{lt-ltb}
use Rattle.spec.specs.Logic.{Formula, never, test, implies, since, weak_previous}
use Rattle.spec.specs.Questions.{all}
use Rattle.spec.specs.Rule.{Node, false_node, test_node, implies_node, since_node, weak_previous_node, Table, node_at, last_node, operands, formula_from, formula_at, rule_of, operands_lower}
use Rattle.spec.proofs.BoolLaws.{both_and}
use Rattle.spec.proofs.RuleLaws.{InOrder, in_order, formula_is}
use Rattle.grammar.specs.Nodes.{size, last_from, over, nodes_from}

-- ---- how many

pub size_some : (φ : Formula) → 0 < size φ
unfolding size
size_some never = omega arith
size_some (test a) = omega arith
size_some (implies φ ψ) = omega arith
size_some (since φ ψ) = omega arith
size_some (weak_previous φ) = omega arith

length_two : (xs ys : Table) (x : Node) → length (xs ++ (ys ++ x ∷ [])) ≡ length xs + length ys + 1
length_two xs ys x = let a = length-append xs (ys ++ x ∷ []) in let b = length-append ys (x ∷ []) in omega arith

pub length_nodes : (φ : Formula) (k : ℕ) → length (nodes_from k φ) ≡ size φ
unfolding nodes_from size
length_nodes never k = refl
length_nodes (test a) k = refl
length_nodes (implies φ ψ) k = length_two (nodes_from k φ) (nodes_from (k + size φ) ψ) _ ∙ ap₂ (λ m n. m + n + 1) (length_nodes φ k) (length_nodes ψ (k + size φ))
length_nodes (since φ ψ) k = length_two (nodes_from k φ) (nodes_from (k + size φ) ψ) _ ∙ ap₂ (λ m n. m + n + 1) (length_nodes φ k) (length_nodes ψ (k + size φ))
length_nodes (weak_previous φ) k = length-append (nodes_from k φ) _ ∙ ap (λ m. m + 1) (length_nodes φ k)

-- ---- operands are lower

-- of the nodes from number k on
abbrev LowerFrom : ℕ → Table → Type 0
LowerFrom k [] = Unit {0}
LowerFrom k (x ∷ t) = (all (λ j. ltb j k) (operands x) ≡ true) × LowerFrom (suc k) t

lower_append : (xs ys : Table) (k n : ℕ) → k + length xs ≡ n → LowerFrom k xs → LowerFrom n ys → LowerFrom k (xs ++ ys)
lower_append [] ys k n e a b = let z : n ≡ k = omega arith in subst (λ i. LowerFrom i ys) z b
lower_append (x ∷ xs) ys k n e a b = (a.0, lower_append xs ys (suc k) n (omega arith) a.1 b)

lower_at : (t : Table) (k i : ℕ) → LowerFrom k t → i < length t → all (λ j. ltb j (k + i)) (operands (node_at t i)) ≡ true
lower_at [] k i a h = absurd (omega arith)
lower_at (x ∷ t) k zero a h = let z : k ≡ k + 0 = omega arith in subst (λ n. all (λ j. ltb j n) (operands x) ≡ true) z a.0
lower_at (x ∷ t) k (suc i) a h =
    let z : suc k + i ≡ k + suc i = omega arith in
    subst (λ n. all (λ j. ltb j n) (operands (node_at t i)) ≡ true) z (lower_at t (suc k) i a.1 (omega arith))

-- a node over the nodes of two formulas
lower_over : (φ ψ : Formula) (k : ℕ) (x : Node) → operands x ≡ last_from k (size φ) ∷ last_from (k + size φ) (size ψ) ∷ [] → LowerFrom k (nodes_from k φ)
    → LowerFrom (k + size φ) (nodes_from (k + size φ) ψ) → LowerFrom k (nodes_from k φ ++ (nodes_from (k + size φ) ψ ++ x ∷ []))
lower_over φ ψ k x e lx ly =
    let m = length_nodes φ k in
    let n = length_nodes ψ (k + size φ) in
    let p = size_some φ in
    let q = size_some ψ in
    let top = k + size φ + size ψ in
    let lower = both_and (lt-ltb (last_from k (size φ)) top (omega arith)) (both_and (lt-ltb (last_from (k + size φ) (size ψ)) top (omega arith)) refl) in
    lower_append (nodes_from k φ) _ k (k + size φ) (omega arith) lx
    (lower_append (nodes_from (k + size φ) ψ) (x ∷ []) (k + size φ) top (omega arith) ly (subst (λ o. all (λ j. ltb j top) o ≡ true) (sym e) lower, tt))

lower_nodes : (φ : Formula) (k : ℕ) → LowerFrom k (nodes_from k φ)
unfolding nodes_from
lower_nodes never k = (refl, tt)
lower_nodes (test a) k = (refl, tt)
lower_nodes (implies φ ψ) k = lower_over φ ψ k _ refl (lower_nodes φ k) (lower_nodes ψ (k + size φ))
lower_nodes (since φ ψ) k = lower_over φ ψ k _ refl (lower_nodes φ k) (lower_nodes ψ (k + size φ))
lower_nodes (weak_previous φ) k =
    let m = length_nodes φ k in
    let p = size_some φ in
    lower_append (nodes_from k φ) _ k (k + size φ) (omega arith) (lower_nodes φ k) (both_and (lt-ltb (last_from k (size φ)) (k + size φ) (omega arith)) refl, tt)

pub lower_all : (φ : Formula) (i : ℕ) → i < length (nodes_from 0 φ) → operands_lower (nodes_from 0 φ) i ≡ true
unfolding operands_lower
lower_all φ i h =
    let z : 0 + i ≡ i = omega arith in
    subst (λ n. all (λ j. ltb j n) (operands (node_at (nodes_from 0 φ) i)) ≡ true) z (lower_at (nodes_from 0 φ) 0 i (lower_nodes φ 0) h)

pub nodes_ordered : (φ : Formula) → InOrder (nodes_from 0 φ)
nodes_ordered φ = in_order (nodes_from 0 φ) (lower_all φ)

-- ---- the last node stands for the formula

module _ (t : Table) (ordered : InOrder t) where
  -- node x stands behind the nodes p
  formula_here : (p after : Table) (x : Node) (i : ℕ) → length p ≡ i → t ≡ p ++ x ∷ after → formula_at t i ≡ formula_from (formula_at t) x i
  formula_here p after x i l e =
      formula_is t ordered i ∙ ap (λ y. formula_from (formula_at t) y i) (ap (λ s. node_at s i) e ∙ get_or_at p x after false_node i l)

  -- the nodes of two formulas and one over them, somewhere in the table
  module _ (φ ψ : Formula) (k : ℕ) (before after : Table) (x : Node) (a : length before ≡ k)
      (e : t ≡ before ++ ((nodes_from k φ ++ (nodes_from (k + size φ) ψ ++ x ∷ [])) ++ after)) where
    left_at : t ≡ before ++ (nodes_from k φ ++ (nodes_from (k + size φ) ψ ++ x ∷ after))
    left_at = e ∙ ap (λ l. before ++ l)
        (append_assoc (nodes_from k φ) (nodes_from (k + size φ) ψ ++ x ∷ []) after ∙ ap (λ l. nodes_from k φ ++ l) (append_assoc (nodes_from (k + size φ) ψ) (x ∷ []) after))

    right_at : t ≡ (before ++ nodes_from k φ) ++ (nodes_from (k + size φ) ψ ++ x ∷ after)
    right_at = left_at ∙ sym (append_assoc before (nodes_from k φ) (nodes_from (k + size φ) ψ ++ x ∷ after))

    right_from : length (before ++ nodes_from k φ) ≡ k + size φ
    right_from = length-append before (nodes_from k φ) ∙ ap₂ ◌+◌ a (length_nodes φ k)

    over_here : formula_at t (last_from k (size φ + size ψ + 1)) ≡ formula_from (formula_at t) x (last_from k (size φ + size ψ + 1))
    over_here =
        let l = length-append (before ++ nodes_from k φ) (nodes_from (k + size φ) ψ) in
        let m = right_from in
        let n = length_nodes ψ (k + size φ) in
        formula_here ((before ++ nodes_from k φ) ++ nodes_from (k + size φ) ψ) after x (last_from k (size φ + size ψ + 1)) (omega arith)
        (right_at ∙ sym (append_assoc (before ++ nodes_from k φ) (nodes_from (k + size φ) ψ) (x ∷ after)))

  segment : (φ : Formula) (k : ℕ) (before after : Table) → length before ≡ k → t ≡ before ++ (nodes_from k φ ++ after)
      → formula_at t (last_from k (size φ)) ≡ φ
  unfolding nodes_from size
  segment never k before after a e = formula_here before after false_node (last_from k 1) (omega arith) e
  segment (test b) k before after a e = formula_here before after (test_node b) (last_from k 1) (omega arith) e
  segment (implies φ ψ) k before after a e =
      let x = over implies_node k (size φ) (size ψ) in
      over_here φ ψ k before after x a e
      ∙ ap₂ implies (segment φ k before (nodes_from (k + size φ) ψ ++ x ∷ after) a (left_at φ ψ k before after x a e))
      (segment ψ (k + size φ) (before ++ nodes_from k φ) (x ∷ after) (right_from φ ψ k before after x a e) (right_at φ ψ k before after x a e))
  segment (since φ ψ) k before after a e =
      let x = over since_node k (size φ) (size ψ) in
      over_here φ ψ k before after x a e
      ∙ ap₂ since (segment φ k before (nodes_from (k + size φ) ψ ++ x ∷ after) a (left_at φ ψ k before after x a e))
      (segment ψ (k + size φ) (before ++ nodes_from k φ) (x ∷ after) (right_from φ ψ k before after x a e) (right_at φ ψ k before after x a e))
  segment (weak_previous φ) k before after a e =
      let x = weak_previous_node (last_from k (size φ)) in
      let left = e ∙ ap (λ l. before ++ l) (append_assoc (nodes_from k φ) (x ∷ []) after) in
      let l = length-append before (nodes_from k φ) in
      let m = length_nodes φ k in
      formula_here (before ++ nodes_from k φ) after x (last_from k (size φ + 1)) (omega arith) (left ∙ sym (append_assoc before (nodes_from k φ) (x ∷ after)))
      ∙ ap weak_previous (segment φ k before (x ∷ after) a left)

pub rule_nodes : (φ : Formula) → rule_of (nodes_from 0 φ) ≡ φ
rule_nodes φ =
    let z : last_node (nodes_from 0 φ) ≡ last_from 0 (size φ) = let a = length_nodes φ 0 in omega arith in
    ap (formula_at (nodes_from 0 φ)) z ∙ segment (nodes_from 0 φ) (nodes_ordered φ) φ 0 [] [] refl (sym (append-nil (nodes_from 0 φ)))
