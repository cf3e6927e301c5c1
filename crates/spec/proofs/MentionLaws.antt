-- The laws of mentions and of shared nodes (`specs/Rule.antt`), and of sums over the numbers below n.
--     sum_same, sum_plus, sum_times, sum_first, sum_zero, sum_swap, bit, sum_pick   sums over the numbers below n
--     over_operands, mentions_sum, operands_sum, count_none      how often a node is an operand, as a sum; a sum over all operands
--     never_mentioned                the last node is no operand, and what is past it neither
--     once_unshared, unshared_once   a node that is an operand once at most is not shared, and the other way for one that isn't past
--     past_has_work, shared_has_work, work_either, no_work     a node has a work bit if it is past or shared,
--     work_is_lem                        which is past or used twice
--     shared_not_past, past_unshared, shared_next, shared_in   a shared node is no past node; W speaks of its own value; it is in the table
--     work_in, next_in               a node with a work bit is in the table, and so is the node whose value W speaks of
-- Assumes nothing.
use mathlib.Core.Path.{◌≡◌, refl, sym, ap, ap₂, ◌∙◌}
use mathlib.Core.Logic.{◌⊎◌, inl, inr}
use mathlib.Core.Bool.{Bool, true, false, cond, not, ◌&&◌, ◌||◌, and-false}
use mathlib.Core.List.{List, [], ◌∷◌}
use Prim.Native.Nat.{ℕ, zero, suc, ◌+◌, ◌*◌, ◌≤◌, ◌<◌}
use native.Mathlib.Nat.{le_refl}
use native.Mathlib.Omega.{arith}
use lib.ListN.{length}
use lib.Dec.{eqb, ltb, leb}
use borrow.Author.Tests.{ltb-true, lt-ltb, leb-true, leb-false, eq-eqb, ne_eqb, not-true}
use Rattle.spec.specs.Questions.{all, count, sum}
use Rattle.spec.specs.Rule.{Node, false_node, test_node, implies_node, since_node, weak_previous_node, Table, node_at, is_past, operands, mentions, is_shared, has_work, next_from, next_of}
use Rattle.spec.proofs.BoolLaws.{clash, and_both, both_and, decided, or_either, or_left, or_right, le_or_lt}
use Rattle.spec.proofs.RuleLaws.{InOrder, past_in, next_lower}

-- ---- sums

pub sum_same : (n : ℕ) (f g : ℕ → ℕ) → ((k : ℕ) → k < n → f k ≡ g k) → sum n f ≡ sum n g
unfolding sum
sum_same zero f g h = refl
sum_same (suc n) f g h = ap₂ ◌+◌ (sum_same n f g (λ k l. h k (omega arith))) (h n (le_refl (suc n)))

pub sum_plus : (n : ℕ) (f g : ℕ → ℕ) → sum n (λ k. f k + g k) ≡ sum n f + sum n g
unfolding sum
sum_plus zero f g = refl
sum_plus (suc n) f g = omega (arith, sum_plus n f g)

pub sum_times : (n c : ℕ) (f : ℕ → ℕ) → sum n (λ k. f k * c) ≡ sum n f * c
unfolding sum
sum_times zero c f = omega arith
sum_times (suc n) c f = omega (arith, sum_times n c f)

-- the first apart
pub sum_first : (n : ℕ) (f : ℕ → ℕ) → sum (suc n) f ≡ f 0 + sum n (λ k. f (suc k))
unfolding sum
sum_first zero f = omega arith
sum_first (suc n) f = omega (arith, sum_first n f)

pub sum_zero : (n : ℕ) (f : ℕ → ℕ) → ((k : ℕ) → k < n → f k ≡ 0) → sum n f ≡ 0
unfolding sum
sum_zero zero f h = refl
sum_zero (suc n) f h = omega (arith, sum_zero n f (λ k l. h k (omega arith)), h n (le_refl (suc n)))

-- two sums change places
pub sum_swap : (m n : ℕ) (f : ℕ → ℕ → ℕ) → sum m (λ i. sum n (λ j. f i j)) ≡ sum n (λ j. sum m (λ i. f i j))
unfolding sum
sum_swap zero n f = sym (sum_zero n (λ j. 0) (λ j l. refl))
sum_swap (suc m) n f = ap (λ (x : ℕ). x + sum n (f m)) (sum_swap m n f) ∙ sym (sum_plus n (λ j. sum m (λ i. f i j)) (f m))

abbrev pub bit : Bool → ℕ
bit b = cond b 1 0

-- one term picked
pub sum_pick : (n j : ℕ) (g : ℕ → ℕ) → j < n → sum n (λ k. bit (eqb j k) * g k) ≡ g j
unfolding sum
sum_pick zero j g l = absurd (omega arith)
sum_pick (suc n) j g l =
    elim (le_or_lt n j) [
      | inl h ↦ let z : n ≡ j = omega arith in
          let e : bit (eqb j n) * g n ≡ g j = rw (z, eq-eqb j j refl) (omega arith) in
          let rest : sum n (λ k. bit (eqb j k) * g k) ≡ 0 =
          sum_zero n _ (λ k l. ap (λ b. bit b * g k) (ne_eqb j k (λ d. omega arith)) ∙ omega arith) in
          omega arith
      | inr h ↦ let e : bit (eqb j n) * g n ≡ 0 = rw (ne_eqb j n (λ d. omega arith)) (omega arith) in
          omega (arith, sum_pick n j g h)
    ]

-- ---- how often a node is an operand, summed over the nodes

-- the sum over a node's operands
unfoldable pub over_operands : (ℕ → ℕ) → List ℕ → ℕ
over_operands g [] = 0
over_operands g (j ∷ js) = g j + over_operands g js

over_counted : (n : ℕ) (g : ℕ → ℕ) (js : List ℕ) → all (λ j. ltb j n) js ≡ true
    → over_operands g js ≡ sum n (λ k. count (λ j. eqb j k) js * g k)
unfolding over_operands
over_counted n g [] o = sym (sum_zero n (λ k. 0 * g k) (λ k l. omega arith))
over_counted n g (j ∷ js) o =
    let (a, b) = and_both (ltb j n) (all (λ i. ltb i n) js) o in
    ap₂ ◌+◌ (sym (sum_pick n j g (ltb-true j n a))) (over_counted n g js b)
    ∙ sym (sum_plus n (λ k. bit (eqb j k) * g k) (λ k. count (λ i. eqb i k) js * g k))
    ∙ sum_same n (λ k. bit (eqb j k) * g k + count (λ i. eqb i k) js * g k) (λ k. count (λ i. eqb i k) (j ∷ js) * g k) (λ k l. omega arith)

pub mentions_sum : (t : Table) (k : ℕ) → mentions t k ≡ sum (length t) (λ i. count (λ j. eqb j k) (operands (node_at t i)))
unfolding mentions sum
mentions_sum [] k = refl
mentions_sum (x ∷ t) k =
    ap (λ (m : ℕ). count (λ j. eqb j k) (operands x) + m) (mentions_sum t k)
    ∙ sym (sum_first (length t) (λ i. count (λ j. eqb j k) (operands (node_at (x ∷ t) i))))

pub count_none : (js : List ℕ) (i k : ℕ) → all (λ j. ltb j i) js ≡ true → i ≤ k → count (λ j. eqb j k) js ≡ 0
count_none [] i k o l = refl
count_none (j ∷ js) i k o l =
    let (a, b) = and_both (ltb j i) (all (λ x. ltb x i) js) o in
    let h : j < i = ltb-true j i a in
    let e : bit (eqb j k) ≡ 0 = ap (λ c. bit c) (ne_eqb j k (λ z. omega arith)) in
    omega (arith, count_none js i k b l)

wider : (js : List ℕ) (i n : ℕ) → all (λ j. ltb j i) js ≡ true → i ≤ n → all (λ j. ltb j n) js ≡ true
wider [] i n o l = refl
wider (j ∷ js) i n o l =
    let (a, b) = and_both (ltb j i) (all (λ x. ltb x i) js) o in
    let h : j < i = ltb-true j i a in
    both_and (lt-ltb j n (omega arith)) (wider js i n b l)

-- the sum over all operands, node by node, and over all nodes, each as often as it is an operand
pub operands_sum : (t : Table) → InOrder t → (g : ℕ → ℕ)
    → sum (length t) (λ i. over_operands g (operands (node_at t i))) ≡ sum (length t) (λ k. mentions t k * g k)
operands_sum t ordered g =
    sum_same (length t) _ (λ i. sum (length t) (λ k. count (λ j. eqb j k) (operands (node_at t i)) * g k))
    (λ i l. over_counted (length t) g (operands (node_at t i)) (wider (operands (node_at t i)) i (length t) (ordered.lower i) (omega arith)))
    ∙ sum_swap (length t) (length t) (λ i k. count (λ j. eqb j k) (operands (node_at t i)) * g k)
    ∙ sum_same (length t) (λ k. sum (length t) (λ i. count (λ j. eqb j k) (operands (node_at t i)) * g k)) (λ k. mentions t k * g k)
    (λ k l. sum_times (length t) (g k) (λ i. count (λ j. eqb j k) (operands (node_at t i)))
    ∙ ap (λ (m : ℕ). m * g k) (sym (mentions_sum t k)))

pub never_mentioned : (t : Table) → InOrder t → (k : ℕ) → length t ≤ suc k → mentions t k ≡ 0
never_mentioned t ordered k h =
    mentions_sum t k ∙ sum_zero (length t) _ (λ i l. count_none (operands (node_at t i)) i k (ordered.lower i) (omega arith))

-- ---- shared nodes

module _ (t : Table) where
  pub once_unshared : (k : ℕ) → mentions t k ≤ 1 → is_shared t k ≡ false
  unfolding is_shared
  once_unshared k h = elim (decided (leb 2 (mentions t k))) [
    | inl e ↦ let two : 2 ≤ mentions t k = leb-true 2 (mentions t k) e in absurd (omega arith)
    | inr e ↦ rw e (and-false (not (is_past (node_at t k))))
  ]

  pub unshared_once : (k : ℕ) → is_shared t k ≡ false → is_past (node_at t k) ≡ false → mentions t k ≤ 1
  unfolding is_shared
  unshared_once k s p = let few : mentions t k < 2 = leb-false 2 (mentions t k) (rw p at s) in omega arith

  pub past_has_work : (k : ℕ) → is_past (node_at t k) ≡ true → has_work t k ≡ true
  unfolding has_work
  past_has_work k p = or_left (is_past (node_at t k)) (is_shared t k) p

  pub shared_has_work : (k : ℕ) → is_shared t k ≡ true → has_work t k ≡ true
  unfolding has_work
  shared_has_work k s = or_right (is_past (node_at t k)) (is_shared t k) s

  pub work_either : (k : ℕ) → has_work t k ≡ true → (is_past (node_at t k) ≡ true) ⊎ (is_shared t k ≡ true)
  unfolding has_work
  work_either k w = or_either (is_past (node_at t k)) (is_shared t k) w

  pub no_work : (k : ℕ) → has_work t k ≡ false → (is_past (node_at t k) ≡ false) × (is_shared t k ≡ false)
  no_work k n = (
    elim (decided (is_past (node_at t k))) [ inl p ↦ clash (past_has_work k p) n | inr p ↦ p ],
    elim (decided (is_shared t k)) [ inl s ↦ clash (shared_has_work k s) n | inr s ↦ s ],
  )

  pub work_is_lem : (k : ℕ) → has_work t k ≡ is_past (node_at t k) || leb 2 (mentions t k)
  unfolding has_work is_shared
  work_is_lem k = go (is_past (node_at t k)) (leb 2 (mentions t k))
    where
      go : (p m : Bool) → (p || not p && m) ≡ (p || m)
      go true m = refl
      go false m = refl

  pub shared_not_past : (k : ℕ) → is_shared t k ≡ true → is_past (node_at t k) ≡ false
  unfolding is_shared
  shared_not_past k s = not-true (is_past (node_at t k)) (and_both (not (is_past (node_at t k))) _ s).0

  pub past_unshared : (k : ℕ) → is_past (node_at t k) ≡ true → is_shared t k ≡ false
  unfolding is_shared
  past_unshared k p = rw p

  pub shared_next : (k : ℕ) → is_shared t k ≡ true → next_of t k ≡ k
  shared_next k s = itself (node_at t k) (shared_not_past k s)
    where
      itself : (x : Node) → is_past x ≡ false → next_from x k ≡ k
      itself false_node p = refl
      itself (test_node a) p = refl
      itself (implies_node l r) p = refl
      itself (since_node l r) p = refl
      itself (weak_previous_node o) p = clash refl p

  module _ (ordered : InOrder t) where
    -- the last node is not shared
    pub shared_in : (k : ℕ) → is_shared t k ≡ true → suc k < length t
    unfolding is_shared
    shared_in k s = elim (le_or_lt (length t) (suc k)) [
      | inl h ↦ let two : 2 ≤ mentions t k = leb-true 2 (mentions t k) (and_both (not (is_past (node_at t k))) _ s).1 in
          absurd (omega (arith, never_mentioned t ordered k h))
      | inr h ↦ h
    ]

    pub work_in : (k : ℕ) → has_work t k ≡ true → k < length t
    work_in k w = elim (work_either k w) [ inl p ↦ past_in t k p | inr s ↦ let h = shared_in k s in omega arith ]

    pub next_in : (k : ℕ) → has_work t k ≡ true → next_of t k < length t
    next_in k w = next_lower (node_at t k) k (length t) (work_in k w) (ordered.lower k)
