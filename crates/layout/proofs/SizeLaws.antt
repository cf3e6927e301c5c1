-- How many lines deciding a node takes, from a table of the sizes for lower nodes, and how many a block has.
--     SizedTo, own_at, size_at, sized_next   a table of sizes as it is filled: the next node's size, from those kept for lower nodes
--     decide_few                         deciding a node takes no more lines than a block has: it is part of one
--     counted_to, counted_none, counted_next, counted_all     a block's lines, node by node
--     nodes_few, block_few, node_few, own_few, last_few     an accepted rule has at most 64 nodes, so a block and a decision at most 961 lines
--     since_lines, weak_lines, shared_lines, no_lines        what a node accounts for, by what it is
-- Assumes nothing.
use mathlib.Core.Path.{◌≡◌, refl, sym, ap, ap₂, ◌∙◌}
use mathlib.Core.Logic.{◌⊎◌, inl, inr}
use mathlib.Core.Bool.{Bool, true, false, cond}
use mathlib.Core.List.{List, [], ◌∷◌}
use Prim.Native.Nat.{ℕ, zero, suc, ◌+◌, ◌-◌, ◌*◌, ◌≤◌, ◌<◌}
use native.Mathlib.Nat.{le_refl}
use native.Mathlib.Omega.{arith}
use native.Mathlib.Numerals.{add-one}
use lib.ListN.{length, get_or, set}
use lib.Seq.{get_or-set_same, get_or-set_other}
use lib.Dec.{eqb, ltb}
use borrow.Author.Tests.{ltb-true, eqb-true}
use Rattle.spec.specs.Questions.{all, count, sum}
use Rattle.spec.specs.Rule.{form64, Node, false_node, test_node, implies_node, since_node, weak_previous_node, Table, node_at, last_node, is_false, is_since, is_weak_previous, is_past, operands, mentions, is_shared}
use Rattle.spec.specs.Weaver.{size_from, decide_size, update_size, shared_size, work_size, updates_size, block_size, is_test_node, sharing_lines, block_lines}
use Rattle.spec.proofs.BoolLaws.{and_both, decided, le_or_lt}
use Rattle.spec.proofs.RuleLaws.{InOrder, both_lower, one_lower, length_table, rule_out}
use Rattle.spec.proofs.MentionLaws.{sum_same, over_operands, mentions_sum, operands_sum, shared_not_past, past_unshared}
use Rattle.spec.proofs.WeaverLaws.{pasts_below, pasts_count, size_is, size_own, no_update}
use Rattle.spec.proofs.SumLaws.{block_size_is}
use Rattle.layout.specs.Layout.{Sized}
use Rattle.rule.specs.Nodes.{table_in, RulePasses, form_in}

-- ---- a node's size from a table

-- the table has the sizes of the nodes below n
abbrev pub SizedTo : Table → List ℕ → ℕ → Type 0
SizedTo t sizes n = (j : ℕ) → j < n → get_or sizes j 0 ≡ decide_size t j

from_lower : (t : Table) (sizes : List ℕ) (k i : ℕ) (x : Node) → SizedTo t sizes k → all (λ j. ltb j k) (operands x) ≡ true
    → size_from (λ j. get_or sizes j 0) x i ≡ size_from (decide_size t) x k
from_lower t sizes k i false_node s o = refl
from_lower t sizes k i (test_node a) s o = refl
from_lower t sizes k i (implies_node l r) s o = let (a, b) = both_lower k l r o in ap₂ ◌+◌ (s l a) (s r b)
from_lower t sizes k i (since_node l r) s o = refl
from_lower t sizes k i (weak_previous_node l) s o = refl

-- by what it is
pub own_at : (rule sizes : List ℕ) (k : ℕ) → RulePasses rule → SizedTo (table_in rule) sizes k
    → size_from (λ j. get_or sizes j 0) (node_at (table_in rule) k) 0 ≡ size_from (decide_size (table_in rule)) (node_at (table_in rule) k) k
own_at rule sizes k e s =
    from_lower (table_in rule) sizes k 0 (node_at (table_in rule) k) s ((rule_out form_in rule e).ordered.lower k)

-- `shared` has the shared nodes
pub size_at : (rule sizes : List ℕ) (k : ℕ) (shared : ℕ → Bool) → RulePasses rule → SizedTo (table_in rule) sizes k
    → shared ≡ is_shared (table_in rule)
    → cond (shared k) 2 (size_from (λ j. get_or sizes j 0) (node_at (table_in rule) k) 0) ≡ decide_size (table_in rule) k
size_at rule sizes k shared e s d =
    ap₂ (λ b n. cond b 2 n) (ap (λ f. f k) d) (own_at rule sizes k e s) ∙ sym (size_is (table_in rule) (rule_out form_in rule e).ordered k)

pub sized_next : (t : Table) (sizes : List ℕ) (k v : ℕ) → k < length sizes → v ≡ decide_size t k → SizedTo t sizes k
    → SizedTo t (set sizes k v) (k + 1)
sized_next t sizes k v h e s j l =
    elim (le_or_lt k j) [
      | inl a ↦ let z : j ≡ k = omega arith in rw z (get_or-set_same sizes k v 0 h ∙ e)
      | inr a ↦ get_or-set_other sizes k j v 0 (λ z. omega arith) ∙ s j a
    ]

-- ---- where a node is an operand

some_term : (n : ℕ) (f : ℕ → ℕ) → 0 < sum n f → (i : ℕ) × (i < n) × (0 < f i)
unfolding sum
some_term zero f h = absurd (omega arith)
some_term (suc n) f h =
    elim (le_or_lt 1 (f n)) [
      | inl a ↦ (n, omega arith, a)
      | inr a ↦ let (i, l, p) = some_term n f (omega arith) in (i, omega arith, p)
    ]

here_or : (j k n : ℕ) → 0 < cond (eqb j k) 1 0 + n → (j ≡ k) ⊎ (0 < n)
here_or j k n = go (eqb j k) refl
  where
    go : (b : Bool) → eqb j k ≡ b → 0 < cond b 1 0 + n → (j ≡ k) ⊎ (0 < n)
    go true e h = inl (eqb-true j k e)
    go false e h = inr (omega arith)

lower_of : (js : List ℕ) (i k : ℕ) → all (λ j. ltb j i) js ≡ true → 0 < count (λ j. eqb j k) js → k < i
lower_of [] i k o h = absurd (omega arith)
lower_of (j ∷ js) i k o h =
    let (a, b) = and_both (ltb j i) (all (λ x. ltb x i) js) o in
    elim (here_or j k (count (λ x. eqb x k) js) h) [
      | inl e ↦ let l : j < i = ltb-true j i a in omega arith
      | inr d ↦ lower_of js i k b d
    ]

module _ (t : Table) where
  -- where node k is an operand, its decision is part of that node's decision or of its update
  abbrev Part : (k i : ℕ) → Node → Type 0
  Part k i x = (decide_size t k ≤ size_from (decide_size t) x i) ⊎ (decide_size t k ≤ update_size t x)

  part_of : (k i : ℕ) (x : Node) → 0 < count (λ j. eqb j k) (operands x) → Part k i x
  unfolding update_size
  part_of k i false_node h = absurd (omega arith)
  part_of k i (test_node a) h = absurd (omega arith)
  part_of k i (implies_node l r) h =
      elim (here_or l k (count (λ j. eqb j k) (r ∷ [])) h) [
        | inl a ↦ let z : decide_size t l ≡ decide_size t k = ap (decide_size t) a in inl (omega arith)
        | inr b ↦ elim (here_or r k 0 b) [
          | inl a ↦ let z : decide_size t r ≡ decide_size t k = ap (decide_size t) a in inl (omega arith)
          | inr d ↦ absurd (omega arith)
        ]
      ]
  part_of k i (since_node l r) h =
      elim (here_or l k (count (λ j. eqb j k) (r ∷ [])) h) [
        | inl a ↦ let z : decide_size t l ≡ decide_size t k = ap (decide_size t) a in inr (omega arith)
        | inr b ↦ elim (here_or r k 0 b) [
          | inl a ↦ let z : decide_size t r ≡ decide_size t k = ap (decide_size t) a in inr (omega arith)
          | inr d ↦ absurd (omega arith)
        ]
      ]
  part_of k i (weak_previous_node l) h =
      elim (here_or l k 0 h) [
        | inl a ↦ let z : decide_size t l ≡ decide_size t k = ap (decide_size t) a in inr (omega arith)
        | inr d ↦ absurd (omega arith)
      ]

  work_within : (n i : ℕ) → i < n → work_size t i ≤ updates_size n t
  unfolding updates_size
  work_within zero i h = absurd (omega arith)
  work_within (suc n) i h =
      elim (le_or_lt n i) [
        | inl a ↦ let z : i ≡ n = omega arith in rw z (omega arith)
        | inr a ↦ let b = work_within n i a in omega arith
      ]

  update_within : (i : ℕ) → update_size t (node_at t i) ≤ work_size t i
  unfolding work_size
  update_within i = elim (decided (is_shared t i)) [
    | inl s ↦ omega (arith, no_update t (node_at t i) (shared_not_past t i s))
    | inr s ↦ rw s (le_refl (update_size t (node_at t i)))
  ]

  own_within : (i : ℕ) → is_shared t i ≡ true → size_from (decide_size t) (node_at t i) i ≤ work_size t i
  unfolding work_size shared_size
  own_within i s = rw s (omega arith)

module _ (t : Table) (ordered : InOrder t) (mentioned : (k : ℕ) → k < last_node t → 1 ≤ mentions t k) where
  within : (n k : ℕ) → k < length t → length t ≤ k + n → decide_size t k ≤ block_size t
  unfolding block_size
  within zero k h l = absurd (omega arith)
  within (suc n) k h l =
      elim (le_or_lt (last_node t) k) [
        | inl a ↦ let z : k ≡ last_node t = omega arith in rw z (omega arith)
        | inr a ↦ let m : 0 < sum (length t) (λ i. count (λ j. eqb j k) (operands (node_at t i))) = omega (arith, mentioned k a, mentions_sum t k) in
            let (i, inside, p) = some_term (length t) (λ i. count (λ j. eqb j k) (operands (node_at t i))) m in
            let lower : k < i = lower_of (operands (node_at t i)) i k (ordered.lower i) p in
            elim (part_of t k i (node_at t i) p) [
              | inl b ↦ elim (decided (is_shared t i)) [
                | inl s ↦ omega (arith, own_within t i s, work_within t (length t) i inside)
                | inr s ↦ let more = within n i inside (omega arith) in omega (arith, size_own t ordered i s)
              ]
              | inr b ↦ omega (arith, update_within t i, work_within t (length t) i inside)
            ]
      ]

  pub decide_few : (k : ℕ) → k < length t → decide_size t k ≤ block_size t
  decide_few k h = within (length t) k h (omega arith)

-- ---- a block's lines, node by node

-- those of the nodes below n: their code, and the 12s
unfoldable pub counted_to : Table → ℕ → ℕ
counted_to t n = updates_size n t + pasts_below n t

pub counted_none : (t : Table) → 0 ≡ counted_to t 0
unfolding counted_to updates_size pasts_below
counted_none t = refl

pub counted_next : (t : Table) (k lines n : ℕ) → n ≡ work_size t k + cond (is_past (node_at t k)) 1 0 → lines ≡ counted_to t k
    → lines + n ≡ counted_to t (k + 1)
unfolding counted_to updates_size pasts_below
counted_next t k lines n e d = rw (add-one k) (omega arith)

pub counted_all : (t : Table) → counted_to t (length t) + decide_size t (last_node t) + 1 ≡ block_size t
unfolding counted_to block_size
counted_all t = omega (arith, pasts_count t)

counted_within : (t : Table) (d n : ℕ) → n + d ≡ length t → counted_to t n ≤ block_size t
unfolding counted_to updates_size pasts_below
counted_within t zero n e = let z : n ≡ length t = omega arith in rw z (omega (arith, counted_all t))
counted_within t (suc d) n e = omega (arith, counted_within t d (suc n) (omega arith))

-- ---- a block's lines, by the formula, are not too many

kinds_few : (t : Table) → 2 * count is_test_node t + count is_false t + 8 * count is_since t + 6 * count is_weak_previous t ≤ 8 * length t
kinds_few [] = omega arith
kinds_few (false_node ∷ t) = omega (arith, kinds_few t)
kinds_few (test_node a ∷ t) = omega (arith, kinds_few t)
kinds_few (implies_node l r ∷ t) = omega (arith, kinds_few t)
kinds_few (since_node l r ∷ t) = omega (arith, kinds_few t)
kinds_few (weak_previous_node l ∷ t) = omega (arith, kinds_few t)

sharing_few : (t : Table) (k : ℕ) → sharing_lines t k ≤ 3 + 2 * mentions t k
unfolding sharing_lines
sharing_few t k = go (is_shared t k) (is_past (node_at t k))
  where
    go : (s p : Bool) → cond s (3 + 2 * mentions t k) (cond p (2 * (mentions t k - 1)) 0) ≤ 3 + 2 * mentions t k
    go true p = omega arith
    go false true = omega arith
    go false false = omega arith

sharing_to : (t : Table) (n : ℕ) → sum n (λ k. sharing_lines t k) ≤ 3 * n + 2 * sum n (λ k. mentions t k)
unfolding sum
sharing_to t zero = omega arith
sharing_to t (suc n) = omega (arith, sharing_to t n, sharing_few t n)

two_each : (x : Node) → over_operands (λ j. 1) (operands x) ≤ 2
unfolding over_operands
two_each false_node = omega arith
two_each (test_node a) = omega arith
two_each (implies_node l r) = omega arith
two_each (since_node l r) = omega arith
two_each (weak_previous_node l) = omega arith

operands_few : (t : Table) (n : ℕ) → sum n (λ i. over_operands (λ j. 1) (operands (node_at t i))) ≤ 2 * n
unfolding sum
operands_few t zero = omega arith
operands_few t (suc n) = omega (arith, operands_few t n, two_each (node_at t n))

-- two operands a node, so two mentions a node in all
lines_few : (t : Table) → InOrder t → block_lines t ≤ 1 + 15 * length t
unfolding block_lines
lines_few t ordered =
    let n = length t in
    let ones : sum n (λ k. mentions t k) ≡ sum n (λ k. mentions t k * 1) =
    sum_same n (λ k. mentions t k) (λ k. mentions t k * 1) (λ k l. omega arith) in
    omega (arith, kinds_few t, sharing_to t n, operands_few t n, operands_sum t ordered (λ j. 1))

-- ---- an accepted rule

module _ (rule : List ℕ) (accepted : RulePasses rule) where
  pub nodes_few : length rule ≤ 64
  unfolding form64
  nodes_few = (rule_out form_in rule accepted).few_nodes

  pub block_few : block_size (table_in rule) ≤ 961
  block_few = omega (
    arith,
    nodes_few,
    length_table form_in rule,
    block_size_is form_in rule accepted,
    lines_few (table_in rule) (rule_out form_in rule accepted).ordered,
  )

  pub counted_few : (n : ℕ) → n ≤ length rule → counted_to (table_in rule) n ≤ 961
  counted_few n h =
      let same = length_table form_in rule in
      omega (arith, block_few, counted_within (table_in rule) (length rule - n) n (omega arith))

  pub node_few : (k : ℕ) → k < length rule → decide_size (table_in rule) k ≤ 961
  node_few k h =
      let r = rule_out form_in rule accepted in
      let inside : k < length (table_in rule) = omega (arith, length_table form_in rule) in
      let few = decide_few (table_in rule) r.ordered r.mentioned k inside in
      omega (arith, block_few)

  pub own_few : (k : ℕ) → k < length rule → size_from (decide_size (table_in rule)) (node_at (table_in rule) k) k ≤ 1922
  own_few k h = go (node_at (table_in rule) k) ((rule_out form_in rule accepted).ordered.lower k)
    where
      go : (x : Node) → all (λ j. ltb j k) (operands x) ≡ true → size_from (decide_size (table_in rule)) x k ≤ 1922
      go false_node o = omega arith
      go (test_node a) o = omega arith
      go (implies_node l r) o = let (a, b) = both_lower k l r o in omega (arith, node_few l (omega arith), node_few r (omega arith))
      go (since_node l r) o = omega arith
      go (weak_previous_node l) o = omega arith

-- deciding the last node takes no more either
pub last_few : (rule sizes : List ℕ) → Sized rule sizes → get_or sizes (length rule - 1) 0 ≤ 961
last_few rule sizes sized =
    let some = (rule_out form_in rule sized.0).some_node in
    let last : length rule - 1 < length rule = omega arith in
    omega (arith, sized.1 (length rule - 1) last, node_few rule sized.0 (length rule - 1) last)

-- ---- what a node accounts for

module _ (rule sizes : List ℕ) (k : ℕ) (sized : Sized rule sizes) (inside : k < length rule) where
  abbrev table : Table
  table = table_in rule

  -- the lines of a block that node k accounts for
  abbrev pub accounted : ℕ
  accounted = work_size table k + cond (is_past (node_at table k)) 1 0

  past_lines : (x : Node) → node_at table k ≡ x → is_past x ≡ true → accounted ≡ update_size table x + 1
  unfolding work_size
  past_lines x e p = let past : is_past (node_at table k) ≡ true = ap is_past e ∙ p in rw (past_unshared table k past, past, e)

  lower_size : (j : ℕ) → j < k → get_or sizes j 0 ≡ decide_size table j
  lower_size j l = sized.1 j (omega arith)

  -- a since node: its operands' sizes, and the lines
  pub since_lines : (left right : ℕ) → node_at table k ≡ since_node left right
      → (get_or sizes right 0 ≤ 961) × (get_or sizes left 0 ≤ 961) × (get_or sizes right 0 + get_or sizes left 0 + 6 ≡ accounted)
  unfolding update_size
  since_lines left right e =
      let (a, b) = both_lower k left right (rw e at ((rule_out form_in rule sized.0).ordered.lower k)) in
      let l = lower_size left a in
      let r = lower_size right b in (
        omega (arith, node_few rule sized.0 right (omega arith)),
        omega (arith, node_few rule sized.0 left (omega arith)),
        omega (arith, past_lines (since_node left right) e refl),
      )

  -- a weak previous node, likewise
  pub weak_lines : (left : ℕ) → node_at table k ≡ weak_previous_node left → (get_or sizes left 0 ≤ 961) × (get_or sizes left 0 + 4 ≡ accounted)
  unfolding update_size
  weak_lines left e =
      let a = one_lower k left (rw e at ((rule_out form_in rule sized.0).ordered.lower k)) in
      let l = lower_size left a in
      (omega (arith, node_few rule sized.0 left (omega arith)), omega (arith, past_lines (weak_previous_node left) e refl))

  pub own_small : size_from (λ j. get_or sizes j 0) (node_at table k) 0 < 65536
  own_small = omega (arith, own_at rule sizes k sized.0 lower_size, own_few rule sized.0 k inside)

  module _ (not-past : is_past (node_at table k) ≡ false) where
    pub shared_lines : is_shared table k ≡ true → (n : ℕ) → n ≡ size_from (λ j. get_or sizes j 0) (node_at table k) 0 → n + 3 ≡ accounted
    unfolding work_size shared_size
    shared_lines s n e = rw (s, not-past) (omega (arith, own_at rule sizes k sized.0 lower_size))

    pub no_lines : is_shared table k ≡ false → 0 ≡ accounted
    unfolding work_size
    no_lines s = rw (s, not-past) (omega (arith, no_update table (node_at table k) not-past))
