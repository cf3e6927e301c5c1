-- The laws of `specs/Registers.antt`.
--     one_register, same_register_lem, two_registers_lem       the registers of a test
--     registers_is, FilledTo, registers_next           node after node, in rising order
--     MovedTo, moved_next, next_few                    the words of the next priors
--     node_reason, prior_reason, EarlierAt, earlier_first     what nodes and priors depend on
--     registers_here, earlier_next                     from the priors: what every node depends on, and the next priors
-- Assumes nothing.
use mathlib.Core.Path.{◌≡◌, refl, sym, ap, ap₂, fun_ext, ◌∙◌}
use mathlib.Core.Logic.{inl, inr}
use mathlib.Core.Bool.{true, false, not, ◌&&◌, ◌||◌, and-true}
use mathlib.Core.List.{List}
use Prim.Native.Nat.{ℕ, zero, suc, ◌≤◌, ◌<◌}
use native.Mathlib.Nat.{le_refl}
use native.Mathlib.Omega.{arith}
use lib.ListN.{length, get_or, set}
use lib.Seq.{get_or-set_same, get_or-set_other}
use lib.Dec.{eqb, ltb}
use borrow.Author.Tests.{eq-eqb, ne_eqb}
use Rattle.spec.specs.Logic.{Trace, equal_registers, since}
use Rattle.spec.specs.Questions.{all}
use Rattle.spec.specs.Rule.{Node, false_node, test_node, implies_node, since_node, weak_previous_node, Table, node_at, is_past, operands, formula_from, formula_at, next_from, next_of}
use Rattle.spec.proofs.BoolLaws.{clash, le_or_lt}
use Rattle.spec.proofs.RuleLaws.{InOrder, both_lower, one_lower, by_lower, LooksAt, through_is, formula_is}
use Rattle.sets.specs.Sets.{set_of, adding}
use Rattle.sets.proofs.SetLaws.{empty_is, empty_set, adding_is}
use Rattle.intervals.specs.Limits.{Truth₃, can, open_if}
use Rattle.intervals.specs.Reasons.{Reason, always, test_registers, implies_reason, since_reason, since_reason_at, previous_reason_at, reason_at}
use Rattle.intervals.proofs.TruthLaws.{open_can}
use Rattle.intervals.proofs.ReasonLaws.{reason_truth}
use Rattle.limits.specs.Monitor.{Values, NodeValues}
use Rattle.limits.proofs.MonitorLaws.{node_truth, last_truth, PriorsAt}
use Rattle.reasons.specs.Registers.{Registers, reason_from, node_registers, registers_at, sets_in}

-- ---- the registers of a test

pub one_register : (r : ℕ) → r < 64 → adding (set_of 0) r true ≡ (λ j. eqb j r)
one_register r h = fun_ext (λ j. adding_is (set_of 0) r true h j ∙ ap₂ (λ a b. a || b) (empty_set j) (and-true (eqb j r)))

pub same_register_lem : (r q : ℕ) → r ≡ q → set_of 0 ≡ test_registers (equal_registers r q)
same_register_lem r q e = empty_is ∙ fun_ext (λ j. sym (ap (λ b. not b && (eqb j r || eqb j q)) (eq-eqb r q e)))

pub two_registers_lem : (r q : ℕ) → (r ≡ q → ⊥) → r < 64 → q < 64 → adding (adding (set_of 0) r true) q true ≡ test_registers (equal_registers r q)
two_registers_lem r q n h g =
    fun_ext (λ j. adding_is (adding (set_of 0) r true) q true g j
    ∙ ap₂ (λ a b. a || b) (ap (λ s. s j) (one_register r h)) (and-true (eqb j q))
    ∙ sym (ap (λ b. not b && (eqb j r || eqb j q)) (ne_eqb r q n)))

-- ---- node after node

module _ (v p : NodeValues) (before : ℕ → Registers) where
  -- a node looks at its operands alone
  node_looks : LooksAt (λ (on : ℕ → Registers) (x : Node) (k : ℕ). node_registers x k v p on before)
  unfolding node_registers
  node_looks g h false_node k a = refl
  node_looks g h (test_node b) k a = refl
  node_looks g h (implies_node l r) k a = ap₂ (λ (m n : Registers). (implies_reason (reason_from (v l) m) (reason_from (v r) n)).registers) a.0 a.1.0
  node_looks g h (since_node l r) k a =
      ap₂ (λ (m n : Registers). (since_reason (reason_from (v l) m) (reason_from (v r) n) (reason_from (p k) (before k))).registers) a.0 a.1.0
  node_looks g h (weak_previous_node l) k a = refl

  lower_same : (on on' : ℕ → Registers) (k : ℕ) → ((j : ℕ) → j < k → on j ≡ on' j) → (x : Node) → all (λ j. ltb j k) (operands x) ≡ true
      → node_registers x k v p on before ≡ node_registers x k v p on' before
  lower_same on on' k same false_node o = node_looks on on' false_node k tt
  lower_same on on' k same (test_node b) o = node_looks on on' (test_node b) k tt
  lower_same on on' k same (implies_node l r) o = let (a, b) = both_lower k l r o in node_looks on on' (implies_node l r) k (same l a, (same r b, tt))
  lower_same on on' k same (since_node l r) o = let (a, b) = both_lower k l r o in node_looks on on' (since_node l r) k (same l a, (same r b, tt))
  lower_same on on' k same (weak_previous_node l) o = node_looks on on' (weak_previous_node l) k (same l (one_lower k l o), tt)

  -- the words of the nodes below k
  abbrev pub FilledTo : Table → (words : List ℕ) → ℕ → Type 0
  FilledTo t ws k = (j : ℕ) → j < k → sets_in ws j ≡ registers_at t v p before j

  module _ (t : Table) (ordered : InOrder t) where
    pub registers_is : (k : ℕ) → registers_at t v p before k ≡ node_registers (node_at t k) k v p (registers_at t v p before) before
    unfolding registers_at
    registers_is k = through_is (λ r. false) (λ on x j. node_registers x j v p on before) node_looks t ordered k

    pub registers_next : (ws : List ℕ) (k w : ℕ) → k < length ws → set_of w ≡ node_registers (node_at t k) k v p (sets_in ws) before → FilledTo t ws k → FilledTo t (set ws k w) (suc k)
    registers_next ws k w h e f j l =
        elim (le_or_lt k j) [
          | inl a ↦
              let z : j ≡ k = omega arith in
              ap (sets_in (set ws k w)) z ∙ ap set_of (get_or-set_same ws k w 0 h) ∙ e
              ∙ lower_same (sets_in ws) (registers_at t v p before) k f (node_at t k) (ordered.lower k) ∙ sym (registers_is k) ∙ ap (registers_at t v p before) (sym z)
          | inr a ↦ ap set_of (get_or-set_other ws k j w 0 (λ z. omega arith)) ∙ f j a
        ]

-- ---- the words of the next priors

-- those of the nodes below k
abbrev pub MovedTo : Table → (registers earlier : List ℕ) → ℕ → Type 0
MovedTo t ws es k = (j : ℕ) → j < k → sets_in es j ≡ sets_in ws (next_of t j)

pub moved_next : (t : Table) (ws es : List ℕ) (k : ℕ) → k < length es → MovedTo t ws es k → MovedTo t ws (set es k (get_or ws (next_of t k) 0)) (suc k)
moved_next t ws es k h f j l =
    let w = get_or ws (next_of t k) 0 in
    elim (le_or_lt k j) [
      | inl a ↦
          let z : j ≡ k = omega arith in
          ap (sets_in (set es k w)) z ∙ ap set_of (get_or-set_same es k w 0 h) ∙ ap (λ i. sets_in ws (next_of t i)) (sym z)
      | inr a ↦ ap set_of (get_or-set_other es k j w 0 (λ z. omega arith)) ∙ f j a
    ]

-- it is the node itself or a lower one
pub next_few : (t : Table) → InOrder t → (k : ℕ) → next_of t k ≤ k
next_few t ordered k = go (node_at t k) (ordered.lower k)
  where
    go : (x : Node) → all (λ j. ltb j k) (operands x) ≡ true → next_from x k ≤ k
    go false_node o = le_refl k
    go (test_node a) o = le_refl k
    go (implies_node l r) o = le_refl k
    go (since_node l r) o = le_refl k
    go (weak_previous_node l) o = let h = one_lower k l o in omega arith

-- ---- what nodes and priors depend on

module _ (t : Table) (lows highs : Trace) where
  abbrev pub node_reason : ℕ → ℕ → Reason
  node_reason k n = reason_at lows highs (formula_at t k) n

  abbrev pub last_reason : ℕ → ℕ → Reason
  last_reason k zero = always false
  last_reason k (suc n) = node_reason k n

  abbrev pub prior_reason : Node → ℕ → ℕ → Reason
  prior_reason false_node k n = always false
  prior_reason (test_node a) k n = always false
  prior_reason (implies_node l r) k n = always false
  prior_reason (since_node l r) k n = last_reason k n
  prior_reason (weak_previous_node l) k n = previous_reason_at (λ i. node_reason l i) n

  -- e holds what the prior of every past node depends on before index n
  abbrev pub EarlierAt : ℕ → (ℕ → Registers) → Type 0
  EarlierAt n e = (k : ℕ) → is_past (node_at t k) ≡ true → e k ≡ (prior_reason (node_at t k) k n).registers

  pub earlier_first : (e : ℕ → Registers) → ((k : ℕ) → e k ≡ (λ r. false)) → EarlierAt 0 e
  unfolding previous_reason_at
  earlier_first e none k past = none k ∙ go (node_at t k)
    where
      go : (x : Node) → (λ r. false) ≡ (prior_reason x k 0).registers
      go false_node = refl
      go (test_node a) = refl
      go (implies_node l r) = refl
      go (since_node l r) = refl
      go (weak_previous_node l) = refl

  since_reason_lem : (k l r n : ℕ) → formula_at t k ≡ since (formula_at t l) (formula_at t r)
      → node_reason k n ≡ since_reason (node_reason l n) (node_reason r n) (last_reason k n)
  unfolding reason_at since_reason_at
  since_reason_lem k l r zero e = rw e
  since_reason_lem k l r (suc n) e = ap (λ φ. reason_at lows highs φ (suc n)) e ∙ ap (since_reason (node_reason l (suc n)) (node_reason r (suc n))) (sym (ap (λ φ. reason_at lows highs φ n) e))

  -- a reason from what can be and its registers
  from_truth : (a : Reason) (v : Truth₃) (c : Values) (on : Registers) → a.truth ≡ v → c ≡ can v → on ≡ a.registers → reason_from c on ≡ a
  from_truth a v c on e d g =
      let truth = ap₂ open_if (ap (λ f. f true) d) (ap (λ f. f false) d) ∙ open_can v ∙ sym e in
      λ i. record { truth = truth i; registers = g i }

  module _ (ordered : InOrder t) (n : ℕ) (v p : NodeValues) (e : ℕ → Registers) (values : (k : ℕ) → k < length t → v k ≡ can (node_truth t lows highs k n))
      (priors : PriorsAt t lows highs n p) (earlier : EarlierAt n e) where
    abbrev Here : ℕ → Type 0
    Here k = k < length t → registers_at t v p e k ≡ (node_reason k n).registers

    reason_of_lem : (on : ℕ → Registers) (k : ℕ) → k < length t → on k ≡ (node_reason k n).registers → reason_from (v k) (on k) ≡ node_reason k n
    reason_of_lem on k h d = from_truth (node_reason k n) (node_truth t lows highs k n) (v k) (on k) (reason_truth lows highs (formula_at t k) n) (values k h) d

    last_truth_lem : (k n : ℕ) → (last_reason k n).truth ≡ last_truth t lows highs k n
    last_truth_lem k zero = refl
    last_truth_lem k (suc n) = reason_truth lows highs (formula_at t k) n

    last_of : (k l r : ℕ) → node_at t k ≡ since_node l r → reason_from (p k) (e k) ≡ last_reason k n
    last_of k l r x =
        from_truth (last_reason k n) (last_truth t lows highs k n) (p k) (e k) (last_truth_lem k n)
        (rw x at (priors k (rw x))) (rw x at (earlier k (rw x)))

    node_here : (k : ℕ) → k < length t → (on : ℕ → Registers) → ((j : ℕ) → j < k → on j ≡ (node_reason j n).registers) → (x : Node) → node_at t k ≡ x
        → all (λ j. ltb j k) (operands x) ≡ true → formula_at t k ≡ formula_from (formula_at t) x k → node_registers x k v p on e ≡ (node_reason k n).registers
    unfolding node_registers reason_at
    node_here k h on lower false_node x o f = rw f
    node_here k h on lower (test_node a) x o f = rw f
    node_here k h on lower (implies_node l r) x o f =
        let (lo, ro) = both_lower k l r o in
        ap₂ (λ a b. (implies_reason a b).registers) (reason_of_lem on l (omega arith) (lower l lo)) (reason_of_lem on r (omega arith) (lower r ro)) ∙ sym (ap (λ φ. (reason_at lows highs φ n).registers) f)
    node_here k h on lower (since_node l r) x o f =
        let (lo, ro) = both_lower k l r o in
        let a = reason_of_lem on l (omega arith) (lower l lo) in
        let b = reason_of_lem on r (omega arith) (lower r ro) in
        let c = last_of k l r x in
        (λ i. (since_reason (a i) (b i) (c i)).registers) ∙ sym (ap (λ y. y.registers) (since_reason_lem k l r n f))
    node_here k h on lower (weak_previous_node l) x o f = (rw x at (earlier k (rw x))) ∙ sym (ap (λ φ. (reason_at lows highs φ n).registers) f)

    pub registers_here : (k : ℕ) → k < length t → registers_at t v p e k ≡ (node_reason k n).registers
    registers_here = by_lower Here (λ k lower h.
        registers_is v p e t ordered k
        ∙ node_here k h (registers_at t v p e) (λ j l. lower j l (omega arith)) (node_at t k) refl (ordered.lower k) (formula_is t ordered k))

  -- the next priors
  pub earlier_next : (n : ℕ) (e : ℕ → Registers) → ((k : ℕ) → is_past (node_at t k) ≡ true → e k ≡ (node_reason (next_of t k) n).registers) → EarlierAt (suc n) e
  unfolding previous_reason_at
  earlier_next n e next k past = next k past ∙ go (node_at t k) past
    where
      go : (x : Node) → is_past x ≡ true → (node_reason (next_from x k) n).registers ≡ (prior_reason x k (suc n)).registers
      go false_node d = clash d refl
      go (test_node a) d = clash d refl
      go (implies_node l r) d = clash d refl
      go (since_node l r) d = refl
      go (weak_previous_node l) d = refl
