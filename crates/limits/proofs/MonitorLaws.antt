-- The laws of `specs/Monitor.antt`.
--     both_sides, joins, keeps_value          what the code's pairs and sets say, value by value
--     PriorsAt, priors_first, first_are       priors before an index, and the first ones
--     values_at, priors_next                  from the priors: what every node can be, and the next priors
-- Assumes nothing.
use mathlib.Core.Path.{◌≡◌, refl, sym, ap, ap₂, fun_ext, ◌∙◌}
use mathlib.Core.Bool.{Bool, true, false, cond, not, ◌&&◌, ◌||◌}
use mathlib.Core.List.{List}
use Prim.Native.Nat.{ℕ, zero, suc, ◌≤◌, ◌<◌}
use native.Mathlib.Omega.{arith}
use lib.ListN.{length}
use lib.Dec.{eqb, ltb}
use borrow.Author.Tests.{lt-ltb, le-ltb}
use Rattle.spec.specs.Logic.{State, Trace, state_at, register_of, since}
use Rattle.spec.specs.Questions.{all}
use Rattle.spec.specs.Rule.{form64, Node, false_node, test_node, implies_node, since_node, weak_previous_node, Table, node_at, is_weak_previous, is_past, operands, formula_from, formula_at, next_from, next_of}
use mathlib.Core.Logic.{inl, inr}
use Rattle.spec.proofs.BoolLaws.{clash, le_or_lt}
use Rattle.spec.proofs.StoredLaws.{no_nodes_lem}
use Rattle.spec.proofs.RuleLaws.{rule_out, InOrder, both_lower, one_lower, past_in, formula_is}
use Rattle.spec.proofs.MonitorLaws.{step_below, below_has}
use Rattle.sets.specs.Sets.{set_of, adding, excluding}
use Rattle.sets.proofs.SetLaws.{empty_set, adding_is}
use Rattle.sets.proofs.WordLaws.{full_set}
use Rattle.rule.specs.declared.node.Node.{Node as Read}
use Rattle.rule.specs.declared.node.Node.TheVariants.{False, Equal, Below, Implies, Since, WeakPrevious, EqualRegisters}
use Rattle.rule.specs.Nodes.{form_in, node_read, RulePasses}
use Rattle.rule.specs.Monitor.{first_priors}
use Rattle.rule.proofs.MonitorLaws.{first_is}
use Rattle.intervals.specs.Limits.{Truth₃, false₃, can, since₃, since_at, previous_at, truth_at}
use Rattle.intervals.proofs.TruthLaws.{implies_can_lem, since_can_lem}
use Rattle.intervals.proofs.TestLaws.{test_is}
use Rattle.limits.specs.declared.monitor.Can.{Can}
use Rattle.limits.specs.declared.monitor.Cans.{Cans}
use Rattle.limits.specs.Monitor.{Values, can_of, none, implies_can, since_can, NodeValues, cans_of, node_can, node_next, joining, with_node, now_below, now_at, first_cans}

-- ---- pairs and sets

pub both_sides : {f g : Bool → Bool} → f true ≡ g true → f false ≡ g false → f ≡ g
both_sides {f} {g} p q = fun_ext go
  where
    go : (b : Bool) → f b ≡ g b
    go true = p
    go false = q

-- node k joins two sets
pub joins : (s r : Cans) (k : ℕ) (x : Can) → k < 64 → set_of r.yes ≡ adding (set_of s.yes) k x.yes → set_of r.no ≡ adding (set_of s.no) k x.no
    → cans_of r ≡ joining (cans_of s) k (can_of x)
unfolding joining
joins s r k x h p q =
    fun_ext (λ j. both_sides
    (ap (λ t. t j) p ∙ adding_is (set_of s.yes) k x.yes h j)
    (ap (λ t. t j) q ∙ adding_is (set_of s.no) k x.no h j))

-- no node at all
pub none_are : ◌≡◌ {A = NodeValues} (λ k b. set_of (cond b 0 0) k) (λ k. none)
none_are = fun_ext (λ k. both_sides (empty_set k) (empty_set k))

-- for a node that is no weak previous, what its next prior can be is what it can be itself
pub keeps_value : (x : Read) (value : Values) (values : NodeValues) → ((l : ℕ) → x ≡ WeakPrevious l → ⊥) → value ≡ node_next (node_read x) value values
unfolding node_next
keeps_value False value values n = refl
keeps_value (Equal r c) value values n = refl
keeps_value (Below r c) value values n = refl
keeps_value (Implies l r) value values n = refl
keeps_value (Since l r) value values n = refl
keeps_value (WeakPrevious l) value values n = absurd (n l refl)
keeps_value (EqualRegisters r q) value values n = refl

-- a rule that is held has at most 64 nodes
pub few_held : (rule : List ℕ) → RulePasses rule → length rule ≤ 64
unfolding form64
few_held rule accepted = (rule_out form_in rule accepted).few_nodes

-- ---- what nodes can be, at an index of limits that are in order

module _ (t : Table) (lows highs : Trace) where
  -- the answer for node k at index n
  abbrev pub node_truth : ℕ → ℕ → Truth₃
  node_truth k n = truth_at lows highs (formula_at t k) n

  -- since's last value
  abbrev pub last_truth : ℕ → ℕ → Truth₃
  last_truth k zero = false₃
  last_truth k (suc n) = node_truth k n

  -- the prior of a past node: for since its last value, for weak previous its own value now
  abbrev pub prior_truth : Node → ℕ → ℕ → Truth₃
  prior_truth false_node k n = false₃
  prior_truth (test_node a) k n = false₃
  prior_truth (implies_node l r) k n = false₃
  prior_truth (since_node l r) k n = last_truth k n
  prior_truth (weak_previous_node l) k n = previous_at (λ i. node_truth l i) n

  -- p holds what the prior of every past node can be before index n
  abbrev pub PriorsAt : ℕ → NodeValues → Type 0
  PriorsAt n p = (k : ℕ) → is_past (node_at t k) ≡ true → p k ≡ can (prior_truth (node_at t k) k n)

  since_now : (k l r n : ℕ) → formula_at t k ≡ since (formula_at t l) (formula_at t r) → node_truth k n ≡ since₃ (node_truth l n) (node_truth r n) (last_truth k n)
  unfolding truth_at since_at
  since_now k l r zero e = rw e
  since_now k l r (suc n) e = ap (λ φ. truth_at lows highs φ (suc n)) e ∙ ap (since₃ (node_truth l (suc n)) (node_truth r (suc n))) (sym (ap (λ φ. truth_at lows highs φ n) e))

  module _ (ordered : InOrder t) (order : (i r : ℕ) → register_of (state_at lows i) r ≤ register_of (state_at highs i) r)
      (n : ℕ) (p : NodeValues) (priors : PriorsAt n p) where
    abbrev low : State
    low = state_at lows n

    abbrev high : State
    high = state_at highs n

    prior_is_lem : (k : ℕ) (x : Node) → node_at t k ≡ x → is_past x ≡ true → p k ≡ can (prior_truth x k n)
    prior_is_lem k x e past = rw e at (priors k (rw e past))

    abbrev Known : ℕ → NodeValues → Type 0
    Known k v = (j : ℕ) → j < k → v j ≡ can (node_truth j n)

    value_of : (k : ℕ) (v : NodeValues) → Known k v → (x : Node) → node_at t k ≡ x → all (λ j. ltb j k) (operands x) ≡ true
        → formula_at t k ≡ formula_from (formula_at t) x k → node_can x k low high v p ≡ can (node_truth k n)
    unfolding node_can truth_at
    value_of k v known false_node e o f = rw f (both_sides refl refl)
    value_of k v known (test_node a) e o f = rw f (both_sides (sym (test_is a low high (order n) true)) (sym (test_is a low high (order n) false)))
    value_of k v known (implies_node l r) e o f =
        let (lo, ro) = both_lower k l r o in
        let (yes-is, no-is) = implies_can_lem (node_truth l n) (node_truth r n) in
        ap₂ implies_can (known l lo) (known r ro) ∙ sym (ap (λ φ. can (truth_at lows highs φ n)) f ∙ both_sides yes-is no-is)
    value_of k v known (since_node l r) e o f =
        let (lo, ro) = both_lower k l r o in
        let a = known l lo in
        let b = known r ro in
        let c = prior_is_lem k (since_node l r) e refl in
        let (yes-is, no-is) = since_can_lem (node_truth l n) (node_truth r n) (last_truth k n) in
        (λ i. since_can (a i) (b i) (c i)) ∙ sym (ap can (since_now k l r n f) ∙ both_sides yes-is no-is)
    value_of k v known (weak_previous_node l) e o f =
        prior_is_lem k (weak_previous_node l) e refl ∙ sym (ap (λ φ. can (truth_at lows highs φ n)) f)

    next_of_lem : (k : ℕ) (v : NodeValues) → Known k v → (x : Node) → all (λ j. ltb j k) (operands x) ≡ true
        → node_next x (can (node_truth k n)) v ≡ can (node_truth (next_from x k) n)
    unfolding node_next
    next_of_lem k v known false_node o = refl
    next_of_lem k v known (test_node a) o = refl
    next_of_lem k v known (implies_node l r) o = refl
    next_of_lem k v known (since_node l r) o = refl
    next_of_lem k v known (weak_previous_node l) o = known l (one_lower k l o)

    record Right (m : ℕ) : Type 0 where
      values_right : (j : ℕ) (b : Bool) → (now_below m t low high p).values j b ≡ ltb j m && can (node_truth j n) b
      priors_right : (j : ℕ) (b : Bool) → (now_below m t low high p).priors j b ≡ ltb j m && can (node_truth (next_of t j) n) b

    right : (m : ℕ) → Right m
    unfolding now_below with_node joining
    right zero = record { values_right = λ j b. rw (le-ltb j 0 (omega arith)); priors_right = λ j b. rw (le-ltb j 0 (omega arith)) }
    right (suc m) =
        let r = right m in
        let s = now_below m t low high p in
        let known : Known m s.values = λ j i. fun_ext (λ b. r.values_right j b ∙ below_has m j (can (node_truth j n) b) i) in
        let x = node_at t m in
        let value : node_can x m low high s.values p ≡ can (node_truth m n) = value_of m s.values known x refl (ordered.lower m) (formula_is t ordered m) in
        let next = ap (λ v. node_next x v s.values) value ∙ next_of_lem m s.values known x (ordered.lower m) in
        record {
          values_right = λ j b. ap₂ (λ c d. c || eqb j m && d) (r.values_right j b) (ap (λ v. v b) value) ∙ step_below m j (λ i. can (node_truth i n) b);
          priors_right = λ j b. ap₂ (λ c d. c || eqb j m && d) (r.priors_right j b) (ap (λ v. v b) next) ∙ step_below m j (λ i. can (node_truth (next_of t i) n) b);
        }

    pub values_at : (k : ℕ) → k < length t → (now_at t low high p).values k ≡ can (node_truth k n)
    unfolding now_at
    values_at k l = fun_ext (λ b. (right (length t)).values_right k b ∙ below_has (length t) k (can (node_truth k n) b) l)

    prior_after : (k : ℕ) (x : Node) → is_past x ≡ true → node_truth (next_from x k) n ≡ prior_truth x k (suc n)
    unfolding previous_at
    prior_after k false_node e = clash e refl
    prior_after k (test_node a) e = clash e refl
    prior_after k (implies_node l r) e = clash e refl
    prior_after k (since_node l r) e = refl
    prior_after k (weak_previous_node l) e = refl

    pub priors_next : PriorsAt (suc n) (now_at t low high p).priors
    unfolding now_at
    priors_next k past =
        fun_ext (λ b. (right (length t)).priors_right k b ∙ below_has (length t) k (can (node_truth (next_of t k) n) b) (past_in t k past))
        ∙ ap can (prior_after k (node_at t k) past)

-- ---- the first priors

first_can : (t : Table) (lows highs : Trace) (k : ℕ) (x : Node) → is_past x ≡ true → (p : NodeValues) → p k true ≡ is_weak_previous x → p k false ≡ not (is_weak_previous x)
    → p k ≡ can (prior_truth t lows highs x k 0)
unfolding previous_at
first_can t lows highs k false_node e p a b = clash e refl
first_can t lows highs k (test_node c) e p a b = clash e refl
first_can t lows highs k (implies_node l r) e p a b = clash e refl
first_can t lows highs k (since_node l r) e p a b = both_sides a b
first_can t lows highs k (weak_previous_node l) e p a b = both_sides a b

pub priors_first : (t : Table) (lows highs : Trace) → length t ≤ 64 → PriorsAt t lows highs 0 (first_cans t)
unfolding first_cans
priors_first t lows highs few k past =
    let inside = past_in t k past in
    let first = first_is t few k inside in
    first_can t lows highs k (node_at t k) past (first_cans t) first
    (ap₂ (λ a b. a && not b) (lt-ltb k 64 (omega arith)) first)

-- the sets that they are held in: the word of all ones has every node below 64
all_nodes : (k : ℕ) → set_of 18446744073709551615 k ≡ ltb k 64
all_nodes k =
    elim (le_or_lt 64 k) [
      | inl h ↦ no_nodes_lem 64 18446744073709551615 k h ∙ sym (le-ltb k 64 h)
      | inr h ↦ full_set k h ∙ sym (lt-ltb k 64 h)
    ]

pub first_are : (t : Table) (s : Cans) → set_of s.yes ≡ first_priors t → set_of s.no ≡ excluding (set_of 18446744073709551615) (set_of s.yes) → cans_of s ≡ first_cans t
unfolding first_cans excluding
first_are t s p q = fun_ext (λ k. both_sides (ap (λ f. f k) p) (ap (λ f. f k) q ∙ ap₂ (λ a b. a && not b) (all_nodes k) (ap (λ f. f k) p)))
