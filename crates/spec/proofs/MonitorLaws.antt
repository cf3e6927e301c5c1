-- The laws of `specs/Monitor.antt`.
--     since_same                        a since step on equal values
--     step_below, below_has             a set that nodes join in rising order
--     PriorsAre                         a set that holds the priors
--     values_at, priors_next            from the priors: every node's value now, and the priors after a presentation
--     unread_same                       a register that the rule does not read changes none of them
-- Assumes nothing.
use mathlib.Core.Path.{◌≡◌, refl, sym, ap, ap₂, ◌∙◌}
use mathlib.Core.Logic.{inl, inr}
use mathlib.Core.Bool.{Bool, true, false, not, ◌&&◌, ◌||◌, and-false, or-false}
use Prim.Native.Nat.{ℕ, zero, suc, ◌<◌}
use native.Mathlib.Nat.{le_refl}
use native.Mathlib.Omega.{arith}
use lib.ListN.{length, set}
use lib.Seq.{set_out, get_or-set_other}
use lib.Dec.{ltb, eqb}
use borrow.Author.Tests.{lt-ltb, le-ltb, eq-eqb, ne_eqb, eqb-false}
use Rattle.spec.specs.Logic.{register_count, State, Trace, Test, equal, below, equal_registers, register_of, passes}
use Rattle.spec.specs.Questions.{all}
use Rattle.spec.specs.Rule.{Node, false_node, test_node, implies_node, since_node, weak_previous_node, Table, node_at, is_past, operands, with_present, value_now, prior_from, prior, next_from, next_of}
use Rattle.spec.specs.Monitor.{since_step, node_value, node_next, joining, joined, with_node, moment_below, moment_of, reads, node_reads, read_below, rule_reads}
use Rattle.spec.proofs.BoolLaws.{clash, decided, le_or_lt}
use Rattle.spec.proofs.RuleLaws.{InOrder, both_lower, one_lower, past_in}
use Rattle.spec.proofs.ValueLaws.{value_from, value_is_lem, prior_after}

pub since_same : {l l' r r' p p' : Bool} → l ≡ l' → r ≡ r' → p ≡ p' → since_step l r p ≡ since_step l' r' p'
since_same a b c = λ i. since_step (a i) (b i) (c i)

-- a set to which node n is added, rising: the nodes below n + 1 that have it
pub step_below : (n j : ℕ) (f : ℕ → Bool) → (ltb j n && f j || eqb j n && f n) ≡ ltb j (suc n) && f j
step_below n j f =
    elim (le_or_lt n j) [
      | inl h ↦ elim (le_or_lt j n) [
        | inl l ↦ let e : j ≡ n = omega arith in rw (e, le-ltb n n (le_refl n), eq-eqb n n refl, lt-ltb n (suc n) (le_refl (suc n)))
        | inr l ↦ rw (le-ltb j n h, ne_eqb j n (λ e. omega arith), le-ltb j (suc n) l)
      ]
      | inr h ↦ rw (lt-ltb j n h, ne_eqb j n (λ e. omega arith), lt-ltb j (suc n) (omega arith)) (or-false (f j))
    ]

pub below_has : (n j : ℕ) (b : Bool) → j < n → (ltb j n && b) ≡ b
below_has n j b h = rw (lt-ltb j n h)

-- a node that is no past node has no prior
no_prior : (t : Table) (h : Trace) (s : State) (k : ℕ) (x : Node) → is_past x ≡ false → prior_from t h s x k ≡ false
no_prior t h s k false_node e = refl
no_prior t h s k (test_node a) e = refl
no_prior t h s k (implies_node l r) e = refl
no_prior t h s k (since_node l r) e = clash refl e
no_prior t h s k (weak_previous_node o) e = clash refl e

-- p holds the prior of every past node
abbrev pub PriorsAre : Table → Trace → State → (ℕ → Bool) → Type 0
PriorsAre t h s p = (k : ℕ) → is_past (node_at t k) ≡ true → p k ≡ prior t h s k

module _ (t : Table) (ordered : InOrder t) (h : Trace) (s : State) (p : ℕ → Bool) (priors : PriorsAre t h s p) where
  abbrev val : ℕ → Bool
  val j = value_now t h s j

  prior_is_lem : (k : ℕ) (x : Node) → node_at t k ≡ x → is_past x ≡ true → p k ≡ prior_from t h s x k
  unfolding prior
  prior_is_lem k x e past = rw e at (priors k (rw e past))

  -- the value of node k, where the values of lower nodes are known
  value_of : (k : ℕ) (v : ℕ → Bool) → ((j : ℕ) → j < k → v j ≡ val j) → (x : Node) → node_at t k ≡ x → all (λ j. ltb j k) (operands x) ≡ true
      → node_value x k s v p ≡ value_from t h s x k
  unfolding node_value value_from
  value_of k v known false_node e o = refl
  value_of k v known (test_node a) e o = refl
  value_of k v known (implies_node l r) e o = let (lo, ro) = both_lower k l r o in ap₂ (λ a b. not a || b) (known l lo) (known r ro)
  value_of k v known (since_node l r) e o =
      let (lo, ro) = both_lower k l r o in since_same (known l lo) (known r ro) (prior_is_lem k (since_node l r) e refl)
  value_of k v known (weak_previous_node l) e o = prior_is_lem k (weak_previous_node l) e refl

  next_of_lem : (k : ℕ) (v : ℕ → Bool) → ((j : ℕ) → j < k → v j ≡ val j) → (x : Node) → all (λ j. ltb j k) (operands x) ≡ true
      → node_next x (val k) v ≡ is_past x && val (next_from x k)
  unfolding node_next
  next_of_lem k v known false_node o = refl
  next_of_lem k v known (test_node a) o = refl
  next_of_lem k v known (implies_node l r) o = refl
  next_of_lem k v known (since_node l r) o = refl
  next_of_lem k v known (weak_previous_node l) o = known l (one_lower k l o)

  record Right (n : ℕ) : Type 0 where
    values_right : (j : ℕ) → (moment_below n t s p).values j ≡ ltb j n && val j
    priors_right : (j : ℕ) → (moment_below n t s p).priors j ≡ ltb j n && (is_past (node_at t j) && val (next_of t j))

  right : (n : ℕ) → Right n
  unfolding moment_below with_node joining
  right zero = record { values_right = λ j. rw (le-ltb j 0 (omega arith)); priors_right = λ j. rw (le-ltb j 0 (omega arith)) }
  right (suc n) =
      let r = right n in
      let m = moment_below n t s p in
      let known : (j : ℕ) → j < n → m.values j ≡ val j = λ j i. r.values_right j ∙ below_has n j (val j) i in
      let x = node_at t n in
      let value : node_value x n s m.values p ≡ val n = value_of n m.values known x refl (ordered.lower n) ∙ sym (value_is_lem t ordered h s n) in
      let next = ap (λ b. node_next x b m.values) value ∙ next_of_lem n m.values known x (ordered.lower n) in
      record {
        values_right = λ j. ap₂ (λ a b. a || eqb j n && b) (r.values_right j) value ∙ step_below n j val;
        priors_right = λ j. ap₂ (λ a b. a || eqb j n && b) (r.priors_right j) next ∙ step_below n j (λ i. is_past (node_at t i) && val (next_of t i));
      }

  pub values_at : (k : ℕ) → k < length t → (moment_of t s p).values k ≡ value_now t h s k
  unfolding moment_of
  values_at k l = (right (length t)).values_right k ∙ below_has (length t) k (val k) l

  -- of every node: one that is no past node has none
  pub priors_next : (s' : State) (k : ℕ) → (moment_of t s p).priors k ≡ prior t (with_present h s) s' k
  unfolding moment_of prior
  priors_next s' k =
      elim (decided (is_past (node_at t k))) [
        | inl past ↦ (right (length t)).priors_right k ∙ below_has (length t) k _ (past_in t k past)
            ∙ rw past (sym (prior_after t ordered h s s' k past))
        | inr not-past ↦ (right (length t)).priors_right k ∙ (simp (not-past, and-false)) ∙ sym (no_prior t (with_present h s) s' k (node_at t k) not-past)
      ]

-- ---- a register that the rule does not read

or_none : (a b : Bool) → (a || b) ≡ false → (a ≡ false) × (b ≡ false)
or_none true b e = clash refl e
or_none false b e = (refl, e)

module _ (s : State) (r v : ℕ) where
  abbrev s' : State
  s' = set s r v

  register_same : (q : ℕ) → eqb r q ≡ false → register_of s' q ≡ register_of s q
  register_same q e = get_or-set_other s r q v 0 (λ d. eqb-false r q e (sym d))

  passes_same : (a : Test) → reads a r ≡ false → passes a s' ≡ passes a s
  unfolding passes
  passes_same (equal q c) e = rw (register_same q e)
  passes_same (below q c) e = rw (register_same q e)
  passes_same (equal_registers q o) e = let (a, b) = or_none (eqb r q) (eqb r o) e in rw (register_same q a, register_same o b)

  node_same : (x : Node) → node_reads x r ≡ false → (k : ℕ) (w p : ℕ → Bool) → node_value x k s' w p ≡ node_value x k s w p
  unfolding node_value
  node_same false_node e k w p = refl
  node_same (test_node a) e k w p = passes_same a e
  node_same (implies_node left right) e k w p = refl
  node_same (since_node left right) e k w p = refl
  node_same (weak_previous_node left) e k w p = refl

  below_same : (t : Table) (p : ℕ → Bool) (n : ℕ) → read_below n t r ≡ false → moment_below n t s' p ≡ moment_below n t s p
  unfolding moment_below read_below with_node
  below_same t p zero e = refl
  below_same t p (suc n) e =
      let (lower, here) = or_none (read_below n t r) (node_reads (node_at t n) r) e in
      let x = node_at t n in
      ap (λ m. with_node x n s' p m) (below_same t p n lower)
      ∙ ap (λ b. let m = moment_below n t s p in joined n b (node_next x b m.values) m) (node_same x here n (moment_below n t s p).values p)

  pub unread_same : (t : Table) (p : ℕ → Bool) → length s ≡ register_count → rule_reads t r ≡ false → moment_of t s' p ≡ moment_of t s p
  unfolding moment_of rule_reads
  unread_same t p n e =
      elim (le_or_lt register_count r) [
        | inl h ↦ ap (λ z. moment_below (length t) t z p) (set_out s r v (omega arith))
        | inr h ↦ below_same t p (length t) (rw (lt-ltb r register_count h) at e)
      ]
