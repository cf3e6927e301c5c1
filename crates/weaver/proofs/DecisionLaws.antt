-- Deciding a node by recursion into its operands.
--     kept_length                          words of an output that keeps its length
--     falls_to                             the measure
--     size_some                            deciding takes at least a line
--     asked_as                             whether it is a mention of a shared node
--     by_work_size, by_work_code           a mention of a shared node is decided by its work bit
--     by_kind_size, by_kind_code           any other node, and a shared node in its own code, by what it is
--     work_room, work_code_lem                 so much output that takes, and so it is written
--     Completes                            what is still to be written, and then all is
--     Implied, implied                     an implies node: its operands can be decided where it can, and their code is the node's
--     simple_room, simple_code             any other node
-- Assumes nothing.
use mathlib.Core.Path.{◌≡◌, refl, sym, ap, subst, ◌∙◌}
use mathlib.Core.Logic.{inl, inr}
use mathlib.Core.Bool.{Bool, true, false, not, ◌&&◌, and-true, and-false}
use mathlib.Core.List.{List, ◌++◌}
use Prim.Native.Nat.{ℕ, ◌+◌, ◌-◌, ◌*◌, ◌≤◌, ◌<◌}
use native.Mathlib.Omega.{arith}
use lib.Dec.{ltb}
use lib.ListN.{length, get_or}
use Rattle.spec.specs.Questions.{all}
use Rattle.spec.specs.Rule.{form64, Node, false_node, test_node, implies_node, since_node, weak_previous_node, Table, node_at, operands, is_shared}
use Rattle.spec.specs.Script.{if_work, branch, goto, word_for, most_lines}
use Rattle.spec.specs.Facts.{value_is, Facts, ◌∪◌, one}
use Rattle.spec.specs.Weaver.{size_from, decide_size, leaf, decide_from, decide}
use Rattle.spec.proofs.BoolLaws.{clash, decided}
use Rattle.spec.proofs.RuleLaws.{InOrder, by_lower, both_lower, rule_out}
use Rattle.spec.proofs.WeaverLaws.{size_shared, size_own, by_mention}
use Rattle.sets.specs.Sets.{set_of}
use Rattle.weaver.specs.Parts.{deciding, deciding_size}
use Rattle.weaver.specs.Laid.{Deciding}
use Rattle.rule.specs.Nodes.{table_in, is_implies, form_in, over_at, Each}
use Rattle.rule.proofs.EachLaws.{length_each}
use Rattle.facts.specs.Written.{stored_line, Space, Written}
use Rattle.facts.proofs.OverLaws.{written_as}
use Rattle.weaver.proofs.SimpleLaws.{leaf_words}

pub kept_length : {A : Type 0} {number : A → ℕ} {numbers : List A → List ℕ} → Each number numbers → (before after : List A)
    → length after ≡ length before → length (numbers after) ≡ length (numbers before)
kept_length each before after e = length_each each after ∙ e ∙ sym (length_each each before)

-- the measure falls
pub falls_to : (j k t : ℕ) → k ≡ t → j < k → j < t
falls_to j k t e h = omega arith

positive : (size : ℕ → ℕ) (x : Node) (k : ℕ) → ((j l r : ℕ) → x ≡ implies_node l r → 0 < size l) → 0 < size_from size x k
positive size false_node k h = omega arith
positive size (test_node a) k h = omega arith
positive size (implies_node l r) k h = let p = h 0 l r refl in omega arith
positive size (since_node l r) k h = omega arith
positive size (weak_previous_node o) k h = omega arith

lower_left : (t : Table) → InOrder t → (k l r : ℕ) → node_at t k ≡ implies_node l r → (l < k) × (r < k)
lower_left t o k l r e = both_lower k l r (ap (λ x. all (λ j. ltb j k) (operands x)) (sym e) ∙ o.lower k)

-- a mention of a shared node has two lines
pub size_some : (t : Table) → InOrder t → (k : ℕ) → 0 < decide_size t k
size_some t o = by_lower (λ k. 0 < decide_size t k) (λ k below. elim (decided (is_shared t k)) [
  | inl s ↦ omega (arith, size_shared t o k s)
  | inr s ↦ subst (λ n. 0 < n) (sym (size_own t o k s))
      (positive (decide_size t) (node_at t k) k (λ j l r e. below l (lower_left t o k l r e).0))
])

-- ---- a mention of a shared node, and any other decision

-- the test in the code, of the set
pub asked_as : (h x own v : Bool) → h ≡ x → (h && not own) ≡ v → (x && not own) ≡ v
asked_as h x own v e d = ap (λ b. b && not own) (sym e) ∙ d

module _ (t : Table) (order : InOrder t) (k : ℕ) where
  pub by_work_size : (own : Bool) → (is_shared t k && not own) ≡ true → deciding_size own t k ≡ 2
  by_work_size true e = clash e (and-false (is_shared t k))
  by_work_size false e = size_shared t order k (sym (and-true (is_shared t k)) ∙ e)

  pub by_work_code : (own : Bool) (p y n : ℕ) (F : Facts) → (is_shared t k && not own) ≡ true
      → leaf (if_work k) k p y n F ≡ deciding own t k p y n F
  by_work_code true p y n F e = clash e (and-false (is_shared t k))
  by_work_code false p y n F e = by_mention t order (λ xs. leaf (if_work k) k p y n F ≡ xs) k p y n F (λ s. refl)
      (λ s. clash (sym (and-true (is_shared t k)) ∙ e) s)

  pub by_kind_size : (own : Bool) → (is_shared t k && not own) ≡ false → deciding_size own t k ≡ size_from (decide_size t) (node_at t k) k
  by_kind_size true e = refl
  by_kind_size false e = size_own t order k (sym (and-true (is_shared t k)) ∙ e)

  pub by_kind_code : (own : Bool) (p y n : ℕ) (F : Facts) → (is_shared t k && not own) ≡ false
      → decide_from t (decide t) (node_at t k) k p y n F ≡ deciding own t k p y n F
  by_kind_code true p y n F e = refl
  by_kind_code false p y n F e = by_mention t order (λ xs. decide_from t (decide t) (node_at t k) k p y n F ≡ xs) k p y n F
      (λ s. clash s (sym (and-true (is_shared t k)) ∙ e)) (λ s. refl)

-- a node's size looks at its operands for implies only
leaf_size : (size : ℕ → ℕ) (x : Node) (k : ℕ) → is_implies x ≡ false → size_from size x k ≡ size_from (λ j. 0) x k
leaf_size size false_node k other = refl
leaf_size size (test_node a) k other = refl
leaf_size size (implies_node l r) k other = clash refl other
leaf_size size (since_node l r) k other = refl
leaf_size size (weak_previous_node l) k other = refl

-- node k is to be decided at `place`: what decides node j `here`, written now, completes its code
abbrev pub Completes : (is_wide : Bool) → Table → (base on_true on_false : ℕ) → (own : Bool) → (k place : ℕ) → Facts → (out₀ : List ℕ)
    → (by_kind : Bool) → (j here : ℕ) → Facts → (out : List ℕ) → Type 0
Completes is_wide t base on_true on_false own k place F out₀ by_kind j here G out =
    (after : List ℕ) → Written is_wide (here - base) (deciding by_kind t j here on_true on_false G) out after
    → Written is_wide (place - base) (deciding own t k place on_true on_false F) out₀ after

-- what is known of an implies node with the operands l and r, where it can be decided by what it is
pub record Implied (rule sizes : List ℕ) (shared : ℕ) (own : Bool) (k l r base place on_true on_false : ℕ) (out : List ℕ) : Type 0 where
  pub lower : (l < k) × (r < k)
  pub operand : l < 64
  pub ordered : InOrder (table_in rule)
  pub size : get_or sizes l 0 ≡ decide_size (table_in rule) l
  -- the code for right starts inside the script and the output
  pub inside : place + get_or sizes l 0 < most_lines
  pub room : 8 * (place + get_or sizes l 0 - base) ≤ length out
  pub next : place + get_or sizes l 0 - base ≡ place - base + get_or sizes l 0
  -- its operands can be decided where it can
  pub left : Deciding rule sizes shared false l base place (place + get_or sizes l 0) on_true out
  pub right : (after : List ℕ) → length after ≡ length out
      → Deciding rule sizes shared false r base (place + get_or sizes l 0) on_true on_false after
  -- and their code, one after the other, is the node's
  pub code : (F : Facts)
      → decide (table_in rule) l place (place + get_or sizes l 0) on_true F
      ++ decide (table_in rule) r (place + get_or sizes l 0) on_true on_false (F ∪ one (value_is true) l)
      ≡ deciding own (table_in rule) k place on_true on_false F

module _ (rule sizes : List ℕ) (shared : ℕ) (own : Bool) (k base place on_true on_false : ℕ) (out : List ℕ)
    (d : Deciding rule sizes shared own k base place on_true on_false out) where
  abbrev t : Table
  t = table_in rule

  pub order : InOrder t
  order = (rule_out form_in rule d.sized.0).ordered

  -- the node's number is small
  pub few : k < 64
  unfolding form64
  few = let a = (rule_out form_in rule d.sized.0).few_nodes in let i = d.is_node in omega arith

  asked : (b : Bool) → (set_of shared k && not own) ≡ b → (is_shared t k && not own) ≡ b
  asked b e = asked_as (set_of shared k) (is_shared t k) own b (ap (λ s. s k) d.shared_is) e

  module _ (a : (set_of shared k && not own) ≡ true) where
    pub work_room : Space (place - base) 2 out
    work_room = let o = d.in_output in omega (arith, by_work_size t order k own (asked true a))

    pub work_code_lem : (b : Bool) (o o' : List ℕ) (F : Facts) (v : ℕ) → v ≡ word_for (branch (if_work k) on_true)
        → o' ≡ over_at (8 * (place - base)) (stored_line b v F ++ stored_line b (word_for (goto on_false)) (F ∪ one (value_is false) k)) o
        → Written b (place - base) (deciding own t k place on_true on_false F) o o'
    work_code_lem b o o' F v ev h =
        written_as b (place - base) (leaf (if_work k) k place on_true on_false F) (deciding own t k place on_true on_false F) o o'
        (by_work_code t order k own place on_true on_false F (asked true a))
        (h ∙ ap (λ ws. over_at (8 * (place - base)) ws o) (leaf_words b v k place on_true on_false (if_work k) F ev))

  module _ (a : (set_of shared k && not own) ≡ false) where
    module _ (l r : ℕ) (is-implies : node_at t k ≡ implies_node l r) where
      abbrev n : ℕ
      n = get_or sizes l 0

      lower : (l < k) × (r < k)
      lower = lower_left t order k l r is-implies

      left_size : n ≡ decide_size t l
      left_size = let b = lower in let i = d.is_node in d.sized.1 l (omega arith)

      whole : deciding_size own t k ≡ n + decide_size t r
      whole =
          by_kind_size t order k own (asked false a) ∙ ap (λ x. size_from (decide_size t) x k) is-implies ∙ ap (λ m. m + decide_size t r) (sym left_size)

      pub implied : Implied rule sizes shared own k l r base place on_true on_false out
      unfolding decide_from
      implied =
          let b = lower in
          let i = d.is_node in
          let s = size_some t order r in
          let p = d.in_script in
          let o = d.in_output in
          let f = d.from_base in
          record {
            lower = b;
            operand = omega (arith, few);
            ordered = order;
            size = left_size;
            inside = omega (arith, whole);
            room = omega (arith, whole);
            next = omega arith;
            left = record {
              sized = d.sized;
              shared_is = d.shared_is;
              is_node = omega arith;
              true_line = omega (arith, whole);
              false_line = d.true_line;
              in_script = omega (arith, whole, left_size);
              from_base = f;
              in_output = omega (arith, whole, left_size);
            };
            right = λ after same. record {
              sized = d.sized;
              shared_is = d.shared_is;
              is_node = omega arith;
              true_line = d.true_line;
              false_line = d.false_line;
              in_script = omega (arith, whole);
              from_base = omega arith;
              in_output = omega (arith, whole, same);
            };
            code = λ F.
                ap (λ m. decide t l place (place + m) on_true F ++ decide t r (place + m) on_true on_false (F ∪ one (value_is true) l)) left_size
                ∙ ap (λ x. decide_from t (decide t) x k place on_true on_false F) (sym is-implies)
                ∙ by_kind_code t order k own place on_true on_false F (asked false a);
          }

    module _ (x : Node) (is : node_at t k ≡ x) where
      pub simple_room : is_implies x ≡ false → Space (place - base) (size_from (λ j. 0) x k) out
      simple_room other =
          let e : deciding_size own t k ≡ size_from (λ j. 0) x k =
          by_kind_size t order k own (asked false a) ∙ ap (λ y. size_from (decide_size t) y k) is ∙ leaf_size (decide_size t) x k other in
          subst (λ m. Space (place - base) m out) e d.in_output

      pub simple_code : (F : Facts) → decide_from t (decide t) x k place on_true on_false F ≡ deciding own t k place on_true on_false F
      simple_code F =
          ap (λ y. decide_from t (decide t) y k place on_true on_false F) (sym is) ∙ by_kind_code t order k own place on_true on_false F (asked false a)
