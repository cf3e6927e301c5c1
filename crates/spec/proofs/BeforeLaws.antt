-- A table without sharing weaves as before request 2026-06 (`specs/Before.antt`).
--     weave_before             any table that has no shared node weaves to the same lines
--     as_before                a rule that passed question 4 before it passes it now, has no shared node, and weaves as before
-- Assumes nothing.
use mathlib.Core.Path.{◌≡◌, refl, ap, ap₂, ◌∙◌, fun_ext}
use mathlib.Core.Logic.{inl, inr}
use mathlib.Core.Bool.{Bool, true, false, cond, ◌&&◌, ◌||◌, or-false}
use mathlib.Core.List.{List, [], ◌∷◌, ◌++◌}
use Prim.Native.Nat.{ℕ, zero, suc, ◌+◌, ◌-◌, ◌*◌, ◌≤◌, ◌<◌}
use native.Mathlib.Omega.{arith}
use lib.ListN.{length}
use lib.Dec.{ltb}
use borrow.Author.Tests.{eqb-true, le-leb}
use Rattle.spec.specs.Questions.{passed}
use Rattle.spec.specs.Rule.{Form, Node, false_node, test_node, implies_node, since_node, weak_previous_node, Table, node_at, last_node, is_past, mentions, is_shared, has_work, table_of, through, question4, check_rule}
use Rattle.spec.specs.Script.{if_work, Instruction, Code, is_present, bare_code, check_bare}
use Rattle.spec.specs.Facts.{work_is_next, Facts, ◌∪◌, only}
use Rattle.spec.specs.Check.{words_of}
use Rattle.spec.specs.Weaver.{bare_facts, done_facts, size_from, mention_size, decide_size, Decision, leaf, decide_from, mention_from, decide, update, update_size, work_size, work_code, updates_size, updates, block_size, block, sharing_lines, block_lines, start_of, weave_line, weave_from, weave, woven, woven_lines, question12, question13, check_weaving, weaving, output_for, output_after}
use Rattle.spec.proofs.BoolLaws.{le_or_lt}
use Rattle.spec.proofs.QuestionLaws.{then_passed, both_passed, ask_in, ask_out}
use Rattle.spec.proofs.RuleLaws.{InOrder, rule_out}
use Rattle.spec.proofs.MentionLaws.{sum_zero, never_mentioned, once_unshared}
use Rattle.spec.specs.Before
use Rattle.spec.specs.Before.{AsBefore}

-- ---- a table that has no shared node

module _ (t : Table) (unshared : (k : ℕ) → is_shared t k ≡ false) where
  size_before : decide_size t ≡ Before.decide_size t
  unfolding decide_size Before.decide_size mention_size
  size_before =
      ap (λ (f : (ℕ → ℕ) → Node → ℕ → ℕ). λ k. through 0 f t k)
      (fun_ext (λ size. fun_ext (λ x. fun_ext (λ k. ap (λ b. cond b 2 (size_from size x k)) (unshared k)))))

  from_before : (d : ℕ → Decision) (x : Node) (k p y n : ℕ) (F : Facts) → decide_from t d x k p y n F ≡ Before.decide_from t d x k p y n F
  unfolding decide_from Before.decide_from
  from_before d false_node k p y n F = refl
  from_before d (test_node a) k p y n F = refl
  from_before d (implies_node l r) k p y n F = rw size_before
  from_before d (since_node l r) k p y n F = refl
  from_before d (weak_previous_node o) k p y n F = refl

  decide_before : decide t ≡ Before.decide t
  unfolding decide Before.decide mention_from
  decide_before =
      ap (λ (f : (ℕ → Decision) → Node → ℕ → Decision). λ k. through (λ p y n F. []) f t k)
      (fun_ext (λ d. fun_ext (λ x. fun_ext (λ k. fun_ext (λ p. fun_ext (λ y. fun_ext (λ n. fun_ext (λ F.
      ap (λ b. cond b (leaf (if_work k) k p y n F) (decide_from t d x k p y n F)) (unshared k) ∙ from_before d x k p y n F))))))))

  done_before : (k : ℕ) → done_facts t k ≡ Before.done_facts t k
  unfolding done_facts Before.done_facts has_work
  done_before k =
      ap (λ (p : ℕ → Bool). bare_facts t ∪ only work_is_next (λ j. p j && ltb j k))
      (fun_ext (λ j. ap (λ b. is_past (node_at t j) || b) (unshared j) ∙ or-false (is_past (node_at t j))))

  update_before : (x : Node) (k p : ℕ) (F : Facts) → update t x k p F ≡ Before.update t x k p F
  unfolding update Before.update
  update_before false_node k p F = refl
  update_before (test_node a) k p F = refl
  update_before (implies_node l r) k p F = refl
  update_before (since_node l r) k p F = rw (decide_before, size_before)
  update_before (weak_previous_node o) k p F = rw (decide_before, size_before)

  update_size_before : (x : Node) → update_size t x ≡ Before.update_size t x
  unfolding update_size Before.update_size
  update_size_before false_node = refl
  update_size_before (test_node a) = refl
  update_size_before (implies_node l r) = refl
  update_size_before (since_node l r) = rw size_before
  update_size_before (weak_previous_node o) = rw size_before

  updates_size_before : (n : ℕ) → updates_size n t ≡ Before.updates_size n t
  unfolding updates_size Before.updates_size work_size
  updates_size_before zero = refl
  updates_size_before (suc n) = ap₂ ◌+◌ (updates_size_before n) (rw (unshared n) (update_size_before (node_at t n)))

  updates_before : (n p : ℕ) → updates n t p ≡ Before.updates n t p
  unfolding updates Before.updates work_code
  updates_before zero p = refl
  updates_before (suc n) p = ap₂ ◌++◌ (updates_before n p)
      (rw (unshared n, updates_size_before n, done_before n) (update_before (node_at t n) n (p + Before.updates_size n t) (Before.done_facts t n)))

  block_size_before : block_size t ≡ Before.block_size t
  unfolding block_size Before.block_size
  block_size_before = rw (updates_size_before (length t), size_before)

  block_before : (p : ℕ) → block t p ≡ Before.block t p
  unfolding block Before.block
  block_before p = rw (updates_before (length t) p, decide_before, block_size_before, updates_size_before (length t), size_before, done_before (length t))

  start_before : (code : Code) (l : ℕ) → start_of t code l ≡ Before.start_of t code l
  unfolding start_of Before.start_of
  start_before [] l = refl
  start_before (i ∷ code) zero = refl
  start_before (i ∷ code) (suc l) = ap₂ (λ (a b : ℕ). cond (is_present i) a 1 + b) block_size_before (start_before code l)

  line_before : (code : Code) (p : ℕ) (i : Instruction) → weave_line t code p i ≡ Before.weave_line t code p i
  unfolding weave_line Before.weave_line
  line_before code p i = let e : start_of t code ≡ Before.start_of t code = fun_ext (start_before code) in rw (block_before p, e)

  weave_from_before : (code rest : Code) (p : ℕ) → weave_from t code p rest ≡ Before.weave_from t code p rest
  unfolding weave_from Before.weave_from
  weave_from_before code [] p = refl
  weave_from_before code (i ∷ rest) p =
      ap₂ ◌++◌ (line_before code p i) (rw block_size_before (weave_from_before code rest (p + cond (is_present i) (Before.block_size t) 1)))

  pub weave_before : (code : Code) → weave t code ≡ Before.weave t code
  unfolding weave Before.weave
  weave_before code = weave_from_before code code 0

-- ---- a rule that passed question 4 before

once : (form : Form) (rule : List ℕ) → Before.check_rule form rule ≡ passed tt
    → (k : ℕ) → k < last_node (table_of form rule) → mentions (table_of form rule) k ≡ 1
unfolding Before.check_rule Before.question4
once form rule e k l =
    let t = table_of form rule in
    let (q₁, e₁) = both_passed _ _ tt e in
    let (q₂, e₂) = both_passed _ _ tt e₁ in
    let (q₃, q₄) = both_passed _ _ tt e₂ in
    eqb-true (mentions t k) 1 (ask_out 4 (last_node t) _ q₄ k l)

still_passes : (form : Form) (rule : List ℕ) → Before.check_rule form rule ≡ passed tt → check_rule form rule ≡ passed tt
unfolding check_rule Before.check_rule question4
still_passes form rule e =
    let t = table_of form rule in
    let (q₁, e₁) = both_passed _ _ tt e in
    let (q₂, e₂) = both_passed _ _ tt e₁ in
    let (q₃, q₄) = both_passed _ _ tt e₂ in
    then_passed _ _ q₁ ∙ then_passed _ _ q₂ ∙ then_passed _ _ q₃
    ∙ ask_in 4 (last_node t) _ (λ k l. le-leb 1 (mentions t k) (omega (arith, once form rule e k l)))

module _ (t : Table) (ordered : InOrder t) (few : (k : ℕ) → k < last_node t → mentions t k ≡ 1) where
  at_most_once : (k : ℕ) → mentions t k ≤ 1
  at_most_once k = elim (le_or_lt (length t) (suc k)) [
    | inl h ↦ omega (arith, never_mentioned t ordered k h)
    | inr h ↦ omega (arith, few k (omega arith))
  ]

  none_shared : (k : ℕ) → is_shared t k ≡ false
  none_shared k = once_unshared t k (at_most_once k)

  formula_before : block_lines t ≡ Before.block_lines t
  unfolding block_lines Before.block_lines sharing_lines
  formula_before = omega (
    arith,
    sum_zero (length t) (λ k. sharing_lines t k) (λ k l.
        rw (none_shared k) (go (is_past (node_at t k)) (mentions t k) (at_most_once k))),
  )
    where
      go : (b : Bool) (m : ℕ) → m ≤ 1 → cond {A = ℕ} b (2 * (m - 1)) 0 ≡ 0
      go true m h = omega arith
      go false m h = refl

module _ (form : Form) (rule : List ℕ) (old : Before.check_rule form rule ≡ passed tt) where
  abbrev table : Table
  table = table_of form rule

  none : (k : ℕ) → is_shared table k ≡ false
  none = none_shared table (rule_out form rule (still_passes form rule old)).ordered (once form rule old)

  lines_before : (bare : List ℕ) → woven_lines form rule bare ≡ Before.woven_lines form rule bare
  lines_before bare = start_before table none (bare_code bare) (length (bare_code bare))

  words_before : (bare : List ℕ) → woven form rule bare ≡ Before.woven form rule bare
  unfolding woven Before.woven
  words_before bare = ap (words_of form) (weave_before table none (bare_code bare))

  answer_before : (bare out : List ℕ) → weaving form rule bare out ≡ Before.weaving form rule bare out
  unfolding weaving check_weaving check_bare question12 question13 Before.weaving Before.check_weaving
  answer_before bare out = rw (still_passes form rule old, old, lines_before bare)

  pub as_before : AsBefore form rule
  unfolding output_after Before.output_after
  as_before = record {
    passes = still_passes form rule old;
    unshared = none;
    answer = answer_before;
    output = λ bare out. ap₂ (λ ws a. output_for ws a out) (words_before bare) (answer_before bare out);
    formula = formula_before table (rule_out form rule (still_passes form rule old)).ordered (once form rule old);
  }
