-- A woven block that does not present leaves readiness as it was, and the promise of `specs/ReadyPromise.antt`:
-- `ready : (form : Form) → GoodForm form → ReadyPromise form`.
--     quiet, quiet_block        no line of a block writes a register
--     Still, from_here          so readiness stays, as long as no presentation is made
--     ready, ready32            the promise
-- Assumes nothing.
use mathlib.Core.Path.{◌≡◌, refl, subst, ap, ap₂, ◌∙◌}
use mathlib.Core.Logic.{inl, inr}
use mathlib.Core.Bool.{Bool, true, false, cond, not, ◌&&◌}
use mathlib.Core.Option.{Option, none, some}
use mathlib.Core.List.{List, [], ◌∷◌, ◌++◌}
use Prim.Native.Nat.{ℕ, zero, suc, ◌+◌, ◌≤◌, ◌<◌}
use native.Mathlib.Omega.{arith}
use native.Mathlib.Nat.{le_refl}
use lib.ListN.{length, get_or-eq_default}
use lib.Dec.{ltb}
use borrow.Author.Tests.{not-true}
use Rattle.spec.specs.Questions.{all}
use Rattle.spec.specs.Rule.{Form, form32, form64, Node, false_node, test_node, implies_node, since_node, weak_previous_node, Table, table_of, node_at, is_past, is_shared, operands}
use Rattle.spec.specs.Script.{Instruction, halt, write, branch, goto, present, set_work, keep, Code, is_present, instruction_at, bare_code}
use Rattle.spec.specs.Check.{Lines, line_at, code_of, lines_of}
use Rattle.spec.specs.Facts.{Facts}
use Rattle.spec.specs.Machine.{Machine, move, Stop, full, stops, step, table_within, can_run, step_of, unless_stopped, acting}
use Rattle.spec.specs.Weaver.{line, decide_from, decide, setting, update, shared_code, work_code, updates, keeps, keep_facts, block, line_size, block_size, start_of, weave_line, weave, woven}
use Rattle.spec.specs.Promise.{Weavable}
use Rattle.spec.specs.Ready.{Readiness, MachineState, ready_move, ready_unless, ready_acting, ready_step_of, state_after}
use Rattle.spec.specs.ReadyPromise.{ReadyPromise}
use Rattle.spec.proofs.BoolLaws.{clash, and_both, le_or_lt}
use Rattle.spec.proofs.RuleLaws.{InOrder, both_lower, by_lower}
use Rattle.spec.proofs.StoredLaws.{GoodForm, good32, good64}
use Rattle.spec.proofs.WeaverLaws.{by_mention, length_block, start_next}
use Rattle.spec.proofs.PlaceLaws.{instruction_at_lem, Stands, stands_line}
use Rattle.spec.proofs.HandedLaws.{weaving_out, read_back}
use Rattle.spec.proofs.ReadyLaws.{after_next, right, means, stop_same}

-- ---- no line of a block writes a register

abbrev is_write : Instruction → Bool
is_write halt = false
is_write (write r v) = true
is_write (branch q l) = false
is_write (goto l) = false
is_write present = false
is_write (set_work k b) = false
is_write (keep k) = false

unfoldable quiet : Lines → Bool
quiet [] = true
quiet (x ∷ xs) = not (is_write x.instruction) && quiet xs

quiet_append : (xs ys : Lines) → quiet (xs ++ ys) ≡ quiet xs && quiet ys
unfolding quiet
quiet_append [] ys = refl
quiet_append (x ∷ xs) ys = go (is_write x.instruction) (quiet_append xs ys)
  where
    go : (b : Bool) → quiet (xs ++ ys) ≡ quiet xs && quiet ys → (not b && quiet (xs ++ ys)) ≡ (not b && quiet xs) && quiet ys
    go true e = refl
    go false e = e

module _ (t : Table) (ordered : InOrder t) where
  abbrev QuietDecision : ℕ → Type 0
  QuietDecision k = (p y n : ℕ) (F : Facts) → quiet (decide t k p y n F) ≡ true

  quiet_from : (k : ℕ) → ((j : ℕ) → j < k → QuietDecision j) → (x : Node) → all (λ j. ltb j k) (operands x) ≡ true
      → (p y n : ℕ) (F : Facts) → quiet (decide_from t (decide t) x k p y n F) ≡ true
  unfolding decide_from quiet
  quiet_from k ih false_node o p y n F = refl
  quiet_from k ih (test_node a) o p y n F = refl
  quiet_from k ih (implies_node l r) o p y n F = let (lo, ro) = both_lower k l r o in simp (quiet_append, ih l lo, ih r ro)
  quiet_from k ih (since_node l r) o p y n F = refl
  quiet_from k ih (weak_previous_node j) o p y n F = refl

  quiet_decide : (k : ℕ) → QuietDecision k
  unfolding quiet
  quiet_decide = by_lower QuietDecision (λ k ih p y n F.
      by_mention t ordered (λ xs. quiet xs ≡ true) k p y n F (λ s. refl) (λ s. quiet_from k ih (node_at t k) (ordered.lower k) p y n F))

  quiet_update : (x : Node) (k p : ℕ) (F : Facts) → quiet (update t x k p F) ≡ true
  unfolding update setting quiet
  quiet_update false_node k p F = refl
  quiet_update (test_node a) k p F = refl
  quiet_update (implies_node l r) k p F = refl
  quiet_update (since_node l r) k p F = simp (quiet_append, quiet_decide)
  quiet_update (weak_previous_node j) k p F = simp (quiet_append, quiet_decide)

  quiet_shared : (k p : ℕ) (F : Facts) → quiet (shared_code t (node_at t k) k p F) ≡ true
  unfolding shared_code setting quiet
  quiet_shared k p F =
      simp (quiet_append, quiet_from k (λ j l. quiet_decide j) (node_at t k) (ordered.lower k))

  quiet_work : (k p : ℕ) (F : Facts) → quiet (work_code t k p F) ≡ true
  unfolding work_code
  quiet_work k p F = go (is_shared t k)
    where
      go : (b : Bool) → quiet (cond b (shared_code t (node_at t k) k p F) (update t (node_at t k) k p F)) ≡ true
      go true = quiet_shared k p F
      go false = quiet_update (node_at t k) k p F

  quiet_updates : (n p : ℕ) → quiet (updates n t p) ≡ true
  unfolding updates quiet
  quiet_updates zero p = refl
  quiet_updates (suc n) p = simp (quiet_append, quiet_updates n, quiet_work)

  quiet_keep : (k : ℕ) (F : Facts) (b : Bool) → quiet (cond b (line (keep k) F ∷ []) []) ≡ true
  unfolding quiet
  quiet_keep k F true = refl
  quiet_keep k F false = refl

  quiet_keeps : (n : ℕ) → quiet (keeps n t) ≡ true
  unfolding keeps quiet
  quiet_keeps zero = refl
  quiet_keeps (suc n) = quiet_append (keeps n t) _ ∙ ap₂ ◌&&◌ (quiet_keeps n) (quiet_keep n (keep_facts t n) (is_past (node_at t n)))

  quiet_block : (p : ℕ) → quiet (block t p) ≡ true
  unfolding block quiet
  quiet_block p = simp (quiet_append, quiet_updates, quiet_decide, quiet_keeps)

quiet_at : (ls xs : Lines) (p q : ℕ) → Stands ls p xs → quiet xs ≡ true → p ≤ q → q < p + length xs → is_write (line_at ls q).instruction ≡ false
unfolding quiet
quiet_at ls [] p q s f a b = absurd (omega arith)
quiet_at ls (x ∷ xs) p q s f a b =
    let (u, v) = and_both (not (is_write x.instruction)) _ f in
    elim (le_or_lt q p) [
      | inl h ↦ let z : q ≡ p = omega arith in rw (z, s.1) (not-true _ u)
      | inr h ↦ quiet_at ls xs (suc p) q s.2 v (omega arith) (omega arith)
    ]

-- ---- a block that does not present leaves readiness as it was

-- no presentation is lost, and if none is made, readiness stays
abbrev Still : Machine → Readiness → Machine → Readiness → Type 0
Still m x m' x' = (m.presentations ≤ m'.presentations) × (m'.presentations ≡ m.presentations → x' ≡ x)

still : (m : Machine) (x : Readiness) → Still m x m x
still m x = (le_refl _, λ e. refl)

module _ (t : Table) (inputs : List ℕ) (m : Machine) (x : Readiness) where
  move_still : (i : Instruction) → is_write i ≡ false → Still m x (move inputs i m) (ready_move t i (move inputs i m).registers x)
  unfolding ready_move move
  move_still halt e = still m x
  move_still (write r v) e = clash refl e
  move_still (branch q l) e = (le_refl _, λ e. refl)
  move_still (goto l) e = (le_refl _, λ e. refl)
  move_still present e = (omega arith, λ e. absurd (omega arith))
  move_still (set_work k b) e = (le_refl _, λ e. refl)
  move_still (keep k) e = (le_refl _, λ e. refl)

  acting_still : (i : Instruction) → is_write i ≡ false → (o : Option Stop)
      → Still m x (unless_stopped o m (move inputs i m)) (ready_unless o x (ready_move t i (move inputs i m).registers x))
  acting_still i e none = move_still i e
  acting_still i e (some s) = still m x

step_still : (form : Form) (rule script inputs : List ℕ) (m : Machine) (x : Readiness)
    → is_write (instruction_at (code_of (lines_of form script)) m.line) ≡ false
    → Still m x (step_of form rule script inputs m) (ready_step_of form rule script inputs m x)
unfolding ready_step_of step_of step
step_still form rule script inputs m x e = go (can_run form rule script m.line)
  where
    i : Instruction
    i = instruction_at (code_of (lines_of form script)) m.line

    go : (b : Bool) → Still m x (cond b (acting inputs i m) m) (cond b (ready_acting (table_within form rule) inputs i m x) x)
    go true = acting_still (table_within form rule) inputs m x i e (stops inputs i m)
    go false = still m x

present_in : (code : Code) (l : ℕ) → instruction_at code l ≡ present → l < length code
present_in code l e =
    elim (le_or_lt (length code) l) [
      | inl h ↦ clash (ap is_present e) (ap is_present (get_or-eq_default code halt h))
      | inr h ↦ h
    ]

module _ (form : Form) (good : GoodForm form) (rule bare : List ℕ) (weavable : Weavable form rule bare) (inputs lent : List ℕ)
    (l n : ℕ) (is-present : instruction_at (bare_code bare) l ≡ present) where
  abbrev u : Table
  u = table_of form rule

  abbrev code : Code
  code = bare_code bare

  abbrev at : ℕ → MachineState
  at i = state_after form (i + n) rule (woven form rule bare) inputs lent

  abbrev InBlock : ℕ → Type 0
  InBlock q = (start_of u code l ≤ q) × (q < start_of u code (suc l))

  no_write : (q : ℕ) → InBlock q → is_write (instruction_at (code_of (lines_of form (woven form rule bare))) q) ≡ false
  unfolding woven weave_line
  no_write q h =
      let out = weaving_out form good rule bare weavable in
      let inside : l < length code = present_in code l is-present in
      let p = start_of u code l in
      let stands : Stands (weave u code) p (block u p) =
      subst (λ i. Stands (weave u code) p (weave_line u code p i)) is-present (stands_line u out.ordered code l inside) in
      let next : start_of u code (suc l) ≡ p + block_size u =
      subst (λ i. start_of u code (suc l) ≡ p + line_size u i) is-present (start_next u code l inside) in
      rw (read_back form good u code out, instruction_at_lem (weave u code) q (line_at (weave u code) q) refl)
      (quiet_at (weave u code) (block u p) p q stands (quiet_block u out.ordered p) h.0 (let k = h.1 in omega (arith, length_block u out.ordered p)))

  from_here : (j : ℕ) → ((i : ℕ) → i < j → InBlock (at i).machine.line) → Still (at 0).machine (at 0).readiness (at j).machine (at j).readiness
  unfolding state_after
  from_here zero h = still (at 0).machine (at 0).readiness
  from_here (suc j) h =
      let (more, same) = from_here j (λ i k. h i (omega arith)) in
      let s = step_still form rule (woven form rule bare) inputs (at j).machine (at j).readiness (no_write (at j).machine.line (h j (omega arith))) in
      let e : suc j + n ≡ suc (j + n) = omega arith in
      rw e ((let a = s.0 in omega arith), (λ d. let a = s.0 in s.1 (omega arith) ∙ same (omega arith)))

-- ---- the promise

pub ready : (form : Form) → GoodForm form → ReadyPromise form
ready form good = record {
  right = right form;
  means = means form;
  block = λ rule bare weavable inputs lent l n j is-present inside same.
      ap (λ x. x.ready) ((from_here form good rule bare weavable inputs lent l n is-present j inside).1 same);
  full = λ rule script inputs x. stop_same form rule script inputs x full;
  apart = after_next form;
}

pub ready32 : ReadyPromise form32
ready32 = ready form32 good32

pub ready64 : ReadyPromise form64
ready64 = ready form64 good64
