-- What is written into registers (`specs/Machine.antt`): 3 and 14 stop at their ends, and no run has a register above 16,383.
--     raised_sum, raised_end, raised_between             r + c, or 16,383 where that is more; never less than r was
--     lowered_difference, lowered_end, lowered_down      r − c, or 0 where c is more; never more than r was
--     Within, written_within                             numbers of at most 16,383, and a write that keeps to them
--     after_within, running_within                       so do the registers after any number of steps, and after a run
-- Assumes nothing.
use mathlib.Core.Path.{◌≡◌, refl, sym, subst, ◌∙◌}
use mathlib.Core.Logic.{inl, inr}
use mathlib.Core.Bool.{Bool, true, false, cond}
use mathlib.Core.Option.{Option, none, some}
use mathlib.Core.List.{List, [], ◌∷◌}
use Prim.Native.Nat.{ℕ, zero, suc, ◌+◌, ◌/◌, ◌≤◌, ◌<◌}
use native.Mathlib.Omega.{arith}
use lib.Dec.{ltb, leb}
use lib.ListN.{length, get_or, set, replicate, get_or-eq_default}
use borrow.Author.Tests.{ltb-true, leb-true, le-leb, lt-leb}
use Rattle.spec.specs.Logic.{largest_value, register_of}
use Rattle.spec.specs.Questions.{passed}
use Rattle.spec.specs.Rule.{Form}
use Rattle.spec.specs.Judging.{question15}
use Rattle.spec.specs.Script.{Source, constant, copy_of, plus, next_input, minus, Instruction, halt, write, branch, goto, present, set_work, keep, instruction_at, fields_for, annotated_opcode}
use Rattle.spec.specs.Check.{lines_of, code_of, annotated_stored}
use Rattle.spec.specs.Machine.{Machine, raised, lowered, written, fresh, fresh_of, Stop, stops, move, unless_stopped, step, table_within, can_run, step_of, Ended, running}
use Rattle.spec.specs.Ready.{fresh_state_of, state_after}
use Rattle.spec.specs.Promise.{after}
use Rattle.spec.proofs.BoolLaws.{and_both, le_or_lt}
use Rattle.spec.proofs.QuestionLaws.{ask_out}
use Rattle.spec.proofs.StoredLaws.{instruction_of_lem}
use Rattle.spec.proofs.CodeLaws.{allowed_out}
use Rattle.spec.proofs.PlaceLaws.{instruction_at_lem}
use Rattle.spec.proofs.RunLaws.{running_asked, running_after}
use Rattle.spec.proofs.SmallLaws.{Fits}
use Rattle.spec.proofs.HandedLaws.{word_fits}

-- ---- the ends

pub raised_sum : (a c : ℕ) → a + c ≤ largest_value → raised a c ≡ a + c
unfolding raised
raised_sum a c h = rw (le-leb (a + c) largest_value h)

pub raised_end : (a c : ℕ) → largest_value < a + c → raised a c ≡ largest_value
unfolding raised
raised_end a c h = rw (lt-leb (a + c) largest_value h)

pub raised_between : (a c : ℕ) → (raised a c ≤ largest_value) × (a ≤ largest_value → a ≤ raised a c)
raised_between a c =
    elim (le_or_lt (a + c) largest_value) [
      | inl h ↦ let e = raised_sum a c h in (omega arith, λ small. omega arith)
      | inr h ↦ let e = raised_end a c h in (omega arith, λ small. omega arith)
    ]

pub lowered_difference : (a c : ℕ) → c ≤ a → lowered a c + c ≡ a
unfolding lowered
lowered_difference a c h = omega arith

pub lowered_end : (a c : ℕ) → a ≤ c → lowered a c ≡ 0
unfolding lowered
lowered_end a c h = omega arith

pub lowered_down : (a c : ℕ) → lowered a c ≤ a
unfolding lowered
lowered_down a c = omega arith

-- ---- one write

-- every number of the list is at most 16,383
abbrev pub Within : List ℕ → Type 0
Within ws = (i : ℕ) → get_or ws i 0 ≤ largest_value

set_within : (ws : List ℕ) (i v : ℕ) → Within ws → v ≤ largest_value → Within (set ws i v)
set_within [] i v h e j = h j
set_within (x ∷ ws) zero v h e zero = e
set_within (x ∷ ws) zero v h e (suc j) = h (suc j)
set_within (x ∷ ws) (suc i) v h e zero = h zero
set_within (x ∷ ws) (suc i) v h e (suc j) = set_within ws i v (λ k. h (suc k)) e j

pub written_within : (inputs : List ℕ) (n : ℕ) (s : List ℕ) (r : ℕ) (v : Source) → Fits (write r v) → Within inputs → Within s
    → written inputs n s r v ≤ largest_value
unfolding written fields_for
written_within inputs n s r (constant c) fits given h = let small : c < 16384 = fits.c_fits in omega arith
written_within inputs n s r (copy_of c) fits given h = h c
written_within inputs n s r (plus c) fits given h = (raised_between (register_of s r) c).0
written_within inputs n s r next_input fits given h = given n
written_within inputs n s r (minus c) fits given h =
    let a : register_of s r ≤ largest_value = h r in
    let b = lowered_down (register_of s r) c in omega arith

-- ---- steps

move_within : (inputs : List ℕ) (i : Instruction) (m : Machine) → Fits i → Within inputs → Within m.registers
    → Within (move inputs i m).registers
unfolding move
move_within inputs halt m fits given h = h
move_within inputs (write r v) m fits given h =
    set_within m.registers r _ h (written_within inputs m.inputs_read m.registers r v fits given h)
move_within inputs (branch q l) m fits given h = h
move_within inputs (goto l) m fits given h = h
move_within inputs present m fits given h = h
move_within inputs (set_work k b) m fits given h = h
move_within inputs (keep k) m fits given h = h

zeros_within : (n : ℕ) → Within (replicate n 0)
zeros_within zero i = omega arith
zeros_within (suc n) zero = omega arith
zeros_within (suc n) (suc i) = zeros_within n i

module _ (form : Form) (rule script inputs lent : List ℕ) (asked : question15 inputs ≡ passed tt) where
  inputs_within : Within inputs
  unfolding question15
  inputs_within i =
      elim (le_or_lt (length inputs) i) [
        | inl h ↦ omega (arith, get_or-eq_default inputs 0 h)
        | inr h ↦ leb-true _ _ (ask_out 15 (length inputs) (λ j. leb (get_or inputs j 0) largest_value) asked i h)
      ]

  run_fits : (l : ℕ) → can_run form rule script l ≡ true → Fits (instruction_at (code_of (lines_of form script)) l)
  unfolding can_run
  run_fits l e =
      let (inside, allowed) = and_both (ltb l (length script / 8)) _ e in
      let fit = (allowed_out (table_within form rule) annotated_opcode (annotated_stored form script) l allowed).fit in
      subst Fits (sym (instruction_at_lem (lines_of form script) l _ refl ∙ instruction_of_lem form script l (ltb-true _ _ inside))) (word_fits _ fit).1

  step_within : (m : Machine) → Within m.registers → Within (step_of form rule script inputs m).registers
  unfolding step_of step
  step_within m h = go (can_run form rule script m.line) refl (stops inputs i m)
    where
      i : Instruction
      i = instruction_at (code_of (lines_of form script)) m.line

      go : (b : Bool) → can_run form rule script m.line ≡ b → (o : Option Stop)
          → Within (cond b (unless_stopped o m (move inputs i m)) m).registers
      go true e none = move_within inputs i m (run_fits m.line e) inputs_within h
      go true e (some s) = h
      go false e o = h

  -- for any script, accepted or not
  pub after_within : (n : ℕ) → Within (after form n rule script inputs lent).registers
  unfolding after state_after fresh_state_of fresh_of fresh
  after_within zero = zeros_within 16
  after_within (suc n) = step_within (after form n rule script inputs lent) (after_within n)

pub running_within : (form : Form) (rule script inputs : List ℕ) (budget : ℕ) (lent : List ℕ) (e : Ended)
    → running form rule script inputs budget lent ≡ passed e → Within e.final.registers
running_within form rule script inputs budget lent e ran =
    let (a, few, r) = running_after form rule script inputs budget lent e ran in
    subst (λ m. Within m.registers) (sym r)
    (after_within form rule script inputs lent (running_asked form rule script inputs budget lent e ran) e.step_count)
