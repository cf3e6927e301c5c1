-- Readiness of a machine (`specs/Ready.antt` of crate spec).
--     writing, not_writing                the opcodes that write a register
--     renew_present, renew_write, renew_not    what an instruction does to it, by opcode
--     first_ready, fresh_state            the fresh start
--     state_not, state_step               one step of a stored script
--     state_cut                           only as many nodes as the form allows are looked at
-- Assumes nothing.
use mathlib.Core.Logic.{◌⊎◌, inl, inr}
use mathlib.Core.Path.{◌≡◌, refl, sym, ap, ap₂, ◌∙◌}
use mathlib.Core.Bool.{Bool, true, false, cond, not, ◌&&◌}
use mathlib.Core.Option.{Option, none, some}
use mathlib.Core.List.{List}
use Prim.Native.Nat.{ℕ, ◌≤◌}
use native.Mathlib.Omega.{arith}
use lib.Dec.{eqb, ltb}
use lib.ListN.{length, take}
use lib.Seq.{take_all}
use borrow.Author.Tests.{eqb-true, eq-eqb}
use Rattle.spec.specs.Logic.{State}
use Rattle.spec.specs.Rule.{Form, Table, table_of}
use Rattle.spec.specs.Monitor.{rule_reads}
use Rattle.spec.specs.Script.{Instruction, halt, write, branch, goto, present, set_work, keep, instruction_of, instruction_at, annotated_opcode, line_allowed}
use Rattle.spec.specs.Check.{code_of, annotated_stored, lines_of}
use Rattle.spec.specs.Machine.{Machine, machine, zeros, fresh, fresh_of, move, Stop, stops, step, unless_stopped, acting, table_within, can_run, step_of}
use Rattle.spec.specs.Ready.{Readiness, MachineState, worked_out, first_readiness, ready_move, ready_unless, ready_acting, fresh_state_of, ready_step_of, state_step_of}
use Rattle.script.specs.declared.instruction.Opcode.{Opcode}
use Rattle.script.specs.declared.instruction.Opcode.TheVariants.{Set, Copy, Raise, Input, Present, Lower}
use Rattle.script.proofs.LineLaws.{each_opcode, read}
use Rattle.rule.specs.Monitor.{first_priors}
use Rattle.sets.specs.Sets.{set_of}
use Rattle.rule.proofs.SecondLaws.{second_table}
use Rattle.sets.proofs.SetLaws.{empty_is}
use Rattle.rule.specs.Nodes.{form_by, second_form, table_in}
use Rattle.script.specs.Lines.{line_in}
use Rattle.machine.specs.Machines.{writes_register}
use Rattle.machine.proofs.StepLaws.{instruction_at_lem, step_is, few_cut}
use Rattle.machine.proofs.StartLaws.{first_priors_lem}

-- ---- by opcode

module _ (r c target : ℕ) where
  pub writing : (o : Opcode) → o ≡ Set ⊎ (o ≡ Copy ⊎ (o ≡ Raise ⊎ (o ≡ Input ⊎ o ≡ Lower))) → true ≡ writes_register (read r c target o)
  unfolding instruction_of
  writing o (inl e) = rw e
  writing o (inr (inl e)) = rw e
  writing o (inr (inr (inl e))) = rw e
  writing o (inr (inr (inr (inl e)))) = rw e
  writing o (inr (inr (inr (inr e)))) = rw e

  pub not_writing : (o : Opcode) → (o ≡ Set → ⊥) → (o ≡ Copy → ⊥) → (o ≡ Raise → ⊥) → (o ≡ Input → ⊥) → (o ≡ Lower → ⊥) → false ≡ writes_register (read r c target o)
  unfolding instruction_of
  not_writing =
      each_opcode (λ o. (o ≡ Set → ⊥) → (o ≡ Copy → ⊥) → (o ≡ Raise → ⊥) → (o ≡ Input → ⊥) → (o ≡ Lower → ⊥) → false ≡ writes_register (read r c target o))
      (λ u v w x y. refl) (λ u v w x y. absurd (u refl)) (λ u v w x y. absurd (v refl)) (λ u v w x y. absurd (w refl)) (λ u v w x y. absurd (x refl)) (λ u v w x y. refl) (λ u v w x y. refl) (λ u v w x y. refl) (λ u v w x y. refl) (λ u v w x y. refl) (λ u v w x y. refl) (λ u v w x y. refl) (λ u v w x y. refl) (λ u v w x y. refl) (λ u v w x y. absurd (y refl)) (λ u v w x y. refl)

  module _ (t : Table) (s : State) (x : Readiness) (o : Opcode) where
    abbrev after : Bool → Readiness
    after done = cond done (ready_move t (read r c target o) s x) x

    pub renew_present : (done : Bool) → done ≡ true → o ≡ Present → worked_out t s x.next x.tested ≡ after done
    unfolding instruction_of ready_move
    renew_present done d e = rw (d, e)

    -- the instruction writes register r, or leaves it
    renew_is : (o ≡ Present → ⊥) → cond (writes_register (read r c target o) && x.tested r) (worked_out t s x.priors x.tested) x ≡ after true
    unfolding instruction_of ready_move
    renew_is =
        each_opcode (λ o. (o ≡ Present → ⊥)
        → cond (writes_register (read r c target o) && x.tested r) (worked_out t s x.priors x.tested) x ≡ ready_move t (read r c target o) s x)
        (λ n. refl) (λ n. refl) (λ n. refl) (λ n. refl) (λ n. refl) (λ n. refl) (λ n. refl) (λ n. refl) (λ n. absurd (n refl)) (λ n. refl) (λ n. refl) (λ n. refl) (λ n. refl) (λ n. refl) (λ n. refl) (λ n. refl) o

    pub renew_write : (done : Bool) → done ≡ true → (o ≡ Present → ⊥) → (writes_register (read r c target o) && x.tested r) ≡ true
        → worked_out t s x.priors x.tested ≡ after done
    renew_write done d n e = rw d (ap (λ b. cond b (worked_out t s x.priors x.tested) x) (sym e) ∙ renew_is n)

    pub renew_not : (done : Bool) → done ≡ true → (o ≡ Present → ⊥) → (writes_register (read r c target o) && x.tested r) ≡ false → x ≡ after done
    renew_not done d n e = rw d (ap (λ b. cond b (worked_out t s x.priors x.tested) x) (sym e) ∙ renew_is n)

-- ---- the fresh start

pub first_ready : (t : Table) → length t ≤ 64 → (p q : ℕ → Bool) → p ≡ first_priors t → q ≡ rule_reads t → worked_out t zeros p q ≡ first_readiness t
unfolding first_readiness
first_ready t few p q e d = ap₂ (λ a b. worked_out t zeros a b) (e ∙ first_priors_lem t few zeros) d

pub fresh_state : (b : Bool) (rule table : List ℕ) (x : Readiness) → x ≡ first_readiness (table_in table) → table ≡ second_form b (take (form_by b).width rule) → (lent : List ℕ)
    → record { machine = machine 0 zeros x.priors (set_of 0) 0 0 lent; readiness = x } ≡ fresh_state_of (form_by b) rule lent
unfolding fresh_state_of fresh_of fresh first_readiness
fresh_state b rule table x e d lent =
    let first = e ∙ ap first_readiness (ap table_in d ∙ second_table b (take (form_by b).width rule)) in
    λ i. record { machine = machine 0 zeros (first i).priors (empty_is i) 0 0 lent; readiness = first i }

-- ---- a rule in either form

module _ (b : Bool) (rules script inputs : List ℕ) (x : MachineState) where
  abbrev m : Machine
  m = x.machine

  abbrev i : Instruction
  i = (line_in b script m.line).instruction

  abbrev next : MachineState
  next = state_step_of (form_by b) rules script inputs x

  pub state_not : can_run (form_by b) rules script m.line ≡ false → x ≡ next
  unfolding ready_step_of step_of
  state_not e = rw e

  here : instruction_at (code_of (lines_of (form_by b) script)) m.line ≡ i
  here = instruction_at_lem b script m.line

  -- an instruction that leaves the machine at its line leaves readiness
  stays : (i : Instruction) (t : Table) (s : State) → (move inputs i m).line ≡ m.line → ready_move t i s x.readiness ≡ x.readiness
  unfolding move ready_move
  stays halt t s e = refl
  stays (write r v) t s e = absurd (omega (arith, e))
  stays (branch q l) t s e = refl
  stays (goto l) t s e = refl
  stays present t s e = absurd (omega (arith, e))
  stays (set_work k b) t s e = refl
  stays (keep k) t s e = refl

  -- so whether it was done shows in the line
  done_is : (t : Table) (i : Instruction) (m' : Machine) → m' ≡ acting inputs i m → (done : Bool) → done ≡ not (eqb m'.line m.line)
      → cond done (ready_move t i m'.registers x.readiness) x.readiness ≡ ready_acting t inputs i m x.readiness
  done_is t i m' d done e = go (stops inputs i m) d (eqb m'.line m.line) refl
    where
      y : Readiness
      y = x.readiness

      go : (o : Option Stop) → m' ≡ unless_stopped o m (move inputs i m) → (same : Bool) → eqb m'.line m.line ≡ same
          → cond done (ready_move t i m'.registers y) y ≡ ready_unless o y (ready_move t i (move inputs i m).registers y)
      go none d true q =
          rw (e ∙ ap not q) (sym (stays i t (move inputs i m).registers (ap (λ (n : Machine). n.line) (sym d) ∙ eqb-true m'.line m.line q)))
      go none d false q = rw (e ∙ ap not q) (ap (λ (n : Machine). ready_move t i n.registers y) d)
      go (some s) d same q = rw (e ∙ ap not (eq-eqb m'.line m.line (ap (λ (n : Machine). n.line) d)))

  module _ (can : can_run (form_by b) rules script m.line ≡ true) where
    ready_step : (t : Table) → t ≡ table_within (form_by b) rules → (m' : Machine) → m' ≡ acting inputs i m → (done : Bool) → done ≡ not (eqb m'.line m.line)
        → cond done (ready_move t i m'.registers x.readiness) x.readiness
        ≡ ready_step_of (form_by b) rules script inputs m x.readiness
    unfolding ready_step_of
    ready_step t within m' d done e =
        rw (can, here) (done_is t i m' d done e ∙ ap (λ (u : Table). ready_acting u inputs i m x.readiness) within)

    pub state_step : (m' : Machine) → m' ≡ acting inputs i m → (t : Table) → t ≡ table_within (form_by b) rules → (j : Instruction) → j ≡ i
        → (done : Bool) → done ≡ not (eqb m'.line m.line) → (y : Readiness)
        → y ≡ cond done (ready_move t j m'.registers x.readiness) x.readiness → record { machine = m'; readiness = y } ≡ next
    state_step m' d t within j same done e y h =
        let u = step_is b rules script inputs m can m' d in
        let v = h ∙ ap (λ (k : Instruction). cond done (ready_move t k m'.registers x.readiness) x.readiness) same ∙ ready_step t within m' d done e in
        λ k. record { machine = u k; readiness = v k }

module _ (form : Form) (rule : List ℕ) where
  cut : take form.width (take form.width rule) ≡ take form.width rule
  cut = take_all form.width (take form.width rule) (few_cut form rule)

  pub state_cut : (ws inputs : List ℕ) (x : MachineState) → state_step_of form (take form.width rule) ws inputs x ≡ state_step_of form rule ws inputs x
  unfolding step_of ready_step_of can_run
  state_cut ws inputs x =
      let m = x.machine in
      let t = ap (table_of form) cut in
      let can = ap (λ u. ltb m.line (annotated_stored form ws).line_count && line_allowed u annotated_opcode (annotated_stored form ws) m.line) t in
      λ k. record {
        machine = cond (can k) (step (code_of (lines_of form ws)) inputs m) m;
        readiness = cond (can k) (ready_acting (t k) inputs (instruction_at (code_of (lines_of form ws)) m.line) m x.readiness) x.readiness;
      }
