-- The ready lamp (`specs/Ready.antt`).
--     after_next                  the next machine depends on the machine alone
--     ReadyRight, ready_right     readiness is right after every number of steps, whatever the script
--     right, means                so it says whether a presentation made now would keep the rule
--     stop_same                   what stops a run changes nothing
-- Not here: a block that does not present (`ReadyBlockLaws`). Assumes nothing.
use mathlib.Core.Path.{◌≡◌, refl, sym, ap, ◌∙◌}
use mathlib.Core.Logic.{◌↔◌}
use mathlib.Core.Bool.{Bool, true, false, cond}
use mathlib.Core.Option.{Option, none, some}
use mathlib.Core.List.{List}
use Prim.Native.Nat.{ℕ, zero, suc}
use native.Mathlib.Omega.{arith}
use lib.ListN.{length, length-set}
use lib.Seq.{take_all}
use Rattle.spec.specs.Logic.{register_count, Satisfies}
use Rattle.spec.specs.Questions.{passed}
use Rattle.spec.specs.Rule.{Form, Table, table_of, last_node, rule_of, check_rule, with_present, value_now, prior}
use Rattle.spec.specs.Monitor.{NodeSets, last_true, rule_reads}
use Rattle.spec.specs.Judging.{states}
use Rattle.spec.specs.Script.{Source, Instruction, halt, write, branch, goto, present, set_work, keep, instruction_at}
use Rattle.spec.specs.Check.{code_of, lines_of}
use Rattle.spec.specs.Machine.{Machine, trace, fresh, with_write, move, Stop, stops, step, table_within, fresh_of, can_run, step_of, unless_stopped, acting}
use Rattle.spec.specs.Ready.{Readiness, MachineState, would_keep, worked_out, first_readiness, ready_move, ready_unless, ready_acting, fresh_state_of, ready_step_of, state_step_of, state_after}
use Rattle.spec.specs.Promise.{after}
use Rattle.spec.proofs.LogicLaws.{agrees}
use Rattle.spec.proofs.RuleLaws.{InOrder, rule_out, length_table}
use Rattle.spec.proofs.ValueLaws.{prior_moved}
use Rattle.spec.proofs.MonitorLaws.{values_at, priors_next, unread_same}
use Rattle.spec.proofs.SoundLaws.{states_written, room}

-- ---- the next machine depends on the machine alone

module _ (form : Form) (rule script inputs lent : List ℕ) where
  pub after_start : after form 0 rule script inputs lent ≡ fresh_of form rule lent
  unfolding after state_after fresh_state_of
  after_start = refl

  pub after_next : (n : ℕ) → after form (suc n) rule script inputs lent ≡ step_of form rule script inputs (after form n rule script inputs lent)
  unfolding after state_after
  after_next n = refl

-- ---- readiness is right

-- what holds before each step: its priors are those of the history, it was worked out from them, and it knows what the rule reads
pub record ReadyRight (t : Table) (m : Machine) (x : Readiness) : Type 0 where
  pub sixteen : length m.registers ≡ register_count
  pub priors : (k : ℕ) → x.priors k ≡ prior t (trace m) m.registers k
  pub worked : x ≡ worked_out t m.registers x.priors (rule_reads t)

module _ (t : Table) (ordered : InOrder t) where
  reads_right : (m : Machine) (x : Readiness) → ReadyRight t m x → x.tested ≡ rule_reads t
  reads_right m x r = ap (λ y. y.tested) r.worked

  fresh_right : (lent : List ℕ) → ReadyRight t (fresh t lent) (first_readiness t)
  unfolding first_readiness fresh states
  fresh_right lent = record { sixteen = refl; priors = λ k. refl; worked = refl }

  module _ (inputs : List ℕ) where
    -- a write: it is worked out anew, or the rule does not read that register
    write_right : (q : ℕ) (v : Source) (m : Machine) (x : Readiness) → ReadyRight t m x
        → let m' = with_write inputs q v m in (b : Bool) → x.tested q ≡ b
        → ReadyRight t m' (cond b (worked_out t m'.registers x.priors x.tested) x)
    write_right q v m x r true e = record {
      sixteen = length-set m.registers q _ ∙ r.sixteen;
      priors = λ k. r.priors k ∙ prior_moved t ordered (trace m) m.registers _ k;
      worked = ap (λ z. worked_out t (with_write inputs q v m).registers x.priors z) (reads_right m x r);
    }
    write_right q v m x r false e = record {
      sixteen = length-set m.registers q _ ∙ r.sixteen;
      priors = λ k. r.priors k ∙ prior_moved t ordered (trace m) m.registers _ k;
      worked = r.worked ∙ ap (λ (n : NodeSets). record { ready = last_true t n; priors = x.priors; next = n.priors; tested = rule_reads t })
          (sym (unread_same m.registers q _ t x.priors r.sixteen (ap (λ z. z q) (sym (reads_right m x r)) ∙ e)));
    }

    move_right : (i : Instruction) (m : Machine) (x : Readiness) → stops inputs i m ≡ none → ReadyRight t m x
        → ReadyRight t (move inputs i m) (ready_move t i (move inputs i m).registers x)
    unfolding ready_move move
    move_right halt m x s r = r
    move_right (write q v) m x s r = write_right q v m x r (x.tested q) refl
    move_right (branch q l) m x s r = record { sixteen = r.sixteen; priors = r.priors; worked = r.worked }
    move_right (goto l) m x s r = record { sixteen = r.sixteen; priors = r.priors; worked = r.worked }
    move_right present m x s r =
        let h = states_written m.presentations m.history m.registers r.sixteen (room inputs m s) in
        record {
          sixteen = r.sixteen;
          priors = λ k. ap (λ y. y.next k) r.worked
              ∙ priors_next t ordered (trace m) m.registers x.priors (λ j past. r.priors j) m.registers k
              ∙ ap (λ τ. prior t τ m.registers k) (sym h);
          worked = ap (λ q. worked_out t m.registers x.next q) (reads_right m x r);
        }
    move_right (set_work k b) m x s r = record { sixteen = r.sixteen; priors = r.priors; worked = r.worked }
    move_right (keep k) m x s r = record { sixteen = r.sixteen; priors = r.priors; worked = r.worked }

    acting_right : (i : Instruction) (m : Machine) (x : Readiness) → ReadyRight t m x → ReadyRight t (acting inputs i m) (ready_acting t inputs i m x)
    acting_right i m x r = go (stops inputs i m) refl
      where
        go : (o : Option Stop) → stops inputs i m ≡ o
            → ReadyRight t (unless_stopped o m (move inputs i m)) (ready_unless o x (ready_move t i (move inputs i m).registers x))
        go none e = move_right i m x e r
        go (some s) e = r

-- for a rule that passes questions 1 to 4, and any script
module _ (form : Form) (rule : List ℕ) (checked : check_rule form rule ≡ passed tt) where
  abbrev t : Table
  t = table_of form rule

  abbrev ordered : InOrder t
  ordered = (rule_out form rule checked).ordered

  table_is : table_within form rule ≡ t
  table_is = ap (table_of form) (take_all form.width rule (rule_out form rule checked).few_nodes)

  step_right : (script inputs : List ℕ) (m : Machine) (x : Readiness) → ReadyRight t m x
      → ReadyRight t (step_of form rule script inputs m) (ready_step_of form rule script inputs m x)
  unfolding ready_step_of step_of step
  step_right script inputs m x r = rw table_is (go (can_run form rule script m.line))
    where
      i : Instruction
      i = instruction_at (code_of (lines_of form script)) m.line

      go : (b : Bool) → ReadyRight t (cond b (acting inputs i m) m) (cond b (ready_acting t inputs i m x) x)
      go true = acting_right t ordered inputs i m x r
      go false = r

  module _ (script inputs lent : List ℕ) where
    abbrev at : ℕ → MachineState
    at n = state_after form n rule script inputs lent

    pub ready_right : (n : ℕ) → ReadyRight t (at n).machine (at n).readiness
    unfolding state_after fresh_state_of fresh_of
    ready_right zero = rw table_is (fresh_right t ordered lent)
    ready_right (suc n) = step_right script inputs _ _ (ready_right n)

    pub right : (n : ℕ) → (at n).readiness.ready ≡ would_keep t (at n).machine
    unfolding would_keep value_now
    right n =
        let r = ready_right n in
        let m = (at n).machine in
        let nodes = (rule_out form rule checked).some_node in
        ap (λ x. x.ready) r.worked
        ∙ values_at t ordered (trace m) m.registers (at n).readiness.priors (λ k past. r.priors k) (last_node t) (omega (arith, length_table form rule))

    pub means : (n : ℕ) → let m = (at n).machine in
        ((at n).readiness.ready ≡ true) ↔ Satisfies (with_present (trace m) m.registers) (rule_of t) (length (trace m))
    unfolding would_keep
    means n =
        let m = (at n).machine in
        let (there, back) = agrees (with_present (trace m) m.registers) (rule_of t) (length (trace m)) in
        (λ e. there (sym (right n) ∙ e), λ s. right n ∙ back s)

-- ---- what stops a run

pub stop_same : (form : Form) (rule script inputs : List ℕ) (x : MachineState) (s : Stop)
    → stops inputs (instruction_at (code_of (lines_of form script)) x.machine.line) x.machine ≡ some s → state_step_of form rule script inputs x ≡ x
unfolding ready_step_of step_of step
stop_same form rule script inputs x s e = rw e (go (can_run form rule script x.machine.line))
  where
    go : (b : Bool) → record { machine = cond b x.machine x.machine; readiness = cond b x.readiness x.readiness } ≡ x
    go true = refl
    go false = refl
