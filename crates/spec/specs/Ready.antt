-- The ready lamp (request 2026-08): the machine's state also holds whether a presentation made now would keep the rule, right at the
-- start and after every step. `Machine` is what a script moves, and its readiness follows it: a script cannot see it. It has priors of
-- its own, since kept bits are old between a present and its 12s, and a script may spoil them. A run's answer has no readiness, so
-- that a run need not work it out.
use Rattle.std.specs.Prelude.{Bool, cond, List, [], ℕ, zero, suc, length}
use Rattle.std.proofs.Math.Option.{Option, none, some}
use Rattle.spec.specs.Logic.{State, holds}
use Rattle.spec.specs.Rule.{Form, Table, rule_of, with_present, prior}
use Rattle.spec.specs.Monitor.{moment_of, last_true, rule_reads}
use Rattle.spec.specs.Script.{Instruction, halt, write, branch, goto, present, set_work, keep, instruction_at}
use Rattle.spec.specs.Check.{code_of, lines_of}
use Rattle.spec.specs.Machine.{Machine, trace, zeros, move, Stop, stops, table_within, fresh_of, can_run, step_of}

-- would a presentation made now keep the rule? The rule is read at the last index of the history with the present registers added,
-- whether the history has space or not.
unfoldable pub would_keep : Table → Machine → Bool
would_keep t m = holds (with_present (trace m) m.registers) (rule_of t) (length (trace m))

-- ---- the state

pub record Readiness : Type 0 where
  pub ready : Bool  -- would a presentation made now keep the rule?
  pub priors : ℕ → Bool  -- the prior of each past node
  pub next : ℕ → Bool  -- the priors after a presentation made now
  pub tested : ℕ → Bool  -- the registers that the rule reads

-- the machine's state: what a script moves, and its readiness
pub record MachineState : Type 0 where
  pub machine : Machine
  pub readiness : Readiness

-- worked out from the registers and the priors: every node's value, once
abbrev pub worked_out : Table → State → (priors tested : ℕ → Bool) → Readiness
worked_out t s p q = let m = moment_of t s p in record { ready = last_true t m; priors = p; next = m.priors; tested = q }

-- at the start every prior is the first one
unfoldable pub first_readiness : Table → Readiness
first_readiness t = worked_out t zeros (λ k. prior t [] zeros k) (rule_reads t)

-- ---- one step

-- what each instruction does to it where nothing stops it, with the registers s afterwards. A write (1 to 4, and 14 of 2026-02) has it
-- worked out anew, if the rule reads that register; a present too, from the priors after it; a branch (13 of 2026-01 too), a go, and what
-- a script does to its bits leave it.
unfoldable pub ready_move : Table → Instruction → State → Readiness → Readiness
ready_move t halt s x = x
ready_move t (write r v) s x = cond (x.tested r) (worked_out t s x.priors x.tested) x
ready_move t (branch q l) s x = x
ready_move t (goto l) s x = x
ready_move t present s x = worked_out t s x.next x.tested
ready_move t (set_work k b) s x = x
ready_move t (keep k) s x = x

abbrev pub ready_unless : Option Stop → Readiness → Readiness → Readiness
ready_unless none before after = after
ready_unless (some s) before after = before

-- where a run would stop as halted, dry or full, it stays as it is
abbrev pub ready_acting : Table → (inputs : List ℕ) → Instruction → Machine → Readiness → Readiness
ready_acting t inputs i m x = ready_unless (stops inputs i m) x (ready_move t i (move inputs i m).registers x)

-- ---- stored scripts

-- no more nodes are looked at than the stored form allows (question 1)
unfoldable pub fresh_state_of : Form → (rule lent : List ℕ) → MachineState
fresh_state_of form rule lent = record { machine = fresh_of form rule lent; readiness = first_readiness (table_within form rule) }

-- one step of a stored script; a line that cannot be run leaves it too
unfoldable pub ready_step_of : Form → (rule script inputs : List ℕ) → Machine → Readiness → Readiness
ready_step_of form rule script inputs m x =
    cond (can_run form rule script m.line)
    (ready_acting (table_within form rule) inputs (instruction_at (code_of (lines_of form script)) m.line) m x) x

abbrev pub state_step_of : Form → (rule script inputs : List ℕ) → MachineState → MachineState
state_step_of form rule script inputs x = record {
  machine = step_of form rule script inputs x.machine;
  readiness = ready_step_of form rule script inputs x.machine x.readiness;
}

-- the state n steps after a fresh start: each step takes what the one before handed back
unfoldable pub state_after : Form → ℕ → (rule script inputs lent : List ℕ) → MachineState
state_after form zero rule script inputs lent = fresh_state_of form rule lent
state_after form (suc n) rule script inputs lent = state_step_of form rule script inputs (state_after form n rule script inputs lent)
