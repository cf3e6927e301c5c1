-- A rule and a script moved to the second form: judging, the fresh start, a step and a run are the same.
--     judging_widen                           every verdict and refusal of a judging
--     within_widen, fresh_within, step_within   the nodes that a machine looks at, for a rule of any length
--     fresh_widen, step_widen, after_widen    the fresh start, a step, any number of steps, as ready
--     running_widen                           a run
-- Assumes nothing.
use mathlib.Core.Path.{◌≡◌, sym, ap, ap₂, ◌∙◌}
use mathlib.Core.Bool.{cond, ◌&&◌}
use mathlib.Core.List.{List}
use Prim.Native.Nat.{ℕ, zero, suc, ◌≤◌}
use native.Mathlib.Nat.{min-le_left}
use native.Mathlib.Omega.{arith}
use lib.ListN.{length, take, length-map, length-take}
use lib.Seq.{take_all}
use lib.Dec.{ltb}
use Rattle.spec.specs.Questions.{passed, ◌then◌}
use Rattle.spec.specs.Rule.{form32, form64, table_of}
use Rattle.spec.specs.Judging.{states_of, question14, question15, verdict_on, judging}
use Rattle.spec.specs.Script.{annotated_opcode, line_allowed, instruction_at}
use Rattle.spec.specs.Check.{code_of}
use Rattle.spec.specs.Machine.{fresh, step, run, table_within, fresh_of, can_run, step_of, running}
use Rattle.spec.specs.Ready.{MachineState, first_readiness, ready_acting, fresh_state_of, ready_step_of, state_step_of, state_after}
use Rattle.moves.specs.Moves.{widen_node, widen_rule, widen_script}
use Rattle.moves.proofs.NodeMoveLaws.{table_widen, check_widen}
use Rattle.moves.proofs.LineMoveLaws.{lines_widen, stored_widen, script_widen}

pub judging_widen : (rule h : List ℕ) → length rule ≤ 32 → judging form64 (widen_rule rule) h ≡ judging form32 rule h
unfolding judging
judging_widen rule h few =
    ap₂ (λ c t. c then question14 h then question15 h then passed (verdict_on t (states_of h))) (check_widen rule few) (table_widen rule)

-- ---- a machine looks at 32 nodes of the old form at most; so a rule of any length can be moved up to there

pub within_widen : (rule : List ℕ) → table_within form64 (widen_rule (take 32 rule)) ≡ table_within form32 rule
unfolding form32 form64
within_widen rule =
    let first = take 32 rule in
    let few : length (widen_rule first) ≤ 64 = omega (arith, length-map first widen_node, length-take 32 rule, min-le_left 32 (length rule)) in
    ap (table_of form64) (take_all 64 (widen_rule first) few) ∙ table_widen first

pub fresh_within : (rule lent : List ℕ) → fresh_state_of form64 (widen_rule (take 32 rule)) lent ≡ fresh_state_of form32 rule lent
unfolding fresh_state_of fresh_of
fresh_within rule lent = let t = within_widen rule in λ i. record { machine = fresh (t i) lent; readiness = first_readiness (t i) }

can_run_within : (rule ws : List ℕ) (l : ℕ) → can_run form64 (widen_rule (take 32 rule)) (widen_script ws) l ≡ can_run form32 rule ws l
unfolding can_run
can_run_within rule ws l = ap₂ (λ t s. ltb l s.line_count && line_allowed t annotated_opcode s l) (within_widen rule) (stored_widen ws)

pub step_within : (rule ws inputs : List ℕ) (x : MachineState)
    → state_step_of form64 (widen_rule (take 32 rule)) (widen_script ws) inputs x ≡ state_step_of form32 rule ws inputs x
unfolding step_of ready_step_of
step_within rule ws inputs x =
    let m = x.machine in
    let b = can_run_within rule ws m.line in
    let code = ap code_of (lines_widen ws) in
    let t = within_widen rule in
    λ i. record {
      machine = cond (b i) (step (code i) inputs m) m;
      readiness = cond (b i) (ready_acting (t i) inputs (instruction_at (code i) m.line) m x.readiness) x.readiness;
    }

-- ---- a rule of at most 32 nodes

module _ (rule : List ℕ) (few : length rule ≤ 32) where
  pub fresh_widen : (lent : List ℕ) → fresh_state_of form64 (widen_rule rule) lent ≡ fresh_state_of form32 rule lent
  fresh_widen lent = ap (λ r. fresh_state_of form64 (widen_rule r) lent) (sym (take_all 32 rule few)) ∙ fresh_within rule lent

  pub step_widen : (ws inputs : List ℕ) (x : MachineState)
      → state_step_of form64 (widen_rule rule) (widen_script ws) inputs x ≡ state_step_of form32 rule ws inputs x
  step_widen ws inputs x =
      ap (λ r. state_step_of form64 (widen_rule r) (widen_script ws) inputs x) (sym (take_all 32 rule few)) ∙ step_within rule ws inputs x

  pub after_widen : (ws : List ℕ) (n : ℕ) (inputs lent : List ℕ)
      → state_after form64 n (widen_rule rule) (widen_script ws) inputs lent ≡ state_after form32 n rule ws inputs lent
  unfolding state_after
  after_widen ws zero inputs lent = fresh_widen lent
  after_widen ws (suc n) inputs lent =
      ap (state_step_of form64 (widen_rule rule) (widen_script ws) inputs) (after_widen ws n inputs lent)
      ∙ step_widen ws inputs (state_after form32 n rule ws inputs lent)

  pub running_widen : (ws inputs : List ℕ) (budget : ℕ) (lent : List ℕ)
      → running form64 (widen_rule rule) (widen_script ws) inputs budget lent ≡ running form32 rule ws inputs budget lent
  unfolding running
  running_widen ws inputs budget lent =
      ap₂ ◌then◌ (script_widen rule ws few)
      (ap₂ (λ ls t. question15 inputs then passed (run budget (code_of ls) inputs 0 (fresh t lent))) (lines_widen ws) (table_widen rule))
