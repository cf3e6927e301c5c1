-- What the ready lamp promises (request 2026-08), for any stored form; `proofs/ReadyBlockLaws.antt` proves it. Demand 3 speaks of the same
-- states: its `after` is the machine in them.
use Rattle.std.specs.Prelude.{◌≡◌, ◌↔◌, true, List, ℕ, suc, ◌+◌, ◌≤◌, ◌<◌, length}
use Rattle.std.proofs.Math.Option.{some}
use Rattle.spec.specs.Logic.{Satisfies}
use Rattle.spec.specs.Questions.{passed}
use Rattle.spec.specs.Rule.{Form, table_of, rule_of, check_rule, with_present}
use Rattle.spec.specs.Script.{present, instruction_at, bare_code}
use Rattle.spec.specs.Check.{code_of, lines_of}
use Rattle.spec.specs.Machine.{trace, full, stops, step_of}
use Rattle.spec.specs.Weaver.{start_of, woven}
use Rattle.spec.specs.Ready.{MachineState, would_keep, state_step_of, state_after}
use Rattle.spec.specs.Promise.{Weavable, after}

pub record ReadyPromise (form : Form) : Type 0 where
  -- The machine's state holds the answer, right at the start and after every step: for a rule that passes questions 1 to 4 and any
  -- words as the script, accepted or not, whatever it does to its bits.
  pub right : (rule : List ℕ) → check_rule form rule ≡ passed tt → (script inputs lent : List ℕ) (n : ℕ)
      → let x = state_after form n rule script inputs lent in x.readiness.ready ≡ would_keep (table_of form rule) x.machine
  -- The same as Fig. 2 says it.
  pub means : (rule : List ℕ) → check_rule form rule ≡ passed tt → (script inputs lent : List ℕ) (n : ℕ)
      → let x = state_after form n rule script inputs lent in let m = x.machine in
      (x.readiness.ready ≡ true) ↔ Satisfies (with_present (trace m) m.registers) (rule_of (table_of form rule)) (length (trace m))
  -- An audiologist who looks after a woven block that did not present must see the same as before it: from step n on the run is for j
  -- steps in the block that bare line l became, wherever it was in it at step n, and none of them presents.
  pub block : (rule bare : List ℕ) → Weavable form rule bare → (inputs lent : List ℕ) (l n j : ℕ)
      → let t = table_of form rule in let code = bare_code bare in
      let x : ℕ → MachineState = λ i. state_after form (i + n) rule (woven form rule bare) inputs lent in
      instruction_at code l ≡ present
      → ((i : ℕ) → i < j → (start_of t code l ≤ (x i).machine.line) × ((x i).machine.line < start_of t code (suc l)))
      → (x j).machine.presentations ≡ (x 0).machine.presentations → (x j).readiness.ready ≡ (x 0).readiness.ready
  -- or after a present that found the history full: nothing changes there at all, in any state and for any words.
  pub full : (rule script inputs : List ℕ) (x : MachineState)
      → stops inputs (instruction_at (code_of (lines_of form script)) x.machine.line) x.machine ≡ some full
      → state_step_of form rule script inputs x ≡ x
  -- What a script does is the same whatever the readiness: the next machine depends on the machine alone.
  pub apart : (rule script inputs lent : List ℕ) (n : ℕ)
      → after form (suc n) rule script inputs lent ≡ step_of form rule script inputs (after form n rule script inputs lent)
