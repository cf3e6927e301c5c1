-- What a run of four stations promises, in a caller's words: of the states and histories as it leaves them. Crate turns has the whole
-- promise (`StationsPromise`); `proofs/SafeLaws.antt` proves this from it.
use Rattle.std.specs.Prelude.{◌≡◌, List, ℕ, ◌+◌, ◌<◌, Result, Ok, Err}
use Rattle.spec.specs.Logic.{Satisfies}
use Rattle.spec.specs.Rule.{Form, table_of, rule_of}
use Rattle.spec.specs.Judging.{states}
use Rattle.turns.specs.Stations.{station_count, Four, pick}
use Rattle.machine.specs.declared.Machine.{Machine}
use Rattle.rule.specs.declared.answer.Refusal.{Refusal}
use Rattle.stations.specs.declared.Ran.{Ran}

pub record Kept (form : Form) (rules : Four (List ℕ)) (allowance left : ℕ) (ms : Four Machine) (histories : Four (List ℕ)) : Type 0 where
  -- each history obeys its station's own rule, at every presentation (Fig. 2)
  pub obeyed : (k : ℕ) → k < station_count → (i : ℕ) → i < (pick ms k).presentations
      → Satisfies (states (pick ms k).presentations (pick histories k)) (rule_of (table_of form (pick rules k))) i
  -- nothing of the allowance is lost: presentations plus what is left equal the starting allowance
  pub conserved : ms.first.presentations + ms.second.presentations + ms.third.presentations + ms.fourth.presentations + left ≡ allowance

-- of a run that was made; a refused one has moved nothing
abbrev pub Safe : Form → (rules : Four (List ℕ)) (allowance : ℕ) → Result Ran Refusal → (ms : Four Machine) (histories : Four (List ℕ)) → Type 0
Safe form rules allowance (Ok r) ms histories = Kept form rules allowance r.left ms histories
Safe form rules allowance (Err r) ms histories = Unit {0}
