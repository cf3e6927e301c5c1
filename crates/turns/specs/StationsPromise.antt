-- Request 2026-10: what holds of a run of four stations that is not refused. `proofs/StationsDemand.antt` proves it.
use Rattle.std.specs.Prelude.{◌≡◌, true, ◌⊎◌, ℕ, zero, suc, ◌+◌, ◌<◌}
use Rattle.std.proofs.Math.Option.{none}
use Rattle.spec.specs.Logic.{Satisfies}
use Rattle.spec.specs.Questions.{passed}
use Rattle.spec.specs.Rule.{Form, table_of, rule_of}
use Rattle.spec.specs.Script.{is_present}
use Rattle.spec.specs.Machine.{Machine, trace, stops, move}
use Rattle.spec.specs.Ready.{MachineState, would_keep, state_after}
use Rattle.turns.specs.Stations.{station_count, Four, pick, Station, Progress, started, station_at, instruction_for, is_passed, turn, running_stations}

-- n turns from the start, one after the other
unfoldable pub after_turns : ℕ → Form → Four Station → (allowance : ℕ) → Progress
after_turns zero form s allowance = started form s allowance
after_turns (suc n) form s allowance = turn form s (after_turns n form s allowance)

-- presentations of the four
abbrev pub presented : Four MachineState → ℕ
presented ms =
    ms.first.machine.presentations + ms.second.machine.presentations
    + ms.third.machine.presentations + ms.fourth.machine.presentations

-- able to move: not halted, dry or full, and where it would present, something is left of the allowance
pub record Able (form : Form) (x : Station) (left : ℕ) (m : Machine) : Type 0 where
  pub runs : stops x.inputs (instruction_for form x m) m ≡ none
  pub allowed : is_present (instruction_for form x m) ≡ true → 0 < left

-- four successive booths were passed over, the last of them at the turn before number n
pub record FourPassed (form : Form) (s : Four Station) (allowance n : ℕ) : Type 0 where
  pub from : ℕ
  pub up_to : n ≡ from + station_count
  pub over : (j : ℕ) → j < station_count → is_passed form s (station_at (from + j)) (after_turns (from + j) form s allowance) ≡ true

-- a run of four stations that ended as `e`
pub record StationsPromise (form : Form) (s : Four Station) (budget allowance : ℕ) (e : Progress) : Type 0 where
  -- It ends as its turns leave it, each taken by the booth whose turn it is, ..
  pub reached : e ≡ after_turns e.turns form s allowance
  pub counted : (n : ℕ) → (after_turns n form s allowance).turns ≡ n
  -- .. when its turns equal the budget or when four successive booths were passed over, and not before.
  pub ends : (e.turns ≡ budget) ⊎ FourPassed form s allowance e.turns
  pub goes_on : (n : ℕ) → n < e.turns → (n < budget) × (FourPassed form s allowance n → ⊥)
  -- Each booth's history obeys its own rule, at every presentation (Fig. 2).
  pub obeyed : (k : ℕ) → k < station_count → (n i : ℕ) → let m = (pick (after_turns n form s allowance).machines k).machine in
      i < m.presentations → Satisfies (trace m) (rule_of (table_of form (pick s k).rule)) i
  -- Its state is what some number of its own script's steps makes of its fresh start: the others do not touch it ..
  pub own : (k : ℕ) → k < station_count → (n : ℕ) → let x = pick s k in
      (j : ℕ) × (pick (after_turns n form s allowance).machines k ≡ state_after form j x.rule x.script x.inputs x.lent)
  -- .. and it holds whether a presentation made now would keep its rule (2026-08).
  pub ready : (k : ℕ) → k < station_count → (n : ℕ) → let y = pick (after_turns n form s allowance).machines k in
      y.readiness.ready ≡ would_keep (table_of form (pick s k).rule) y.machine
  -- A booth able to move at its turn moves; one that is not keeps its state; no other is touched at that turn ..
  pub moves : (n : ℕ) → let k = station_at n in let p = after_turns n form s allowance in
      let x = pick s k in let m = (pick p.machines k).machine in
      Able form x p.left m → (pick (after_turns (suc n) form s allowance).machines k).machine ≡ move x.inputs (instruction_for form x m) m
  pub waits : (n : ℕ) → let k = station_at n in let p = after_turns n form s allowance in
      (Able form (pick s k) p.left (pick p.machines k).machine → ⊥) → (after_turns (suc n) form s allowance).machines ≡ p.machines
  pub stays : (n k : ℕ) → k < station_count → (k ≡ station_at n → ⊥)
      → pick (after_turns (suc n) form s allowance).machines k ≡ pick (after_turns n form s allowance).machines k
  -- .. and, until the run ends, has its next turn after three others.
  pub next : (n : ℕ) → station_at (n + station_count) ≡ station_at n
  pub others : (n i j : ℕ) → i < j → j < station_count → station_at (n + i) ≡ station_at (n + j) → ⊥
  -- Presentations plus what is left equal the starting allowance.
  pub conserved : (n : ℕ) → let p = after_turns n form s allowance in presented p.machines + p.left ≡ allowance

-- whatever the stations, the budget and the allowance, if the run is not refused
abbrev pub StationsKept : Form → Type 0
StationsKept form = (s : Four Station) (budget allowance : ℕ) (e : Progress)
    → running_stations form station_count s budget allowance ≡ passed e → StationsPromise form s budget allowance e
