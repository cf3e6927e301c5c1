-- This crate's machines, progress and answers as the specification's (crate turns, `specs/Stations.antt`).
use Rattle.std.specs.Prelude.{◌≡◌, false, List, ℕ, length, get_or, replicate, Result, Ok, Err}
use Rattle.spec.specs.Questions.{Answer, passed, refused}
use Rattle.spec.specs.Ready.{MachineState}
use Rattle.turns.specs.Stations as stationed
use Rattle.turns.specs.Stations.{station_count, Four, four, each_of, Station, station, StationsReport, stations_report}
use Rattle.rule.specs.declared.answer.Refusal.{Refusal}
use Rattle.rule.specs.Answers.{number_of}
use Rattle.machine.specs.declared.Machine.{Machine}
use Rattle.machine.specs.Machines.{state_of}
use Rattle.stations.specs.declared.FourStates.{FourStates}
use Rattle.stations.specs.declared.Progress.{Progress}
use Rattle.stations.specs.declared.Ran.{Ran}
use Rattle.stations.specs.declared.Station as given

-- ---- what the stations are given

-- a station, from its words as numbers and its lent history
abbrev pub station_of : {W : Type 0} → (numbers : List W → List ℕ) → given.Station W → (lent : List ℕ) → Station
station_of numbers x lent = station (numbers x.rule.now) (numbers x.script.now) x.inputs.now lent

-- four stations' rules, and the stations, each with its lent history
abbrev pub rules_of : {W : Type 0} → (numbers : List W → List ℕ) → Four (given.Station W) → Four (List ℕ)
rules_of numbers xs = each_of (λ x. numbers x.rule.now) xs

abbrev pub given_of : {W : Type 0} → (numbers : List W → List ℕ) → Four (given.Station W) → (lent : Four (List ℕ)) → Four Station
given_of numbers xs lent =
    four (station_of numbers xs.first lent.first) (station_of numbers xs.second lent.second)
    (station_of numbers xs.third lent.third) (station_of numbers xs.fourth lent.fourth)

-- the four stations, from what each is given
abbrev pub stations_of : (rules scripts inputs lent : Four (List ℕ)) → Four Station
stations_of r s i h =
    four (station r.first s.first i.first h.first) (station r.second s.second i.second h.second)
    (station r.third s.third i.third h.third) (station r.fourth s.fourth i.fourth h.fourth)

-- ---- machines

-- the states of four machines, each with its lent history
abbrev pub machines_of : Four Machine → (histories : Four (List ℕ)) → Four MachineState
machines_of ms h =
    four (state_of ms.first h.first) (state_of ms.second h.second) (state_of ms.third h.third) (state_of ms.fourth h.fourth)

abbrev pub progress_of : Progress → (histories : Four (List ℕ)) → stationed.Progress
progress_of p h = record {
  machines = machines_of (four p.first p.second p.third p.fourth) h;
  left = p.counts.left;
  passes = p.counts.passes;
  turns = p.counts.turns;
}

abbrev pub states_of : FourStates → Four Machine
states_of r = four r.first r.second r.third r.fourth

-- a machine that holds nothing; it also stands where a list has no state, and is not looked at there
abbrev pub no_state : Machine
no_state = record {
  registers = replicate 16 0;
  kept = 0;
  work = 0;
  line = 0;
  presentations = 0;
  reads = 0;
  readiness = record { ready = false; priors = 0; next = 0; tested = 0 };
}

abbrev pub no_states : Four Machine
no_states = four no_state no_state no_state no_state

abbrev pub four_in : List Machine → Four Machine
four_in ms = four (get_or ms 0 no_state) (get_or ms 1 no_state) (get_or ms 2 no_state) (get_or ms 3 no_state)

-- ---- what a run answers and leaves

-- this paper's number and values for each case: the turns and the allowance left; a refused answer has zeros
abbrev pub report_in : Result Ran Refusal → StationsReport
report_in (Ok r) = record { verdict = passed tt; turns = r.turns; left = r.left }
report_in (Err r) = record { verdict = refused (number_of r.question) r.place; turns = 0; left = 0 }

-- what a run leaves of four machines and their lent histories: those of its end; refused, states and histories stay
abbrev pub LeftAs : Answer stationed.Progress → (before after : Four Machine) (lent left : Four (List ℕ)) → Type 0
LeftAs (passed p) before after lent left = machines_of after left ≡ p.machines
LeftAs (refused q i) before after lent left = (after ≡ before) × (left ≡ lent)

-- the same of a list: it has four states, and they are those of the run's end; refused, the list stays
abbrev pub ListLeftAs : Answer stationed.Progress → (before after : List Machine) (lent left : Four (List ℕ)) → Type 0
ListLeftAs (passed p) before after lent left = (length after ≡ station_count) × (machines_of (four_in after) left ≡ p.machines)
ListLeftAs (refused q i) before after lent left = (after ≡ before) × (left ≡ lent)

pub record Answered (ran : Answer stationed.Progress) (answer : Result Ran Refusal) (before after : Four Machine) (lent left : Four (List ℕ)) : Type 0 where
  pub report : report_in answer ≡ stations_report ran
  pub kept : LeftAs ran before after lent left

pub record ListAnswered (ran : Answer stationed.Progress) (answer : Result Ran Refusal) (before after : List Machine) (lent left : Four (List ℕ)) : Type 0 where
  pub report : report_in answer ≡ stations_report ran
  pub kept : ListLeftAs ran before after lent left
