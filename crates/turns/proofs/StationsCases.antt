-- Cases of request 2026-10 by computation, one table with one theorem, and its promise for document 01's stored form and 2026-07's.
--     station_cases                   what is answered: turns and what is left, or the refusal
--     stations_kept32, stations_kept64
-- Assumes nothing.
use mathlib.Core.Path.{◌≡◌, refl}
use mathlib.Core.Option.{Option-elim}
use mathlib.Core.List.{List, [], ◌∷◌, ◌++◌}
use Prim.Native.Nat.{ℕ}
use lib.ListN.{replicate}
use Rattle.spec.specs.Questions.{passed, refused}
use Rattle.spec.specs.Rule.{form32, form64}
use Rattle.turns.specs.Stations.{Four, four, Station, station, started, passed_at, left_at, turn, run_turns, at_station, ask_stations, question21, check_stations, running_stations, StationsReport, stations_report}
use Rattle.turns.specs.StationsPromise.{StationsKept}
use Rattle.spec.proofs.Compute.{everything}
use Rattle.spec.proofs.Cases.{since_rule}
use Rattle.turns.proofs.StationsDemand.{stations_kept}

-- ---- stations

-- a line with no facts
abbrev bare : ℕ → List ℕ
bare w = w ∷ replicate 7 0

-- false implies false, a rule that is always true
abbrev true_rule : List ℕ
true_rule = 0 ∷ 0x60000000 ∷ []

-- halt
abbrev halted : Station
halted = station since_rule (bare 0) [] []

-- present, go to 0
abbrev presenting : Station
presenting = station true_rule (bare 0x80000000 ++ bare 0x70000000) [] (replicate 64 0)

-- go to 0
abbrev going : Station
going = station since_rule (bare 0x70000000) [] []

-- input 1, halt, and no input
abbrev dry : Station
dry = station since_rule (bare 0x41000000 ++ bare 0) [] []

-- the same with an input above 16,383
abbrev loud : Station
loud = station since_rule (bare 0x41000000 ++ bare 0) (16384 ∷ []) []

-- opcode 15
abbrev bad_line : Station
bad_line = station since_rule (bare 0xf0000000) [] []

-- a rule of no nodes
abbrev no_nodes : Station
no_nodes = station [] (bare 0) [] []

-- ---- the table

pub record Case : Type 0 where
  pub state_count : ℕ
  pub stations : Four Station
  pub budget : ℕ
  pub allowance : ℕ
  pub report : StationsReport

abbrev case : ℕ → Four Station → (budget allowance : ℕ) → StationsReport → Case
case n s budget allowance r = record { state_count = n; stations = s; budget = budget; allowance = allowance; report = r }

abbrev ran : (turns left : ℕ) → StationsReport
ran t l = record { verdict = passed tt; turns = t; left = l }

abbrev no : (question place : ℕ) → StationsReport
no q i = record { verdict = refused q i; turns = 0; left = 0 }

abbrev AllRight : List Case → Type 0
AllRight [] = Unit {0}
AllRight (c ∷ cs) =
    (stations_report (running_stations form32 c.state_count c.stations c.budget c.allowance) ≡ c.report) × AllRight cs

pub cases : List Case
cases =
    case 4 (four halted halted halted halted) 100 5 (ran 4 5)  -- four passes, and each is a turn
    ∷ case 4 (four halted halted halted halted) 0 5 (ran 0 5)  -- a budget of 0
    ∷ case 4 (four dry dry going dry) 11 5 (ran 11 5)  -- one able station among three dry ones goes on
    ∷ case 4 (four presenting presenting presenting presenting) 100 0 (ran 4 0)  -- an allowance of 0
    ∷ case 4 (four presenting presenting presenting presenting) 100 1 (ran 9 0)  -- station 0 presents, goes back, and waits as the others do
    ∷ case 4 (four presenting going halted halted) 30 1 (ran 30 0)  -- station 0 waits while station 1 goes on
    ∷ case 3 (four bad_line halted halted halted) 100 5 (no 21 0)  -- three states, before all else
    ∷ case 5 (four halted halted halted halted) 100 5 (no 21 0)
    ∷ case 4 (four bad_line no_nodes halted halted) 100 5 (no 6 0)  -- station 0's 6 before station 1's 1
    ∷ case 4 (four halted halted loud halted) 100 5 (no 15 2)
    ∷ case 4 (four loud halted halted no_nodes) 100 5 (no 1 3)  -- scripts before inputs
    ∷ []

pub station_cases : AllRight cases
unfolding everything Option-elim cases started passed_at left_at turn run_turns at_station ask_stations question21 check_stations running_stations
station_cases = (refl, (refl, (refl, (refl, (refl, (refl, (refl, (refl, (refl, (refl, (refl, tt)))))))))))

-- ---- the promise

-- document 01's stored form
pub stations_kept32 : StationsKept form32
stations_kept32 = stations_kept form32

-- 2026-07's
pub stations_kept64 : StationsKept form64
stations_kept64 = stations_kept form64
