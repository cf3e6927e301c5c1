-- Request 2026-10: a run of four stations as numbers. Their states' words stand one after the other, station 0's first.
use Rattle.std.specs.Prelude.{◌≡◌, cond, List, [], ◌∷◌, ◌++◌, ℕ, ◌*◌, length, Result, Ok, Err}
use Rattle.spec.specs.Questions.{Answer, passed, refused}
use Rattle.spec.specs.Rule.{Form}
use Rattle.spec.specs.Ready.{MachineState}
use Rattle.turns.specs.Stations.{station_count, Four, each_of, Progress, running_stations, StationsReport, stations_report}
use Rattle.stations.specs.Views.{stations_of}
use Rattle.rule.specs.declared.answer.Refusal.{Refusal}
use Rattle.stations.specs.declared.Ran.{Ran}
use Rattle.numbers.specs.Numbers.{room_for, with_words, place_of, result_for}
use Rattle.numbers.specs.States.{state_length, states_in, state_words}

-- the run of four stations whose states go to the lent words: of these only how many states they are matters
abbrev pub ran_over : Form → (states : List ℕ) → (rules scripts inputs lent : Four (List ℕ)) → (budget allowance : ℕ) → Answer Progress
ran_over form states rules scripts inputs lent budget allowance =
    running_stations form (states_in states) (stations_of rules scripts inputs lent) budget allowance

-- place, turns, what is left of the allowance
abbrev pub stations_words : StationsReport → List ℕ
stations_words r = place_of r.verdict ∷ r.turns ∷ r.left ∷ []

abbrev pub states_words : Four MachineState → List ℕ
states_words ms = state_words ms.first ++ state_words ms.second ++ state_words ms.third ++ state_words ms.fourth

-- the lent words after a run: the four states at its end; refused, they stay
abbrev pub states_after : Answer Progress → (lent : List ℕ) → List ℕ
states_after (passed p) lent = states_words p.machines
states_after (refused q i) lent = lent

-- and the four histories
abbrev pub histories_after : Answer Progress → (lent : Four (List ℕ)) → Four (List ℕ)
histories_after (passed p) lent = each_of (λ x. x.machine.history) p.machines
histories_after (refused q i) lent = lent

-- the same of the code's own answer, with its machines' states
abbrev pub states_left : Result Ran Refusal → (ms : Four MachineState) → (lent : List ℕ) → List ℕ
states_left (Ok r) ms lent = states_words ms
states_left (Err r) ms lent = lent

-- a run that was made had four states lent
abbrev pub FourWords : Result Ran Refusal → (lent : List ℕ) → Type 0
FourWords (Ok r) lent = length lent ≡ station_count * state_length
FourWords (Err r) lent = Unit {0}

-- how many numbers an answer has
abbrev pub stations_length : ℕ
stations_length = 3

-- What a run hands back and leaves in all that was lent, for either stored form. With fewer numbers lent than an answer has nothing is written.
pub record StationsNoted (ran : Answer Progress) (result : ℕ) (numbers words states after : List ℕ) (lent left : Four (List ℕ)) : Type 0 where
  -- the number handed back
  pub number : result ≡ result_for stations_length numbers ran
  -- the answer's numbers first; later ones stay
  pub noted : words ≡ with_words stations_length (stations_words (stations_report ran)) numbers
  -- the states' words
  pub put : after ≡ cond (room_for stations_length numbers) (states_after ran states) states
  -- the histories
  pub made : left ≡ cond (room_for stations_length numbers) (histories_after ran lent) lent
