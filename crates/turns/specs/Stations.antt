-- Request 2026-10: four booths, one allowance. A booth of the paper is a station here; its number is 0 to 3.
-- A run of four stations: their turns, when a station is passed over, when the run ends, and what is refused.
-- `specs/StationsPromise.antt` says what holds of it.
use Rattle.std.specs.Prelude.{Bool, true, false, cond, ◌&&◌, ◌||◌, List, ℕ, zero, suc, ◌-◌, ◌%◌, eqb}
use Rattle.std.proofs.Math.Option.{Option, Option-elim}
use Rattle.spec.specs.Questions.{Answer, passed, refused, Checked, ◌then◌, ask_once}
use Rattle.spec.specs.Rule.{Form}
use Rattle.spec.specs.Judging.{question15}
use Rattle.spec.specs.Script.{Instruction, instruction_at, is_present}
use Rattle.spec.specs.Check.{code_of, lines_of, check_script}
use Rattle.spec.specs.Machine.{Machine, Stop, stops}
use Rattle.spec.specs.Ready.{MachineState, fresh_state_of, state_step_of}

-- ---- four of a kind

abbrev pub station_count : ℕ
station_count = 4

-- one for each station, in the order of their numbers
pub record Four (A : Type 0) : Type 0 where
  pub first : A
  pub second : A
  pub third : A
  pub fourth : A

abbrev pub four : {A : Type 0} → A → A → A → A → Four A
four a b c d = record { first = a; second = b; third = c; fourth = d }

-- that of station k
abbrev pub pick : {A : Type 0} → Four A → ℕ → A
pick f zero = f.first
pick f (suc zero) = f.second
pick f (suc (suc zero)) = f.third
pick f (suc (suc (suc k))) = f.fourth

-- with x for station k
abbrev pub put : {A : Type 0} → Four A → ℕ → A → Four A
put f zero x = four x f.second f.third f.fourth
put f (suc zero) x = four f.first x f.third f.fourth
put f (suc (suc zero)) x = four f.first f.second x f.fourth
put f (suc (suc (suc k))) x = four f.first f.second f.third x

abbrev pub each_of : {A B : Type 0} → (A → B) → Four A → Four B
each_of g f = four (g f.first) (g f.second) (g f.third) (g f.fourth)

-- ---- stations

-- each booth has its own rule, script, inputs and history
pub record Station : Type 0 where
  pub rule : List ℕ
  pub script : List ℕ
  pub inputs : List ℕ
  pub lent : List ℕ

abbrev pub station : (rule script inputs lent : List ℕ) → Station
station rule script inputs lent = record { rule = rule; script = script; inputs = inputs; lent = lent }

-- where a run of the four stands
pub record Progress : Type 0 where
  pub machines : Four MachineState
  pub left : ℕ  -- what is left of the allowance
  pub passes : ℕ  -- how many successive stations were passed over, up to now
  pub turns : ℕ  -- how many turns there were; a pass is a turn

-- it starts all four afresh
unfoldable pub started : Form → Four Station → (allowance : ℕ) → Progress
started form s allowance =
    record { machines = each_of (λ x. fresh_state_of form x.rule x.lent) s; left = allowance; passes = 0; turns = 0 }

-- ---- one turn

-- turns go 0, 1, 2, 3: whose turn number t is, counted from 0
abbrev pub station_at : ℕ → ℕ
station_at t = t % station_count

-- the instruction at which a station's machine stands
abbrev pub instruction_for : Form → Station → Machine → Instruction
instruction_for form x m = instruction_at (code_of (lines_of form x.script)) m.line

-- is there a stop?
abbrev pub is_stopped : Option Stop → Bool
is_stopped o = Option-elim o false (λ s. true)

-- a booth is passed over when halted, dry or full, or when it would present and the allowance is 0; i is where it stands
unfoldable pub passed_at : (inputs : List ℕ) → Instruction → (left : ℕ) → Machine → Bool
passed_at inputs i left m = is_stopped (stops inputs i m) || (is_present i && eqb left 0)

abbrev pub passed_over : Form → Station → (left : ℕ) → Machine → Bool
passed_over form x left m = passed_at x.inputs (instruction_for form x m) left m

-- a present takes one
unfoldable pub left_at : Instruction → (left : ℕ) → ℕ
left_at i left = cond (is_present i) (left - 1) left

abbrev pub left_after : Form → Station → (left : ℕ) → Machine → ℕ
left_after form x left m = left_at (instruction_for form x m) left

-- one step each
abbrev pub station_step : Form → Station → MachineState → MachineState
station_step form x y = state_step_of form x.rule x.script x.inputs y

-- a booth passed over keeps its state
abbrev pub with_pass : Progress → Progress
with_pass p = record { machines = p.machines; left = p.left; passes = suc p.passes; turns = suc p.turns }

-- station k moves
abbrev pub with_step : Form → Four Station → ℕ → Progress → Progress
with_step form s k p = record {
  machines = put p.machines k (station_step form (pick s k) (pick p.machines k));
  left = left_after form (pick s k) p.left (pick p.machines k).machine;
  passes = 0;
  turns = suc p.turns;
}

-- whether station k would be passed over
abbrev pub is_passed : Form → Four Station → ℕ → Progress → Bool
is_passed form s k p = passed_over form (pick s k) p.left (pick p.machines k).machine

abbrev pub turn_of : Form → Four Station → ℕ → Progress → Progress
turn_of form s k p = cond (is_passed form s k p) (with_pass p) (with_step form s k p)

unfoldable pub turn : Form → Four Station → Progress → Progress
turn form s p = turn_of form s (station_at p.turns) p

-- ---- the run

-- the run ends when its turns equal the budget or when four successive booths were passed over. `rest` turns of the budget are left.
unfoldable pub run_turns : (rest : ℕ) → Form → Four Station → Progress → Progress
run_turns zero form s p = p
run_turns (suc rest) form s p = cond (eqb p.passes station_count) p (run_turns rest form s (turn form s p))

-- ---- what is refused

-- the booth as place
unfoldable pub at_station : ℕ → Checked → Checked
at_station k (passed u) = passed tt
at_station k (refused q i) = refused q k

-- a question put to each booth: the lowest that has a no gives that number
unfoldable pub ask_stations : (Station → Checked) → Four Station → Checked
ask_stations q s =
    at_station 0 (q s.first) then at_station 1 (q s.second) then at_station 2 (q s.third) then at_station 3 (q s.fourth)

-- 21: is the list one of four states?
unfoldable pub question21 : (state_count : ℕ) → Checked
question21 n = ask_once 21 (eqb n station_count)

-- a list of other than four states is refused with 21, place 0, before all else; then the lowest booth whose rule or script fails,
-- with that number and the booth as place; then input values likewise
unfoldable pub check_stations : Form → (state_count : ℕ) → Four Station → Checked
check_stations form n s =
    question21 n
    then ask_stations (λ x. check_script form x.rule x.script) s
    then ask_stations (λ x. question15 x.inputs) s

unfoldable pub running_stations : Form → (state_count : ℕ) → Four Station → (budget allowance : ℕ) → Answer Progress
running_stations form n s budget allowance =
    check_stations form n s then passed (run_turns budget form s (started form s allowance))

-- ---- the answer

-- it answers the turns and the allowance left; every other number in a refused answer is 0
pub record StationsReport : Type 0 where
  pub verdict : Checked
  pub turns : ℕ
  pub left : ℕ

abbrev pub stations_report : Answer Progress → StationsReport
stations_report (passed p) = record { verdict = passed tt; turns = p.turns; left = p.left }
stations_report (refused q i) = record { verdict = refused q i; turns = 0; left = 0 }
