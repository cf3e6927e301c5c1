-- A machine's state in lent words.
use Rattle.std.specs.Prelude.{Bool, cond, ◌&&◌, List, [], ◌∷◌, ◌++◌, ℕ, ◌+◌, ◌/◌, ◌%◌, length, get_or, take, drop, eqb, leb}
use Rattle.spec.specs.Logic.{register_count}
use Rattle.spec.specs.Questions.{all_below}
use Rattle.spec.specs.Rule.{Form}
use Rattle.spec.specs.Check.{nodes_in, fact_word}
use Rattle.spec.specs.Machine.{Machine, machine}
use Rattle.spec.specs.Ready.{Readiness, MachineState, state_step_of}
use Rattle.numbers.specs.Numbers.{room_for, too_short}

-- how many words a state has; where the registers start, and where its readiness does (2026-08)
abbrev pub state_length : ℕ
state_length = 25

abbrev pub registers_at : ℕ
registers_at = 5

abbrev pub readiness_at : ℕ
readiness_at = 21

-- how many states the words of a list of states are; words that are not whole states are none (2026-10)
unfoldable pub states_in : (words : List ℕ) → ℕ
states_in ws = cond (eqb (length ws % state_length) 0) (length ws / state_length) 0

-- a word of bits: node 0 is the most significant bit
abbrev pub bits_width : ℕ
bits_width = 64

-- line, presentations, inputs read, kept bits, work bits, 16 registers
unfoldable pub machine_words : Machine → List ℕ
machine_words m =
    m.line ∷ m.presentations ∷ m.inputs_read ∷ fact_word bits_width 0 m.kept ∷ fact_word bits_width 0 m.work ∷ m.registers

-- ready, priors, next priors, the registers that the rule reads: register 0 is the most significant bit
unfoldable pub readiness_words : Readiness → List ℕ
readiness_words x =
    cond x.ready 1 0 ∷ fact_word bits_width 0 x.priors ∷ fact_word bits_width 0 x.next ∷ fact_word bits_width 0 x.tested ∷ []

abbrev pub state_words : MachineState → List ℕ
state_words x = machine_words x.machine ++ readiness_words x.readiness

-- the state that the words say, with the lent history
unfoldable pub machine_in : (words history : List ℕ) → Machine
machine_in ws h =
    machine (get_or ws 0 0) (take register_count (drop registers_at ws)) (nodes_in bits_width (get_or ws 3 0)) (nodes_in bits_width (get_or ws 4 0))
    (get_or ws 1 0) (get_or ws 2 0) h

unfoldable pub readiness_in : (words : List ℕ) → Readiness
readiness_in ws = record {
  ready = eqb (get_or ws readiness_at 0) 1;
  priors = nodes_in bits_width (get_or ws (readiness_at + 1) 0);
  next = nodes_in bits_width (get_or ws (readiness_at + 2) 0);
  tested = nodes_in bits_width (get_or ws (readiness_at + 3) 0);
}

abbrev pub state_in : (words history : List ℕ) → MachineState
state_in ws h = record { machine = machine_in ws h; readiness = readiness_in ws }

-- a register has 16 bits
abbrev pub largest_register : ℕ
largest_register = 65535

unfoldable pub registers_fit : List ℕ → Bool
registers_fit ws = all_below register_count (λ i. leb (get_or ws (registers_at + i) 0) largest_register)

-- and ready is 0 or 1
unfoldable pub state_fits : List ℕ → Bool
state_fits ws = registers_fit ws && leb (get_or ws readiness_at 0) 1

-- handed back where a register, or ready, does not fit
abbrev pub too_large : ℕ
too_large = 98

-- is a step made?
unfoldable pub is_stated : (words : List ℕ) → Bool
is_stated ws = room_for state_length ws && state_fits ws

unfoldable pub step_result : (words : List ℕ) → ℕ
step_result ws = cond (room_for state_length ws) (cond (state_fits ws) 0 too_large) too_short

-- one step from the state that the words say
abbrev pub stepped : Form → (rule script inputs words history : List ℕ) → MachineState
stepped form rule script inputs ws h = state_step_of form rule script inputs (state_in ws h)
