-- Answers as numbers: what a function hands back, and the words that it writes at the start of lent memory.
use Rattle.std.specs.Prelude.{Bool, cond, List, [], ◌∷◌, ◌++◌, ℕ, length, drop, leb, Result, Ok, Err}
use Rattle.spec.specs.Questions.{Answer, passed, refused, Checked}
use Rattle.spec.specs.Judging.{Verdict, breach, clean}
use Rattle.spec.specs.Machine.{Stop, halted, spent, dry, full, Report}

-- ---- lent memory

-- handed back where the lent words are fewer than a function needs
abbrev pub too_short : ℕ
too_short = 99

-- are n words lent?
abbrev pub room_for : (n : ℕ) (lent : List ℕ) → Bool
room_for n lent = leb n (length lent)

-- lent memory after n words are written at its start: later words stay. Where there is no room nothing is written.
unfoldable pub with_words : (n : ℕ) (words lent : List ℕ) → List ℕ
with_words n words lent = cond (room_for n lent) (words ++ drop n lent) lent

-- ---- an answer's number and place

-- 0, or the number of the question that refused
abbrev pub number_of : {A : Type 0} → Answer A → ℕ
number_of (passed x) = 0
number_of (refused q i) = q

abbrev pub place_of : {A : Type 0} → Answer A → ℕ
place_of (passed x) = 0
place_of (refused q i) = i

-- a count, or a refusal with any number and a place
abbrev pub counted_by : Result ℕ (ℕ × ℕ) → Answer ℕ
counted_by (Ok n) = passed n
counted_by (Err r) = refused r.0 r.1

-- what a function hands back that needs n lent words
unfoldable pub result_for : {A : Type 0} (n : ℕ) (lent : List ℕ) → Answer A → ℕ
result_for n lent a = cond (room_for n lent) (number_of a) too_short

-- ---- the words of an answer

-- place
abbrev pub checked_words : Checked → List ℕ
checked_words a = place_of a ∷ []

-- place, count of what was written
abbrev pub count_words : Answer ℕ → List ℕ
count_words (passed n) = 0 ∷ n ∷ []
count_words (refused q i) = i ∷ 0 ∷ []

-- place, 1 for a breach, its index, the number of states where there is none
abbrev pub verdict_words : Answer Verdict → List ℕ
verdict_words (passed (breach i)) = 0 ∷ 1 ∷ i ∷ 0 ∷ []
verdict_words (passed (clean n)) = 0 ∷ 0 ∷ 0 ∷ n ∷ []
verdict_words (refused q i) = i ∷ 0 ∷ 0 ∷ 0 ∷ []

abbrev pub stop_number : Answer Stop → ℕ
stop_number (refused q i) = 0
stop_number (passed halted) = 1
stop_number (passed spent) = 2
stop_number (passed dry) = 3
stop_number (passed full) = 4

-- place, stop, line, steps, presentations, inputs read, 16 registers
abbrev pub report_words : Report → List ℕ
report_words r =
    place_of r.stop ∷ stop_number r.stop ∷ r.line ∷ r.step_count ∷ r.presentations ∷ r.inputs_read ∷ r.registers
