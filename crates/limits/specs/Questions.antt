-- The questions of judging within limits in two groups, as the code puts them after the rule's: of the lengths, and of the values.
use Rattle.std.specs.Prelude.{List, ℕ, ◌<◌, ◌≤◌, length, get_or}
use Rattle.spec.specs.Questions.{Checked, ◌then◌}
use Rattle.spec.specs.Judging.{question14, question15}
use Rattle.intervals.specs.Limits.{question22, question13, question23}

unfoldable pub check_lengths : (lows highs out : List ℕ) → Checked
check_lengths lows highs out = question14 lows then question14 highs then question22 lows highs then question13 lows out

unfoldable pub check_values : (lows highs : List ℕ) → Checked
check_values lows highs = question15 lows then question15 highs then question23 lows highs

-- of the first n places no low is above its high
abbrev pub InOrder : (lows highs : List ℕ) (n : ℕ) → Type 0
InOrder lows highs n = (k : ℕ) → k < n → get_or lows k 0 ≤ get_or highs k 0

-- at place i one is, and before it none
abbrev pub FirstAbove : (lows highs : List ℕ) (i : ℕ) → Type 0
FirstAbove lows highs i = (i < length lows) × (get_or highs i 0 < get_or lows i 0) × InOrder lows highs i
