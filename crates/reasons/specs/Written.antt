-- What is written for a rule and limits: a set of registers for each index.
use Rattle.std.specs.Prelude.{◌≡◌, List, ℕ, ◌<◌, drop}
use Rattle.spec.specs.Rule.{Form}
use Rattle.spec.specs.Judging.{state_count}
use Rattle.intervals.specs.Reasons.{depends_on}
use Rattle.reasons.specs.Registers.{sets_in}

-- a word an index, the set of the registers that its answer depends on; later words stay
pub record RegistersPut (form : Form) (rule lows highs before after : List ℕ) : Type 0 where
  pub each : (i : ℕ) → i < state_count lows → sets_in after i ≡ depends_on form rule lows highs i
  pub rest : drop (state_count lows) after ≡ drop (state_count lows) before
