-- The promise in the words of the caller.
use Rattle.std.specs.Prelude.{◌≡◌, List, ℕ, ◌*◌, length, take}
use Rattle.spec.specs.Questions.{Answer, passed}
use Rattle.spec.specs.Rule.{Form}
use Rattle.spec.specs.Check.{line_length, check_script}
use Rattle.largest.specs.Found.{Largest}

-- where it answers a count, the lines written are those with the largest facts that the checker accepts
abbrev pub HandsOut : Form → (rule instructions : List ℕ) → Answer ℕ → (out : List ℕ) → Type 0
HandsOut form rule ws a out = (n : ℕ) → a ≡ passed n → Largest form (check_script form rule) ws (take (line_length * length ws) out)
