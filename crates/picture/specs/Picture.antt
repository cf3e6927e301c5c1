-- What the program that judges a file of limits prints for the bytes of the file.
use Rattle.std.specs.Prelude.{cond, List, ℕ, ◌+◌, length, replicate}
use Rattle.spec.specs.Ascii.{ascii}
use Rattle.spec.specs.Questions.{Answer, passed, refused, Checked}
use Rattle.spec.specs.Rule.{Form, form32, check_rule}
use Rattle.spec.specs.Judging.{state_count}
use Rattle.print.specs.Decimal.{refused_text}
use Rattle.intervals.specs.Limits.{rule_truth, byte_of, limiting}
use Rattle.intervals.specs.Reasons.{depends_on}
use Rattle.picture.specs.File.{rule_in, is_whole, lows_in, highs_in}
use Rattle.picture.specs.Lines.{lines_text}

-- one line an index; for refused limits only "refused", number, place
abbrev pub answer_text : Form → (rule lows highs : List ℕ) → Answer ℕ → List ℕ
answer_text form rule lows highs (passed n) =
    lines_text n (λ i. byte_of (rule_truth form rule lows highs i)) (λ i. depends_on form rule lows highs i)
answer_text form rule lows highs (refused q i) = refused_text q i

-- judged with an output byte for each index
unfoldable pub limits_text : Form → (rule lows highs : List ℕ) → List ℕ
limits_text form rule lows highs = answer_text form rule lows highs (limiting form rule lows highs (replicate (state_count lows) 0))

abbrev pub too_few : List ℕ
too_few = ascii "a file has at most 1000 indices here, and 64 bytes for each\n"

-- the rule's questions first, then whether the limits are all there
abbrev pub after_rule : Checked → List ℕ → List ℕ
after_rule (passed u) text = text
after_rule (refused q i) text = refused_text q i

-- the rule is known, and the index count is word `at`
unfoldable pub file_text : (rule bytes : List ℕ) → (at : ℕ) → List ℕ
file_text rule bytes at =
    after_rule (check_rule form32 rule) (cond (is_whole bytes at) (limits_text form32 rule (lows_in bytes at) (highs_in bytes at)) too_few)

unfoldable pub picture_of : (bytes : List ℕ) → List ℕ
picture_of bytes = file_text (rule_in bytes) bytes (length (rule_in bytes) + 1)
