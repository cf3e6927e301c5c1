-- Request 2026-09, two reviewers' facts put together: the line-by-line union of two annotated scripts, and the promise, over stored
-- words, the checker's own questions and any stored form. `proofs/UnionLaws.antt` proves it.
use Rattle.std.specs.Prelude.{◌≡◌, Bool, cond, List, [], ◌∷◌, ℕ, suc, ◌%◌, length, eqb}
use Rattle.std.specs.Int.Bits.{bit_or}
use Rattle.spec.specs.Questions.{passed}
use Rattle.spec.specs.Rule.{Form, table_of, check_rule}
use Rattle.spec.specs.Script.{Instruction}
use Rattle.spec.specs.Facts.{Facts, ◌∪◌, ◌⊑◌, close}
use Rattle.spec.specs.Check.{line_at, line_length, code_of, lines_of, passed_on}
use Rattle.spec.specs.Promise.{Accepted}

-- ---- the union

-- word i of both: the first of a line's eight words is its instruction; the other seven are sets of facts, put together bit by bit
abbrev pub union_word : (i word word' : ℕ) → ℕ
union_word i x y = cond (eqb (i % line_length) 0) x (bit_or x y)

-- the words from word i on
unfoldable pub union_from : (i : ℕ) → List ℕ → List ℕ → List ℕ
union_from i [] ys = []
union_from i (x ∷ xs) [] = []
union_from i (x ∷ xs) (y ∷ ys) = union_word i x y ∷ union_from (suc i) xs ys

-- two annotated scripts put together
unfoldable pub union_words : (script script' : List ℕ) → List ℕ
union_words ws ws' = union_from 0 ws ws'

-- two people annotate the same instructions
abbrev pub SameInstructions : Form → (script script' : List ℕ) → Type 0
SameInstructions form ws ws' = code_of (lines_of form ws) ≡ code_of (lines_of form ws')

-- ---- the promise

pub record Together (form : Form) : Type 0 where
  -- If both are accepted for a rule, the line-by-line union is accepted too:
  pub union : (rule script script' : List ℕ) → SameInstructions form script script' → Accepted form rule script → Accepted form rule script'
      → Accepted form rule (union_words script script')
  -- such a pair has one length,
  pub lengths : (rule script script' : List ℕ) → SameInstructions form script script' → Accepted form rule script → Accepted form rule script'
      → length script ≡ length script'
  -- and the union of two of one length has the same instructions,
  pub instructions : (script script' : List ℕ) → length script ≡ length script' → SameInstructions form (union_words script script') script
  -- and at each line the facts of both.
  pub facts : (script script' : List ℕ) → length script ≡ length script' → (l : ℕ)
      → (line_at (lines_of form (union_words script script')) l).annotation
      ≡ (line_at (lines_of form script) l).annotation ∪ (line_at (lines_of form script') l).annotation
  -- Closing facts twice adds nothing.
  pub twice : (rule : List ℕ) → check_rule form rule ≡ passed tt → (F : Facts)
      → close (table_of form rule) (close (table_of form rule) F) ≡ close (table_of form rule) F
  -- More facts at a line never pass on fewer, to the target (taken) or to the next line.
  pub more : (rule : List ℕ) → check_rule form rule ≡ passed tt → (i : Instruction) (F G : Facts) (taken : Bool) → F ⊑ G
      → passed_on (table_of form rule) (record { instruction = i; annotation = F }) taken
      ⊑ passed_on (table_of form rule) (record { instruction = i; annotation = G }) taken
