-- Request 2026-05, the promise: there are largest facts, they are found, and what 19 says. It speaks of stored words and of the
-- checker's own questions, for any stored form. `proofs/LargestPromise.antt` proves it.
use Rattle.std.specs.Prelude.{◌≡◌, Bool, true, ◌⊎◌, List, [], ◌∷◌, ℕ, zero, suc, ◌+◌, ◌*◌, ◌^◌, ◌≤◌, ◌<◌, length, get_or, take, drop}
use Rattle.std.proofs.Math.Option.{some}
use Rattle.std.specs.Int.Count as bits
use Rattle.spec.specs.Questions.{passed, refused, Checked, ◌then◌}
use Rattle.spec.specs.Rule.{Form, last_node, table_of}
use Rattle.spec.specs.Script.{Code, instruction_at, is_present, bare_code}
use Rattle.spec.specs.Facts.{value_is, belongs, ◌⊑◌}
use Rattle.spec.specs.Check.{code_of, line_length, lines_of, question8, question9, question11, check_script}
use Rattle.spec.specs.Promise.{Accepted}
use Rattle.largest.specs.Notes.{notes_of, follower_of}
use Rattle.largest.specs.Largest.{check_instructions, check_found, found_words, found_count, found_answer, found_output}

-- ---- the largest notes

-- stored annotated lines that have these instructions: notes for them, an annotation a line
pub record Annotates (form : Form) (instructions lines : List ℕ) : Type 0 where
  pub whole : length lines ≡ line_length * length instructions
  pub same : code_of (lines_of form lines) ≡ bare_code instructions

-- questions 8, 9 and 11 of annotated lines, as the checker puts them
unfoldable pub check_obeying : Form → (rule lines : List ℕ) → Checked
check_obeying form rule lines =
    question8 form (table_of form rule) (lines_of form lines)
    then question9 (table_of form rule) (lines_of form lines)
    then question11 (table_of form rule) (lines_of form lines)

-- line by line, the notes of the one are in those of the other
abbrev pub Within : Form → (lines lines' : List ℕ) → Type 0
Within form lines lines' = (l : ℕ) → notes_of (lines_of form lines) l ⊑ notes_of (lines_of form lines') l

-- the largest notes for these instructions that pass a check: they pass, and any others that pass lie within them
pub record Largest (form : Form) (check : (lines : List ℕ) → Checked) (instructions lines : List ℕ) : Type 0 where
  pub annotates : Annotates form instructions lines
  pub passes : check lines ≡ passed tt
  pub holds : (others : List ℕ) → Annotates form instructions others → check others ≡ passed tt → Within form others lines

-- ---- 19

-- the last node is known to be true at line l of those found
abbrev pub KnownAt : Form → (rule instructions : List ℕ) → ℕ → Type 0
KnownAt form rule ws l = notes_of (lines_of form (found_words form rule ws)) l (value_is true) (last_node (table_of form rule)) ≡ true

-- why 19 names line p: questions 1 to 7 have a yes, p is a present whose largest facts lack T of the last node, and presents
-- before it have that
pub record Lacking (form : Form) (rule instructions : List ℕ) (p : ℕ) : Type 0 where
  pub asked : check_instructions form rule instructions ≡ passed tt
  pub is_there : p < length instructions
  pub at_present : is_present (instruction_at (bare_code instructions) p) ≡ true
  pub without : KnownAt form rule instructions p → ⊥
  pub lowest : (l : ℕ) → l < p → is_present (instruction_at (bare_code instructions) l) ≡ true → KnownAt form rule instructions l

-- ---- lines that nothing leads to, and the count

-- no line of the code leads to line l, and it is not the first
pub record Unreached (code : Code) (l : ℕ) : Type 0 where
  pub later : 0 < l
  pub is_line : l < length code
  pub no_way : (j : ℕ) (taken : Bool) → j < length code → follower_of j (instruction_at code j) taken ≡ some l → ⊥

-- the ones of some words
unfoldable pub ones_of : List ℕ → ℕ
ones_of [] = 0
ones_of (w ∷ ws) = bits.ones w + ones_of ws

-- over the seven words of each of n lines
unfoldable pub ones_over : ℕ → List ℕ → ℕ
ones_over zero ws = 0
ones_over (suc n) ws = ones_of (take 7 (drop 1 ws)) + ones_over n (drop line_length ws)

-- ---- the promise

pub record Found (form : Form) (rule instructions : List ℕ) : Type 0 where
  -- After questions 1 to 7 there are largest facts that obey questions 8, 9 and 11, and the search finds them.
  pub searched : check_instructions form rule instructions ≡ passed tt
      → Largest form (check_obeying form rule) instructions (found_words form rule instructions)
  -- Lines that nothing leads to get every fact that belongs.
  pub unreached : check_instructions form rule instructions ≡ passed tt → (l : ℕ) → Unreached (bare_code instructions) l
      → notes_of (lines_of form (found_words form rule instructions)) l ≡ belongs (table_of form rule)
  -- After questions 1 to 7 the answer is 19 or a yes.
  pub either : check_instructions form rule instructions ≡ passed tt
      → (check_found form rule instructions ≡ passed tt) ⊎ ((p : ℕ) × (check_found form rule instructions ≡ refused 19 p))
  -- 19 is given at the lowest present that they leave without T of the last node,
  pub lacking : (p : ℕ) → check_found form rule instructions ≡ refused 19 p → Lacking form rule instructions p
  -- and then no facts whatever would get these instructions accepted.
  pub hopeless : (p : ℕ) → check_found form rule instructions ≡ refused 19 p → (lines : List ℕ) → Annotates form instructions lines
      → Accepted form rule lines → ⊥
  -- Otherwise what is written is accepted, and those of any other accepted notes lie within it.
  pub largest : check_found form rule instructions ≡ passed tt
      → Largest form (check_script form rule) instructions (found_words form rule instructions)
  -- A no to questions 1 to 7 or to 19 is the answer whatever output is lent, and that stays: 13 is put after them.
  pub refuses : (q p : ℕ) → check_found form rule instructions ≡ refused q p → (out : List ℕ)
      → (found_answer form rule instructions out ≡ refused q p) × (found_output form rule instructions out ≡ out)
  -- Otherwise it succeeds if the output is large enough, and the lines stand at its start.
  pub succeeds : check_found form rule instructions ≡ passed tt → (out : List ℕ) → line_length * length instructions ≤ length out
      → (found_answer form rule instructions out ≡ passed (found_count form rule instructions))
      × (take (line_length * length instructions) (found_output form rule instructions out) ≡ found_words form rule instructions)
  -- If it is too small the answer is 13, and it stays.
  pub short : check_found form rule instructions ≡ passed tt → (out : List ℕ) → length out < line_length * length instructions
      → (found_answer form rule instructions out ≡ refused 13 0) × (found_output form rule instructions out ≡ out)
  -- The first word of each line written is the instruction given, where that has 32 bits.
  pub same_words : check_instructions form rule instructions ≡ passed tt → (l : ℕ) → l < length instructions → get_or instructions l 0 < 2 ^ 32
      → get_or (found_words form rule instructions) (line_length * l) 0 ≡ form.store_first (get_or instructions l 0)
  -- The number answered is the number of ones over the seven words of each line written.
  pub counted : check_instructions form rule instructions ≡ passed tt
      → found_count form rule instructions ≡ ones_over (length instructions) (found_words form rule instructions)
  -- Largest notes are unique, whatever they have to pass.
  pub unique : (check : (lines : List ℕ) → Checked) (a b : List ℕ) → Largest form check instructions a → Largest form check instructions b
      → lines_of form a ≡ lines_of form b
