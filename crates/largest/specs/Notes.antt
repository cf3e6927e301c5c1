-- Notes for instructions, apart from how they are stored: what questions 8, 9 and 11 ask of them, the largest, and what a program
-- knows while it searches for the largest in place. `proofs/ObeyLaws.antt` has that `Obeys` is what the checker asks of lines.
use Rattle.std.specs.Prelude.{◌≡◌, Bool, true, false, cond, ℕ, zero, suc, ◌<◌, length}
use Rattle.std.proofs.Math.Option.{Option, none, some}
use Rattle.spec.specs.Rule.{Table}
use Rattle.spec.specs.Script.{Instruction, Code, instruction_at, target_of, goes_on}
use Rattle.spec.specs.Facts.{Facts, ◌⊑◌, belongs, first_facts}
use Rattle.spec.specs.Check.{Lines, line_at, passed_on}

-- the facts noted at each line
abbrev pub Notes : Type 0
Notes = ℕ → Facts

abbrev pub notes_of : Lines → Notes
notes_of ls l = (line_at ls l).annotation

-- the line that can follow line l, by its target (taken) or as the next line
abbrev pub follower_of : ℕ → Instruction → Bool → Option ℕ
follower_of l i true = target_of i
follower_of l i false = cond (goes_on i) (some (suc l)) none

-- what line l passes on, of the facts F
abbrev pub passed_at : Table → Code → ℕ → Bool → Facts → Facts
passed_at t code l taken F = passed_on t (record { instruction = instruction_at code l; annotation = F }) taken

-- questions 8, 9 and 11 have a yes
pub record Obeys (t : Table) (code : Code) (N : Notes) : Type 0 where
  -- 8: facts only where they belong
  pub belong : (l : ℕ) → l < length code → N l ⊑ belongs t
  -- 9: line 0's facts among the first facts
  pub first : 0 < length code → N 0 ⊑ first_facts t
  -- 11: the facts noted at each following line among those passed on
  pub passes : (l m : ℕ) (taken : Bool) → l < length code → m < length code → follower_of l (instruction_at code l) taken ≡ some m
      → N m ⊑ passed_at t code l taken (N l)

-- line by line, every fact of N is in N'
abbrev pub NotesWithin : Code → Notes → Notes → Type 0
NotesWithin code N N' = (l : ℕ) → l < length code → N l ⊑ N' l

-- the largest notes that obey: they obey, and any others that obey lie within them
pub record LargestNotes (t : Table) (code : Code) (N : Notes) : Type 0 where
  pub obeys : Obeys t code N
  pub holds_all : (N' : Notes) → Obeys t code N' → NotesWithin code N' N

-- ---- the search

-- at the start: the first facts at line 0, every fact that belongs at the others
unfoldable pub start_notes : Table → Notes
start_notes t zero = first_facts t
start_notes t (suc l) = belongs t

-- the notes hold all that obey, and themselves obey questions 8 and 9
pub record Around (t : Table) (code : Code) (N : Notes) : Type 0 where
  pub holds_all : (N' : Notes) → Obeys t code N' → NotesWithin code N' N
  pub belong : (l : ℕ) → l < length code → N l ⊑ belongs t
  pub first : 0 < length code → N 0 ⊑ first_facts t

-- what each line without a flag passes on holds what is noted at its followers
pub record Flagged (t : Table) (code : Code) (flag : ℕ → Bool) (N : Notes) : Type 0 where
  pub passed : (l m : ℕ) (taken : Bool) → l < length code → m < length code → flag l ≡ false
      → follower_of l (instruction_at code l) taken ≡ some m → N m ⊑ passed_at t code l taken (N l)
