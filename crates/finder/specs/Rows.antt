-- The notes of the search as they are kept, seven words of 64 bits a line in one list, the flags of the lines, 64 in a word, and what
-- each step of the search does to them. A flag says that the line's notes changed since it was last pushed.
use Rattle.std.specs.Prelude.{◌≡◌, Bool, true, false, not, ◌⊎◌, List, [], ◌∷◌, ℕ, ◌+◌, ◌*◌, ◌/◌, ◌%◌, ◌≤◌, ◌<◌, length, get_or, set, eqb, Option as Maybe, Some, None}
use Rattle.std.proofs.Math.Option.{Option, none, some}
use Rattle.std.specs.Int.Bits.{bit_and}
use Rattle.spec.specs.Questions.{Checked, passed}
use Rattle.spec.specs.Rule.{Table}
use Rattle.spec.specs.Script.{Code, bare_code}
use Rattle.spec.specs.Facts.{Fact, word_number, Facts, ◌⊑◌, close}
use Rattle.sets.specs.Sets.{set_of}
use Rattle.largest.specs.Notes.{Notes, LargestNotes, Around, Flagged}
use Rattle.spec.specs.Check.{Lines}
use Rattle.largest.specs.Largest.{check_instructions, found_lines, question19}
use Rattle.rule.specs.Nodes.{form_in, table_in}

-- ---- what is kept

-- the facts noted at each line
abbrev pub notes_at : List ℕ → Notes
notes_at ws l f = set_of (get_or ws (7 * l + word_number f) 0)

-- whether line l has a flag
abbrev pub flag_of : List ℕ → ℕ → Bool
flag_of flags l = set_of (get_or flags (l / 64) 0) (l % 64)

-- there is a line m
pub record HasLine (m : ℕ) (notes flags : List ℕ) : Type 0 where
  pub words : 7 * m + 7 ≤ length notes
  pub flag : m / 64 < length flags

-- there are as many lines
pub record Room (lines : ℕ) (notes flags : List ℕ) : Type 0 where
  pub words : 7 * lines ≤ length notes
  pub marks : lines ≤ 64 * length flags

-- questions 1 to 7 have a yes
abbrev pub Asked : (rule instructions : List ℕ) → Type 0
Asked rule ws = check_instructions form_in rule ws ≡ passed tt

-- the lines found, and question 19
abbrev pub lines_found : (rule instructions : List ℕ) → Lines
lines_found rule ws = found_lines form_in rule ws

abbrev pub presents_asked : (rule instructions : List ℕ) → Checked
presents_asked rule ws = question19 form_in rule ws

-- the search's measure: the sum of the words
unfoldable pub total : List ℕ → ℕ
total [] = 0
total (x ∷ xs) = x + total xs

-- line l notes F, the others what they did
pub record Put (notes : List ℕ) (l : ℕ) (F : Facts) (notes' : List ℕ) : Type 0 where
  pub size : length notes' ≡ length notes
  pub at_line : notes_at notes' l ≡ F
  pub others : (m : ℕ) → (m ≡ l → ⊥) → notes_at notes' m ≡ notes_at notes m

-- line l has a flag if b, the others as they did
pub record FlagSet (flags : List ℕ) (l : ℕ) (b : Bool) (flags' : List ℕ) : Type 0 where
  pub size : length flags' ≡ length flags
  pub at_line : flag_of flags' l ≡ b
  pub others : (m : ℕ) → (m ≡ l → ⊥) → flag_of flags' m ≡ flag_of flags m

-- r is the first line with a flag, from line `start` on, or past the lines
pub record NextFlag (flags : List ℕ) (start lines r : ℕ) : Type 0 where
  pub from : start ≤ r
  pub none_before : (m : ℕ) → start ≤ m → m < r → m < lines → flag_of flags m ≡ false
  pub is_there : r < lines → flag_of flags r ≡ true

-- o is that line, if one has a flag
abbrev pub NextLine : (flags : List ℕ) (start lines : ℕ) → Maybe ℕ → Type 0
NextLine flags start lines None = (m : ℕ) → start ≤ m → m < lines → flag_of flags m ≡ false
NextLine flags start lines (Some l) = (l < lines) × NextFlag flags start lines l

-- ---- one line cut

-- word i keeps the bits that are in g; whether some went
abbrev pub met_at : List ℕ → ℕ → ℕ → List ℕ
met_at ws i g = set ws i (bit_and (get_or ws i 0) g)

abbrev pub changes_at : List ℕ → ℕ → ℕ → Bool
changes_at ws i g = not (eqb (get_or ws i 0) (bit_and (get_or ws i 0) g))

-- sizes stay, and the measure falls where something changed (r)
pub record Lessens (notes flags notes' flags' : List ℕ) (r : Bool) : Type 0 where
  pub notes_size : length notes' ≡ length notes
  pub flags_size : length flags' ≡ length flags
  pub no_more : total notes' ≤ total notes
  pub less : r ≡ true → total notes' < total notes

-- the line that follows, if one does
abbrev pub way_to : Maybe ℕ → Option ℕ
way_to None = none
way_to (Some m) = some m

-- the line o, if there is one, keeps of its notes those in G, and is flagged if some went
pub record WayDone (notes flags : List ℕ) (o : Option ℕ) (G : Facts) (notes' flags' : List ℕ) (r : Bool) : Type 0 where
  pub lessens : Lessens notes flags notes' flags' r
  pub within : (l : ℕ) → notes_at notes' l ⊑ notes_at notes l
  pub inside : (m : ℕ) → o ≡ some m → notes_at notes' m ⊑ G
  pub kept : (l : ℕ) (f : Fact) (k : ℕ) → notes_at notes l f k ≡ true → (o ≡ some l → G f k ≡ true) → notes_at notes' l f k ≡ true
  pub down : (l : ℕ) → flag_of flags' l ≡ false → flag_of flags l ≡ false
  pub unmoved : (l : ℕ) → flag_of flags' l ≡ false → notes_at notes l ⊑ notes_at notes' l
  pub same : r ≡ false → (l : ℕ) → flag_of flags' l ≡ flag_of flags l

-- ---- the search

-- what is known at every moment of the search; notes are closed, so that a line's need not be closed to be passed on
pub record Search (t : Table) (code : Code) (notes flags : List ℕ) : Type 0 where
  pub around : Around t code (notes_at notes)
  pub flagged : Flagged t code (flag_of flags) (notes_at notes)
  pub closed : (l : ℕ) → l < length code → close t (notes_at notes l) ⊑ notes_at notes l

-- after a part of the search; r: some notes changed
pub record Searched (rule instructions notes flags notes' flags' : List ℕ) (r : Bool) : Type 0 where
  pub lessens : Lessens notes flags notes' flags' r
  pub known : Search (table_in rule) (bare_code instructions) notes' flags'

-- line l was pushed: if nothing changed, its flag went down and the others stayed
pub record Pushed (rule instructions notes flags : List ℕ) (l : ℕ) (notes' flags' : List ℕ) (r : Bool) : Type 0 where
  pub searched : Searched rule instructions notes flags notes' flags' r
  pub down : r ≡ false → (m : ℕ) → (m ≡ l) ⊎ (flag_of flags m ≡ false) → flag_of flags' m ≡ false

-- the lines with a flag among the first n were pushed
pub record Swept (rule instructions notes flags notes' flags' : List ℕ) (r : Bool) (n : ℕ) : Type 0 where
  pub searched : Searched rule instructions notes flags notes' flags' r
  pub down : r ≡ false → (l : ℕ) → l < n → l < length instructions → flag_of flags' l ≡ false

-- no line has a flag
pub record Settled (rule instructions notes flags notes' flags' : List ℕ) : Type 0 where
  pub notes_size : length notes' ≡ length notes
  pub flags_size : length flags' ≡ length flags
  pub known : Search (table_in rule) (bare_code instructions) notes' flags'
  pub down : (l : ℕ) → l < length instructions → flag_of flags' l ≡ false

-- the notes found
abbrev pub LargestAt : (rule instructions notes : List ℕ) → Type 0
LargestAt rule ws notes = LargestNotes (table_in rule) (bare_code ws) (notes_at notes)
