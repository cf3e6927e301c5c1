-- The sets of a stored line, and lines written at a place of a lent output, in either form.
use Rattle.std.specs.Prelude.{◌≡◌, Bool, List, ◌∷◌, map, ℕ, ◌+◌, ◌*◌, ◌≤◌, length}
use Rattle.spec.specs.Facts.{Facts, every_fact}
use Rattle.spec.specs.Check.{Lines, line_length, nodes_in, fact_word, words_of}
use Rattle.sets.specs.Sets.{set_of}
use Rattle.rule.specs.Nodes.{form_by, over_at}

-- the set in a word of facts
abbrev pub nodes_read : (is_wide : Bool) → (word : ℕ) → ℕ → Bool
nodes_read is_wide w = nodes_in (form_by is_wide).width w

-- a set as it is stored
abbrev pub set_stored : (is_wide : Bool) → (set : ℕ) → ℕ
set_stored is_wide s = fact_word (form_by is_wide).width 0 (set_of s)

-- the words of a line whose instruction is stored as the word w
unfoldable pub stored_line : (is_wide : Bool) → (w : ℕ) → Facts → List ℕ
stored_line is_wide w F = (form_by is_wide).store_first w ∷ map (λ f. fact_word (form_by is_wide).width 0 (F f)) every_fact

-- the output has space for `count` lines from `place` on, and for one
abbrev pub Space : (place count : ℕ) → (out : List ℕ) → Type 0
Space place count out = line_length * (place + count) ≤ length out

abbrev pub LineSpace : (place : ℕ) → (out : List ℕ) → Type 0
LineSpace place out = Space place 1 out

-- these lines are written from line `place` on
abbrev pub Written : (is_wide : Bool) → (place : ℕ) → Lines → (before after : List ℕ) → Type 0
Written is_wide place ls before after = after ≡ over_at (line_length * place) (words_of (form_by is_wide) ls) before
