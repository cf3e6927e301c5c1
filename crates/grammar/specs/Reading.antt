-- The formula of a text: its tokens in turn, over a stack of the words that wait for an operand. What is built on the way is a parameter:
-- here it is the formula, and the code builds the words of the table by the same reading. `proofs/ReadingLaws.antt` shows that what is
-- built is that of the formula which the tokens spell.
use Rattle.std.specs.Prelude.{Bool, false, cond, List, [], ◌∷◌, ℕ, suc, ◌+◌, ◌-◌, ◌*◌, leb}
use Rattle.grammar.specs.Typed.{Prefix, Operator, Comparison, equal_to, less_than, TextFormula, constant, atom, prefixed, joined}
use Rattle.grammar.specs.Grammar.{constant_word, prefix_word, operator_word, open_sign, close_sign, equal_sign, below_sign, Token, word, register, number, sign, strength, right_level}
use Rattle.grammar.specs.Scan.{tokens_of}

-- a word that waits for an operand
pub data Waiting : Type 0 where
  awaiting : Prefix → Waiting
  with_left : Operator → Waiting

-- how tight it binds what comes: prefix words bind tightest
abbrev pub level_of : Waiting → ℕ
level_of (awaiting p) = 4
level_of (with_left o) = right_level o

-- with brackets: what stands in one more of them binds tighter than all outside
abbrev pub rank : (depth level : ℕ) → ℕ
rank d l = 5 * d + l

-- What is built, a B: by the constants and atoms; by a word where it is read, which notes an N of what there is then; by a word whose
-- operand has ended.
pub record Builder (B N : Type 0) : Type 0 where
  pub truth : Bool → B → B
  pub compare : Comparison → (register number : ℕ) → B → B
  pub begin : Waiting → B → B
  pub note : B → N
  pub finish : Waiting → N → B → B

pub record Entry (N : Type 0) : Type 0 where
  pub waiting : Waiting
  pub tight : ℕ
  pub noted : N

-- the words that wait, the last one first, and what is built
pub record Built (B N : Type 0) : Type 0 where
  pub stack : List (Entry N)
  pub value : B

-- and how many brackets are open, and the register and the sign of the atom that is being read
pub record Reading (B N : Type 0) : Type 0 where
  pub built : Built B N
  pub depth : ℕ
  pub of_register : ℕ
  pub compared_by : Comparison

-- those words end which bind as tight as this, or tighter
unfoldable pub unwound : {B N : Type 0} → Builder B N → ℕ → List (Entry N) → B → Built B N
unwound b limit [] v = record { stack = []; value = v }
unwound b limit (e ∷ s) v =
    cond (leb limit e.tight) (unwound b limit s (b.finish e.waiting e.noted v)) (record { stack = e ∷ s; value = v })

-- a word waits, at this depth
abbrev pub waits : {B N : Type 0} → Builder B N → (depth : ℕ) → Waiting → Built B N → Built B N
waits b d w x = record {
  stack = record { waiting = w; tight = rank d (level_of w); noted = b.note (b.begin w x.value) } ∷ x.stack;
  value = b.begin w x.value;
}

-- a word between two formulas first ends those that bind its left operand tighter: what groups to the left binds tighter than itself
abbrev pub joining : {B N : Type 0} → Builder B N → (depth : ℕ) → Operator → Built B N → Built B N
joining b d o x = waits b d (with_left o) (unwound b (rank d (suc (strength o))) x.stack x.value)

abbrev pub replaced : {B N : Type 0} → Built B N → B → Built B N
replaced x v = record { stack = x.stack; value = v }

abbrev pub built_after : {B N : Type 0} → Builder B N → Reading B N → Token → Built B N
built_after b r (word (constant_word c)) = replaced r.built (b.truth c r.built.value)
built_after b r (word (prefix_word p)) = waits b r.depth (awaiting p) r.built
built_after b r (word (operator_word o)) = joining b r.depth o r.built
built_after b r (register n) = r.built
built_after b r (number n) = replaced r.built (b.compare r.compared_by r.of_register n r.built.value)
built_after b r (sign s) = r.built

abbrev pub depth_after : ℕ → Token → ℕ
depth_after d (word w) = d
depth_after d (register n) = d
depth_after d (number n) = d
depth_after d (sign open_sign) = suc d
depth_after d (sign close_sign) = d - 1
depth_after d (sign equal_sign) = d
depth_after d (sign below_sign) = d

abbrev pub register_after : ℕ → Token → ℕ
register_after r (word w) = r
register_after r (register n) = n
register_after r (number n) = r
register_after r (sign s) = r

abbrev pub comparison_after : Comparison → Token → Comparison
comparison_after k (word w) = k
comparison_after k (register n) = k
comparison_after k (number n) = k
comparison_after k (sign open_sign) = k
comparison_after k (sign close_sign) = k
comparison_after k (sign equal_sign) = equal_to
comparison_after k (sign below_sign) = less_than

unfoldable pub read : {B N : Type 0} → Builder B N → Reading B N → Token → Reading B N
read b r t = record {
  built = built_after b r t;
  depth = depth_after r.depth t;
  of_register = register_after r.of_register t;
  compared_by = comparison_after r.compared_by t;
}

unfoldable pub read_all : {B N : Type 0} → Builder B N → Reading B N → List Token → Reading B N
read_all b r [] = r
read_all b r (t ∷ ts) = read_all b (read b r t) ts

-- at the end all words end
unfoldable pub whole : {B N : Type 0} → Builder B N → Reading B N → B
whole b r = (unwound b 0 r.built.stack r.built.value).value

abbrev pub nothing_read : {B N : Type 0} → B → Reading B N
nothing_read v = record { built = record { stack = []; value = v }; depth = 0; of_register = 0; compared_by = equal_to }

-- ---- building the formula: an operand takes the place of what was built before it, and a word's left operand is noted

abbrev pub finished : Waiting → (left right : TextFormula) → TextFormula
finished (awaiting p) φ ψ = prefixed p ψ
finished (with_left o) φ ψ = joined o φ ψ

abbrev pub formulas : Builder TextFormula TextFormula
formulas = record { truth = λ c φ. constant c; compare = λ k r c φ. atom k r c; begin = λ w φ. φ; note = λ φ. φ; finish = finished }

-- the formula of a text that is in the grammar
unfoldable pub formula_of : List ℕ → TextFormula
formula_of bs = whole formulas (read_all formulas (nothing_read (constant false)) (tokens_of bs))
