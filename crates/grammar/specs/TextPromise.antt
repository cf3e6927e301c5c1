-- What is promised of rules typed as text (document 02, 2026-04), for any stored form. `proofs/TextLaws.antt` proves it.
use Rattle.std.specs.Prelude.{◌≡◌, ◌↔◌, Bool, false, List, [], ◌∷◌, ◌++◌, ℕ, suc, ◌≤◌, ◌<◌, length}
use Rattle.spec.specs.Logic.{Trace, Satisfies, largest_value}
use Rattle.spec.specs.Questions.{passed, refused}
use Rattle.spec.specs.Rule.{Form, table_of, rule_of, check_rule}
use Rattle.spec.specs.Judging.{Verdict, breach, clean, verdict_on}
use Rattle.grammar.specs.Typed.{TextFormula, constant, atom, prefixed, joined, Means, opened}
use Rattle.grammar.specs.Grammar.{Token, word, register, number, sign, Writes, IsText, StuckAt}
use Rattle.grammar.specs.Nodes.{size}
use Rattle.grammar.specs.Texting.{texting}

-- ---- numbers in range: registers at most 15, constants at most 16,383

abbrev pub InRange : TextFormula → Type 0
InRange (constant c) = Unit {0}
InRange (atom k r c) = (r ≤ 15) × (c ≤ largest_value)
InRange (prefixed p φ) = InRange φ
InRange (joined o φ ψ) = InRange φ × InRange ψ

abbrev pub TokenInRange : Token → Type 0
TokenInRange (word w) = Unit {0}
TokenInRange (register n) = n ≤ 15
TokenInRange (number n) = n ≤ largest_value
TokenInRange (sign s) = Unit {0}

abbrev pub AllInRange : List Token → Type 0
AllInRange [] = Unit {0}
AllInRange (t ∷ ts) = TokenInRange t × AllInRange ts

-- the first digit of a token that starts at place k: a register has its r before it
abbrev pub first_digit_of : Token → (k : ℕ) → ℕ
first_digit_of (word w) k = k
first_digit_of (register n) k = suc k
first_digit_of (number n) k = k
first_digit_of (sign s) k = k

-- 17: an out_of_range number at its first byte. The tokens before it are in range, and it is not. (`touching` as in `Writes`.)
pub record OutOfRangeAt (touching : Bool) (bs : List ℕ) (i : ℕ) : Type 0 where
  pub before : List ℕ
  pub after : List ℕ
  pub bytes : bs ≡ before ++ after
  pub lower : List Token
  pub lower_written : Writes touching before lower
  pub lower_fit : AllInRange lower
  pub numeral : Token
  pub higher : List Token
  pub beside : Bool
  pub rest_written : Writes beside after (numeral ∷ higher)
  pub out : TokenInRange numeral → ⊥
  pub place : i ≡ first_digit_of numeral (length before)

-- ---- the table of a text

-- a verdict on a history, in the words of the text
abbrev pub Judged : Trace → TextFormula → Verdict → Type 0
Judged σ φ (breach i) = (i < length σ) × (Means σ φ i → ⊥) × ((j : ℕ) → j < i → Means σ φ j)
Judged σ φ (clean n) = (n ≡ length σ) × ((j : ℕ) → j < n → Means σ φ j)

pub record TableFor (form : Form) (φ : TextFormula) (ws : List ℕ) : Type 0 where
  -- it has as many nodes as the opened formula, and questions 1 to 4 let it pass
  pub nodes : length ws ≡ size (opened φ)
  pub accepted : check_rule form ws ≡ passed tt
  -- it stands for the opened formula
  pub rule : rule_of (table_of form ws) ≡ opened φ
  -- the text and its table get the same verdict on every history
  pub verdict : (σ : Trace) → Judged σ φ (verdict_on (table_of form ws) σ)

-- ---- the promise

pub record TextPromise (form : Form) : Type 0 where
  -- the derived words mean what document 000 says, as they are opened
  pub meaning : (σ : Trace) (φ : TextFormula) (n : ℕ) → Means σ φ n ↔ Satisfies σ (opened φ) n
  -- a text spells one formula
  pub one : (bs : List ℕ) (φ ψ : TextFormula) → IsText bs φ → IsText bs ψ → φ ≡ ψ
  -- a text outside the grammar is refused with 16,
  pub outside : (bs : List ℕ) → ((φ : TextFormula) → IsText bs φ → ⊥) → (lent : ℕ) → (i : ℕ) × (texting form lent bs ≡ refused 16 i)
  -- which stands at the first byte that no continuation could follow, or at the length where it ends too soon; there is one such place
  pub stuck : (bs : List ℕ) (lent i : ℕ) → texting form lent bs ≡ refused 16 i → StuckAt bs i
  pub stuck_once : (bs : List ℕ) (i j : ℕ) → StuckAt bs i → StuckAt bs j → i ≡ j
  -- a text with a number out of range is refused with 17, which stands at the first such number's first byte
  pub beyond : (bs : List ℕ) (φ : TextFormula) → IsText bs φ → (InRange φ → ⊥) → (lent : ℕ) → (i : ℕ) × (texting form lent bs ≡ refused 17 i)
  pub out_of_range : (bs : List ℕ) (lent i : ℕ) → texting form lent bs ≡ refused 17 i → OutOfRangeAt false bs i
  -- 18: more nodes than the rule's stored form allows; 13: too few words in the output
  pub too_many : (bs : List ℕ) (φ : TextFormula) → IsText bs φ → InRange φ → form.width < size (opened φ)
      → (lent : ℕ) → texting form lent bs ≡ refused 18 0
  pub too_few : (bs : List ℕ) (φ : TextFormula) → IsText bs φ → InRange φ → size (opened φ) ≤ form.width
      → (lent : ℕ) → lent < size (opened φ) → texting form lent bs ≡ refused 13 0
  -- else a table is written, and what is written is the text's table
  pub written : (bs : List ℕ) (φ : TextFormula) → IsText bs φ → InRange φ → size (opened φ) ≤ form.width
      → (lent : ℕ) → size (opened φ) ≤ lent → (ws : List ℕ) × (texting form lent bs ≡ passed ws)
  pub table : (bs : List ℕ) (lent : ℕ) (ws : List ℕ) → texting form lent bs ≡ passed ws
      → (φ : TextFormula) × IsText bs φ × TableFor form φ ws × (length ws ≤ lent)
