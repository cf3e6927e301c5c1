-- What reading a text answers, in either stored form.
use Rattle.std.specs.Prelude.{◌≡◌, Bool, false, cond, List, ℕ, ◌≤◌, length, take, Result}
use Rattle.spec.specs.Questions.{Answer, passed, refused}
use Rattle.spec.specs.Rule.{Form}
use Rattle.grammar.specs.Typed.{TextFormula}
use Rattle.grammar.specs.Grammar.{IsText, StuckAt}
use Rattle.grammar.specs.TextPromise.{OutOfRangeAt, TableFor}
use Rattle.grammar.specs.Texting.{texting, count_of}
use Rattle.moves.specs.Moves.{narrow_rule}
use Rattle.rule.specs.Answers.{counted_of}
use Rattle.rule.specs.Nodes.{form_in}
use Rattle.rule.specs.declared.answer.Refusal.{Refusal}

-- what an answer tells whoever typed the text
pub record Tells (form : Form) (text : List ℕ) (a : Answer ℕ) (out : List ℕ) : Type 0 where
  -- a count: the first words of the output are the table of the formula that the text spells
  pub table : (n : ℕ) → a ≡ passed n → (φ : TextFormula) × IsText text φ × TableFor form φ (take n out)
  -- 16: no continuation could follow this byte, or the text ends too soon
  pub stuck : (i : ℕ) → a ≡ refused 16 i → StuckAt text i
  -- 17: the first number out of range has its first digit here
  pub out_of_range : (i : ℕ) → a ≡ refused 17 i → OutOfRangeAt false text i

-- the answer of any form that allows so many nodes, where so many words are lent; after a count the table starts with the words in the form
-- in which a rule is held
pub record Fills (text : List ℕ) (allowed lent : ℕ) (table : List ℕ) (r : Result ℕ Refusal) : Type 0 where
  pub answer : (form : Form) → form.width ≡ allowed → counted_of r ≡ count_of (texting form lent text)
  pub inside : (n : ℕ) → counted_of r ≡ passed n → n ≤ length table
  pub words : (n : ℕ) → counted_of r ≡ passed n → texting form_in lent text ≡ passed (take n table)

-- a rule of the second form in one of the two
abbrev pub stored_as : (is_wide : Bool) → (rule : List ℕ) → List ℕ
stored_as is_wide rule = cond is_wide rule (narrow_rule rule)
