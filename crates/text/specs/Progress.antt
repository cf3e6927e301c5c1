-- What is built while a text's tokens are read, in the code's arrays.
use Rattle.std.specs.Prelude.{◌≡◌, Bool, Option, Some, None, List, [], ◌∷◌, ℕ, ◌+◌, ◌≤◌, ◌<◌}
use Rattle.rule.specs.Nodes.{form_in}
use Rattle.grammar.specs.Typed.{opened}
use Rattle.grammar.specs.Grammar.{Token}
use Rattle.grammar.specs.Nodes.{size, rule_words}
use Rattle.grammar.specs.Reading.{Built, Reading, depth_after, read_all, formula_of}
use Rattle.grammar.specs.TextPromise.{AllInRange}
use Rattle.text.specs.Tokens.{tokens_in}
use Rattle.text.specs.Building.{words, cost}
use Rattle.text.specs.Stacks.{table_length, stack_of, built_of, owed, comparison_of, Holds, Fitting}
use Rattle.text.specs.declared.token.Token as token
use Rattle.text.specs.declared.stack.Pending.{Pending}
use Rattle.text.specs.declared.write.Progress.{Progress}

-- the arrays hold what is built
pub record Builds (stack : List Pending) (top : ℕ) (table : List ℕ) (count : ℕ) (x : Built (List ℕ) ℕ) : Type 0 where
  pub built : built_of stack top table count ≡ x
  pub fits : Fitting stack top table count

-- ---- one token, or a space

abbrev pub progress_at : Progress → (top count : ℕ) → Progress
progress_at p t n = record { height = record { top = t; count = n }; register = p.register; below = p.below }

abbrev pub progress_with : Progress → (register : ℕ) (below : Bool) → Progress
progress_with p n b = record { height = p.height; register = n; below = b }

abbrev pub reading_with : Progress → (depth : ℕ) → Built (List ℕ) ℕ → Reading (List ℕ) ℕ
reading_with p d x = record { built = x; depth = d; of_register = p.register; compared_by = comparison_of p.below }

abbrev pub reading_of : (stack : List Pending) (table : List ℕ) → Progress → (depth : ℕ) → Reading (List ℕ) ℕ
reading_of stack table p d = reading_with p d (built_of stack p.height.top table p.height.count)

abbrev pub depth_in : ℕ → List Token → ℕ
depth_in d [] = d
depth_in d (t ∷ ts) = depth_in (depth_after d t) ts

-- it may be taken: there is room for its nodes, and its number is in range
pub record Ready (stack : List Pending) (table : List ℕ) (p : Progress) (t : token.Token) : Type 0 where
  pub fits : Fitting stack p.height.top table p.height.count
  pub room : p.height.count + owed (stack_of stack p.height.top) + cost (tokens_in t) ≤ table_length
  pub in_range : AllInRange (tokens_in t)
  pub register : p.register ≤ 15

-- what is built after it
pub record Takes (stack : List Pending) (table : List ℕ) (p : Progress) (depth : ℕ) (t : token.Token) (stack' : List Pending) (table' : List ℕ) (r : Progress) : Type 0 where
  pub reading : reading_of stack' table' r (depth_in depth (tokens_in t)) ≡ read_all (words form_in) (reading_of stack table p depth) (tokens_in t)
  pub fits : Fitting stack' r.height.top table' r.height.count

-- ---- a whole text

-- the text's table: as many words as the opened formula has nodes; or there are more than allowed
abbrev pub TableOf : (text : List ℕ) (allowed : ℕ) (table : List ℕ) → Option ℕ → Type 0
TableOf text allowed table None = allowed < size (opened (formula_of text))
TableOf text allowed table (Some n) =
    (size (opened (formula_of text)) ≤ allowed) × Holds table n (rule_words form_in (opened (formula_of text)))
