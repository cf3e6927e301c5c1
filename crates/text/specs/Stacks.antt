-- The words of a text that wait for an operand, as they lie in an array: each with the node to its left and how many brackets were open. The
-- words of the table lie in another.
use Rattle.std.specs.Prelude.{◌≡◌, Bool, true, false, List, [], ◌∷◌, ℕ, zero, suc, ◌+◌, ◌≤◌, ◌<◌, length, get_or, take, leb}
use Rattle.rule.specs.Nodes.{form_in}
use Rattle.grammar.specs.Typed.{not, wprev, prev, once, sofar, since_word, and_word, or_word, implies_word, Comparison, equal_to, less_than}
use Rattle.grammar.specs.Reading.{Waiting, awaiting, with_left, level_of, rank, Entry, Built, unwound}
use Rattle.text.specs.declared.token.WaitingWord.{WaitingWord}
use Rattle.text.specs.declared.token.WaitingWord.TheVariants as word
use Rattle.text.specs.declared.stack.Pending.{Pending}
use Rattle.text.specs.Building.{words, finish_cost}

-- how many nodes the table has space for: as many as the form in which a rule is held allows
abbrev pub table_length : ℕ
table_length = 64

-- as many words can wait
abbrev pub stack_length : ℕ
stack_length = table_length

abbrev pub waiting_of : WaitingWord → Waiting
waiting_of word.Not = awaiting not
waiting_of word.Wprev = awaiting wprev
waiting_of word.Prev = awaiting prev
waiting_of word.Once = awaiting once
waiting_of word.Sofar = awaiting sofar
waiting_of word.Since = with_left since_word
waiting_of word.And = with_left and_word
waiting_of word.Or = with_left or_word
waiting_of word.Implies = with_left implies_word

abbrev pub entry_of : Pending → Entry ℕ
entry_of p = record { waiting = waiting_of p.word; tight = rank p.depth (level_of (waiting_of p.word)); noted = p.left }

abbrev pub no_word : Pending
no_word = record { word = word.Not; left = 0; depth = 0 }

abbrev pub entry_at : List Pending → ℕ → Entry ℕ
entry_at st k = entry_of (get_or st k no_word)

-- the first n, the last of them first
unfoldable pub stack_of : List Pending → ℕ → List (Entry ℕ)
stack_of st zero = []
stack_of st (suc k) = entry_at st k ∷ stack_of st k

abbrev pub built_of : (stack : List Pending) (top : ℕ) (table : List ℕ) (count : ℕ) → Built (List ℕ) ℕ
built_of st top table count = record { stack = stack_of st top; value = take count table }

-- how many nodes the words that wait will put
unfoldable pub owed : List (Entry ℕ) → ℕ
owed [] = 0
owed (e ∷ s) = finish_cost e.waiting + owed s

-- the nodes to their left are nodes of the table
unfoldable pub LeftSmall : List (Entry ℕ) → Type 0
LeftSmall [] = Unit {0}
LeftSmall (e ∷ s) = (e.noted < table_length) × LeftSmall s

abbrev pub comparison_of : (below : Bool) → Comparison
comparison_of true = less_than
comparison_of false = equal_to

-- the first n words of the table
pub record Holds (table : List ℕ) (n : ℕ) (ws : List ℕ) : Type 0 where
  pub words : take n table ≡ ws
  pub count : n ≡ length ws
  pub long : length table ≡ table_length

-- what is built fits: the array and the table have room for all that is put and owed
pub record Fitting (stack : List Pending) (top : ℕ) (table : List ℕ) (count : ℕ) : Type 0 where
  pub stack_long : length stack ≡ stack_length
  pub table_long : length table ≡ table_length
  pub room : count + owed (stack_of stack top) ≤ table_length
  pub left_small : LeftSmall (stack_of stack top)

-- whether the last word that waits ends
abbrev pub ends_top : (limit : ℕ) → List (Entry ℕ) → Bool
ends_top limit [] = false
ends_top limit (e ∷ s) = leb limit e.tight

-- what ends has ended
pub record Unwinds (stack : List Pending) (top : ℕ) (table : List ℕ) (count limit : ℕ) (t : ℕ) (after : List ℕ) (n : ℕ) : Type 0 where
  pub built : built_of stack t after n ≡ unwound (words form_in) limit (stack_of stack top) (take count table)
  pub fits : Fitting stack t after n
