-- Building the words of a table while a text is read (crate grammar, `specs/Reading.antt`): each word of the text puts some nodes where it
-- is read and the others where its operand has ended, so that operands come first and left before right. `proofs/BuildLaws.antt` shows
-- that they are the nodes of the opened formula.
use Rattle.std.specs.Prelude.{Bool, true, false, List, [], ◌∷◌, ◌++◌, ℕ, ◌+◌, ◌-◌, length}
use Rattle.spec.specs.Rule.{Form, Node, false_node, test_node, implies_node, since_node, weak_previous_node}
use Rattle.grammar.specs.Typed.{not, wprev, prev, once, sofar, since_word, and_word, or_word, implies_word, test_of}
use Rattle.grammar.specs.Grammar.{constant_word, prefix_word, operator_word, Token, word, register, number, sign}
use Rattle.grammar.specs.Nodes.{word_of_node}
use Rattle.grammar.specs.Reading.{Waiting, awaiting, with_left, Builder}

-- ---- nodes put behind others

abbrev pub last_of : List ℕ → ℕ
last_of ws = length ws - 1

unfoldable pub put : Form → Node → List ℕ → List ℕ
put form x ws = ws ++ word_of_node form x ∷ []

-- over the last node, and another one to its left
unfoldable pub put_implies : Form → (left : ℕ) → List ℕ → List ℕ
put_implies form l ws = put form (implies_node l (last_of ws)) ws

unfoldable pub put_since : Form → (left : ℕ) → List ℕ → List ℕ
put_since form l ws = put form (since_node l (last_of ws)) ws

unfoldable pub put_weak : Form → List ℕ → List ℕ
put_weak form ws = put form (weak_previous_node (last_of ws)) ws

-- not a is a implies false; true is false implies false
unfoldable pub put_not : Form → List ℕ → List ℕ
put_not form ws = put_implies form (last_of ws) (put form false_node ws)

unfoldable pub put_true : Form → List ℕ → List ℕ
put_true form ws = put_not form (put form false_node ws)

-- ---- what each word puts

abbrev pub put_constant : Form → Bool → List ℕ → List ℕ
put_constant form true ws = put_true form ws
put_constant form false ws = put form false_node ws

-- where it is read: true comes before the operand of once and sofar, and or negates its left operand
abbrev pub begins : Form → Waiting → List ℕ → List ℕ
begins form (awaiting not) ws = ws
begins form (awaiting wprev) ws = ws
begins form (awaiting prev) ws = ws
begins form (awaiting once) ws = put_true form ws
begins form (awaiting sofar) ws = put_true form ws
begins form (with_left since_word) ws = ws
begins form (with_left and_word) ws = ws
begins form (with_left or_word) ws = put_not form ws
begins form (with_left implies_word) ws = ws

-- where its operand has ended; the node to the left was the last one when the word was read
abbrev pub finishes : Form → Waiting → (left : ℕ) → List ℕ → List ℕ
finishes form (awaiting not) l ws = put_not form ws
finishes form (awaiting wprev) l ws = put_weak form ws
finishes form (awaiting prev) l ws = put_not form (put_weak form (put_not form ws))
finishes form (awaiting once) l ws = put_since form l ws
finishes form (awaiting sofar) l ws = put_not form (put_since form l (put_not form ws))
finishes form (with_left since_word) l ws = put_since form l ws
finishes form (with_left and_word) l ws = put_not form (put_implies form l (put_not form ws))
finishes form (with_left or_word) l ws = put_implies form l ws
finishes form (with_left implies_word) l ws = put_implies form l ws

abbrev pub words : Form → Builder (List ℕ) ℕ
words form = record {
  truth = put_constant form;
  compare = λ k r c ws. put form (test_node (test_of k r c)) ws;
  begin = begins form;
  note = last_of;
  finish = finishes form;
}

-- ---- how many nodes

abbrev pub begin_cost : Waiting → ℕ
begin_cost (awaiting not) = 0
begin_cost (awaiting wprev) = 0
begin_cost (awaiting prev) = 0
begin_cost (awaiting once) = 3
begin_cost (awaiting sofar) = 3
begin_cost (with_left since_word) = 0
begin_cost (with_left and_word) = 0
begin_cost (with_left or_word) = 2
begin_cost (with_left implies_word) = 0

abbrev pub finish_cost : Waiting → ℕ
finish_cost (awaiting not) = 2
finish_cost (awaiting wprev) = 1
finish_cost (awaiting prev) = 5
finish_cost (awaiting once) = 1
finish_cost (awaiting sofar) = 5
finish_cost (with_left since_word) = 1
finish_cost (with_left and_word) = 5
finish_cost (with_left or_word) = 1
finish_cost (with_left implies_word) = 1

-- true 3, false 1; an atom's one node counts with its number
abbrev pub token_cost : Token → ℕ
token_cost (word (constant_word true)) = 3
token_cost (word (constant_word false)) = 1
token_cost (word (prefix_word p)) = begin_cost (awaiting p) + finish_cost (awaiting p)
token_cost (word (operator_word o)) = begin_cost (with_left o) + finish_cost (with_left o)
token_cost (register n) = 0
token_cost (number n) = 1
token_cost (sign s) = 0

unfoldable pub cost : List Token → ℕ
cost [] = 0
cost (t ∷ ts) = token_cost t + cost ts
