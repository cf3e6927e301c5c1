-- The table of a formula: nodes operands first, left before right, none shared (document 02, 2026-04).
-- `proofs/NodeLaws.antt` shows that it stands for the formula, `proofs/TableLaws.antt` that questions 1 to 4 let its words pass.
use Rattle.std.specs.Prelude.{List, [], ◌∷◌, ◌++◌, map, ℕ, ◌+◌, ◌-◌}
use Rattle.spec.specs.Logic.{Formula, never, test, implies, since, weak_previous}
use Rattle.spec.specs.Rule.{Form, Node, false_node, test_node, implies_node, since_node, weak_previous_node, Table, fields_of_node}

-- how many nodes
unfoldable pub size : Formula → ℕ
size never = 1
size (test a) = 1
size (implies φ ψ) = size φ + size ψ + 1
size (since φ ψ) = size φ + size ψ + 1
size (weak_previous φ) = size φ + 1

-- the last of n nodes from number k on
abbrev pub last_from : (k n : ℕ) → ℕ
last_from k n = k + n - 1

-- a node over m nodes from number k on and n nodes after them: its operands are the last of each
abbrev pub over : (ℕ → ℕ → Node) → (k m n : ℕ) → Node
over node k m n = node (last_from k m) (last_from (k + m) n)

-- the nodes of a formula, from number k on; its own node is the last
unfoldable pub nodes_from : ℕ → Formula → Table
nodes_from k never = false_node ∷ []
nodes_from k (test a) = test_node a ∷ []
nodes_from k (implies φ ψ) = nodes_from k φ ++ (nodes_from (k + size φ) ψ ++ over implies_node k (size φ) (size ψ) ∷ [])
nodes_from k (since φ ψ) = nodes_from k φ ++ (nodes_from (k + size φ) ψ ++ over since_node k (size φ) (size ψ) ∷ [])
nodes_from k (weak_previous φ) = nodes_from k φ ++ weak_previous_node (last_from k (size φ)) ∷ []

-- the word of a node, and the words of a formula's table, in a stored form
unfoldable pub word_of_node : Form → Node → ℕ
word_of_node form x = form.store_node (fields_of_node x)

unfoldable pub rule_words : Form → Formula → List ℕ
rule_words form φ = map (word_of_node form) (nodes_from 0 φ)
