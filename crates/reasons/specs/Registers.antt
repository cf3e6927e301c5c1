-- What the answers of nodes at one index depend on, from what they can be and what their priors depend on. `proofs/RegisterLaws.antt` joins it to
-- `Reasons.reason_at` of crate intervals: `registers_here`, `earlier_next`.
use Rattle.std.specs.Prelude.{Bool, true, false, List, ℕ, get_or}
use Rattle.spec.specs.Rule.{Node, false_node, test_node, implies_node, since_node, weak_previous_node, Table, through}
use Rattle.sets.specs.Sets.{set_of}
use Rattle.intervals.specs.Limits.{open_if}
use Rattle.intervals.specs.Reasons as spec
use Rattle.intervals.specs.Reasons.{test_registers, implies_reason, since_reason}
use Rattle.limits.specs.Monitor.{Values, NodeValues}
use Rattle.reasons.specs.declared.reason.Reason.{Reason}

-- a set of registers: register r is bit 63 - r of its word
abbrev pub Registers : Type 0
Registers = ℕ → Bool

-- an answer from what can be, with what it depends on
abbrev pub reason_from : Values → Registers → spec.Reason
reason_from v on = record { truth = open_if (v true) (v false); registers = on }

abbrev pub reason_of : Reason → spec.Reason
reason_of a = record { truth = open_if a.yes a.no; registers = set_of a.registers }

-- of node k, from those of lower nodes and from what its prior can be and depends on
unfoldable pub node_registers : Node → ℕ → (values priors : NodeValues) → (lower earlier : ℕ → Registers) → Registers
node_registers false_node k v p on before = λ r. false
node_registers (test_node a) k v p on before = test_registers a
node_registers (implies_node l r) k v p on before = (implies_reason (reason_from (v l) (on l)) (reason_from (v r) (on r))).registers
node_registers (since_node l r) k v p on before =
    (since_reason (reason_from (v l) (on l)) (reason_from (v r) (on r)) (reason_from (p k) (before k))).registers
node_registers (weak_previous_node l) k v p on before = before k

-- of every node of a rule
unfoldable pub registers_at : Table → (values priors : NodeValues) → (earlier : ℕ → Registers) → (k : ℕ) → Registers
registers_at t v p before k = through (λ r. false) (λ on x j. node_registers x j v p on before) t k

-- the sets in some words
abbrev pub sets_in : (words : List ℕ) → ℕ → Registers
sets_in ws k = set_of (get_or ws k 0)
