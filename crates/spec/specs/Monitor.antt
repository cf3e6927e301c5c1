-- One step of a monitor: the value of every node now, from the registers and the priors, in rising order, and every next prior.
-- `proofs/MonitorLaws.antt` joins it to the table of kinds: `values_at`, `priors_next`.
use Rattle.std.specs.Prelude.{Bool, false, not, ◌&&◌, ◌||◌, ℕ, zero, suc, length, eqb, ltb}
use Rattle.spec.specs.Logic.{register_count, State, Test, equal, below, equal_registers, passes}
use Rattle.spec.specs.Rule.{Node, false_node, test_node, implies_node, since_node, weak_previous_node, Table, node_at, last_node}

-- the nodes that are true now, and those whose next prior is true
pub record NodeSets : Type 0 where
  pub values : ℕ → Bool
  pub priors : ℕ → Bool

-- one since step, document 000's unfolding equality, its previous the strong one: right, or left and prior
abbrev pub since_step : (left right prior : Bool) → Bool
since_step left right prior = right || left && prior

-- the value of node k, from the values of lower nodes and its prior
unfoldable pub node_value : Node → ℕ → State → (values priors : ℕ → Bool) → Bool
node_value false_node k s v p = false
node_value (test_node a) k s v p = passes a s
node_value (implies_node left right) k s v p = not (v left) || v right
node_value (since_node left right) k s v p = since_step (v left) (v right) (p k)
node_value (weak_previous_node left) k s v p = p k

-- its next prior: for since its value, for weak previous its operand's
unfoldable pub node_next : Node → Bool → (values : ℕ → Bool) → Bool
node_next false_node value v = false
node_next (test_node a) value v = false
node_next (implies_node left right) value v = false
node_next (since_node left right) value v = value
node_next (weak_previous_node left) value v = v left

-- a set, with k where b
unfoldable pub joining : (ℕ → Bool) → ℕ → Bool → ℕ → Bool
joining s k b j = s j || eqb j k && b

-- node k joins the lower nodes, with its value and its next prior
abbrev pub joined : ℕ → (value prior : Bool) → NodeSets → NodeSets
joined k value prior m = record { values = joining m.values k value; priors = joining m.priors k prior }

unfoldable pub with_node : Node → ℕ → State → (priors : ℕ → Bool) → NodeSets → NodeSets
with_node x k s p m = let value = node_value x k s m.values p in joined k value (node_next x value m.values) m

-- the nodes below n, rising
unfoldable pub moment_below : ℕ → Table → State → (priors : ℕ → Bool) → NodeSets
moment_below zero t s p = record { values = λ k. false; priors = λ k. false }
moment_below (suc k) t s p = with_node (node_at t k) k s p (moment_below k t s p)

unfoldable pub moment_of : Table → State → (priors : ℕ → Bool) → NodeSets
moment_of t s p = moment_below (length t) t s p

-- is the last node, the whole rule, true now?
abbrev pub last_true : Table → NodeSets → Bool
last_true t m = m.values (last_node t)

-- ---- the registers that a rule reads

-- does the test read register r?
abbrev pub reads : Test → ℕ → Bool
reads (equal a c) r = eqb r a
reads (below a c) r = eqb r a
reads (equal_registers a b) r = eqb r a || eqb r b

-- the same of a node
abbrev pub node_reads : Node → ℕ → Bool
node_reads false_node r = false
node_reads (test_node a) r = reads a r
node_reads (implies_node left right) r = false
node_reads (since_node left right) r = false
node_reads (weak_previous_node left) r = false

-- of some node below n
unfoldable pub read_below : ℕ → Table → ℕ → Bool
read_below zero t r = false
read_below (suc k) t r = read_below k t r || node_reads (node_at t k) r

-- of some node of the rule: a set of the 16 registers
unfoldable pub rule_reads : Table → ℕ → Bool
rule_reads t r = ltb r register_count && read_below (length t) t r
