-- What a monitor works out at one index of limits: for every node, in rising order, whether it can be true and whether it can be false, and
-- the same of its next prior. `proofs/MonitorLaws.antt` joins it to the three values: `values_at`, `priors_next`.
use Rattle.std.specs.Prelude.{Bool, true, false, cond, not, ◌&&◌, ◌||◌, ℕ, zero, suc, length, eqb, ltb}
use Rattle.spec.specs.Logic.{State}
use Rattle.spec.specs.Rule.{Node, false_node, test_node, implies_node, since_node, weak_previous_node, Table, node_at}
use Rattle.spec.specs.Monitor.{since_step}
use Rattle.sets.specs.Sets.{capacity, set_of}
use Rattle.rule.specs.Monitor.{first_priors}
use Rattle.intervals.specs.Limits.{test_can}
use Rattle.limits.specs.declared.monitor.Can.{Can}
use Rattle.limits.specs.declared.monitor.Cans.{Cans}
use Rattle.limits.specs.declared.monitor.Moment.{Moment}

-- ---- one node

-- the truth values that something can have: both where it is open
abbrev pub Values : Type 0
Values = Bool → Bool

abbrev pub can_of : Can → Values
can_of x b = cond b x.yes x.no

abbrev pub none : Values
none b = false

-- left false or right true
abbrev pub implies_can : (left right : Values) → Values
implies_can l r true = l false || r true
implies_can l r false = l true && r false

-- a since step of all that can be true, and one of all that cannot be false
abbrev pub since_can : (left right prior : Values) → Values
since_can l r p true = since_step (l true) (r true) (p true)
since_can l r p false = not (since_step (not (l false)) (not (r false)) (not (p false)))

-- ---- all nodes

-- of every node; for each truth value a set of nodes
abbrev pub NodeValues : Type 0
NodeValues = ℕ → Values

abbrev pub cans_of : Cans → NodeValues
cans_of s k b = set_of (cond b s.yes s.no) k

-- the nodes now, and their next priors
pub record Now : Type 0 where
  pub values : NodeValues
  pub priors : NodeValues

abbrev pub now_of : Moment → Now
now_of m = record { values = cans_of m.values; priors = cans_of m.priors }

-- what node k can be, from what lower nodes and its prior can be
unfoldable pub node_can : Node → ℕ → (low high : State) → (values priors : NodeValues) → Values
node_can false_node k low high v p = λ b. not b
node_can (test_node a) k low high v p = test_can a low high
node_can (implies_node l r) k low high v p = implies_can (v l) (v r)
node_can (since_node l r) k low high v p = since_can (v l) (v r) (p k)
node_can (weak_previous_node l) k low high v p = p k

-- what its next prior can be: for weak previous what its operand can be, for since itself. No other node's is asked for
unfoldable pub node_next : Node → (value : Values) → (values : NodeValues) → Values
node_next false_node value v = value
node_next (test_node a) value v = value
node_next (implies_node l r) value v = value
node_next (since_node l r) value v = value
node_next (weak_previous_node l) value v = v l

-- node k joins the lower nodes
unfoldable pub joining : NodeValues → ℕ → Values → NodeValues
joining s k x j b = s j b || eqb j k && x b

unfoldable pub with_node : Node → ℕ → (low high : State) → (priors : NodeValues) → Now → Now
with_node x k low high p m =
    let value = node_can x k low high m.values p in
    record { values = joining m.values k value; priors = joining m.priors k (node_next x value m.values) }

-- the nodes below n, rising
unfoldable pub now_below : ℕ → Table → (low high : State) → (priors : NodeValues) → Now
now_below zero t low high p = record { values = λ k. none; priors = λ k. none }
now_below (suc k) t low high p = with_node (node_at t k) k low high p (now_below k t low high p)

unfoldable pub now_at : Table → (low high : State) → (priors : NodeValues) → Now
now_at t low high p = now_below (length t) t low high p

-- the priors before index 0: a weak previous can be true alone, any other node false alone; of these only since has a prior
unfoldable pub first_cans : Table → NodeValues
first_cans t k true = first_priors t k
first_cans t k false = ltb k capacity && not (first_priors t k)
