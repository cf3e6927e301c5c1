-- What is settled before lines are written: that they are lines of a script, and that the output has space for them. Line `base` of the script
-- is the first of the output.
use Rattle.std.specs.Prelude.{◌≡◌, Bool, List, ℕ, ◌+◌, ◌-◌, ◌<◌, ◌≤◌, length}
use Rattle.spec.specs.Questions.{count}
use Rattle.spec.specs.Rule.{node_at, last_node, is_past}
use Rattle.spec.specs.Script.{most_lines}
use Rattle.spec.specs.Weaver.{decide_size, update_size, work_size, updates_size, block_size}
use Rattle.rule.specs.Nodes.{table_in}
use Rattle.facts.specs.Written.{Space}
use Rattle.layout.specs.Layout.{Shared, Sized, Weavable, Started}
use Rattle.sets.specs.Sets.{set_of}
use Rattle.weaver.specs.Parts.{past_nodes, deciding_size}

-- node k can be decided at `place` towards two lines, and the output has space for its code
pub record Deciding (rule sizes : List ℕ) (shared : ℕ) (own : Bool) (k base place on_true on_false : ℕ) (out : List ℕ) : Type 0 where
  pub sized : Sized rule sizes
  pub shared_is : Shared rule shared
  pub is_node : k < length rule
  pub true_line : on_true < most_lines
  pub false_line : on_false < most_lines
  pub in_script : place + deciding_size own (table_in rule) k ≤ most_lines
  pub from_base : base ≤ place
  pub in_output : Space (place - base) (deciding_size own (table_in rule) k) out

-- a past node's code can be written at `place`, before another line, and the output has space for it
pub record Updating (rule sizes : List ℕ) (shared : ℕ) (k base place : ℕ) (out : List ℕ) : Type 0 where
  pub sized : Sized rule sizes
  pub shared_is : Shared rule shared
  pub is_node : k < length rule
  pub in_script : place + update_size (table_in rule) (node_at (table_in rule) k) < most_lines
  pub from_base : base ≤ place
  pub in_output : Space (place - base) (update_size (table_in rule) (node_at (table_in rule) k)) out

-- so can the code of any node
pub record Working (rule sizes : List ℕ) (shared : ℕ) (k base place : ℕ) (out : List ℕ) : Type 0 where
  pub sized : Sized rule sizes
  pub shared_is : Shared rule shared
  pub is_node : k < length rule
  pub in_script : place + work_size (table_in rule) k < most_lines
  pub from_base : base ≤ place
  pub in_output : Space (place - base) (work_size (table_in rule) k) out

-- the rest of a since node's code, after deciding right, can be written at `place`, before another line
pub record Ending (rule sizes : List ℕ) (shared : ℕ) (k left right base place : ℕ) (out : List ℕ) : Type 0 where
  pub sized : Sized rule sizes
  pub shared_is : Shared rule shared
  pub is_node : k < length rule
  pub lower : (left < k) × (right < k)
  pub in_script : place + 2 + decide_size (table_in rule) left + 3 < most_lines
  pub from_base : base ≤ place
  pub in_output : Space (place - base) (2 + decide_size (table_in rule) left + 3) out

-- the code of all nodes with a work bit can be written at `place`, before another line, into the start of the output
pub record Updatable (rule sizes : List ℕ) (shared : ℕ) (place : ℕ) (out : List ℕ) : Type 0 where
  pub sized : Sized rule sizes
  pub shared_is : Shared rule shared
  pub in_script : place + updates_size (length rule) (table_in rule) < most_lines
  pub in_output : Space 0 (updates_size (length rule) (table_in rule)) out

-- the rest of a block can be written at `place`; `end` is a line
pub record Guarding (rule sizes : List ℕ) (shared : ℕ) (base place end : ℕ) (out : List ℕ) : Type 0 where
  pub sized : Sized rule sizes
  pub shared_is : Shared rule shared
  pub end_line : end < most_lines
  pub in_script : place + decide_size (table_in rule) (last_node (table_in rule)) < most_lines
  pub from_base : base ≤ place
  pub in_output : Space (place - base) (decide_size (table_in rule) (last_node (table_in rule)) + (1 + count is_past (table_in rule))) out

-- a block can be written at `place`, before another line, into the start of the output
pub record Blocking (rule sizes : List ℕ) (shared : ℕ) (place : ℕ) (out : List ℕ) : Type 0 where
  pub sized : Sized rule sizes
  pub shared_is : Shared rule shared
  pub in_script : place + block_size (table_in rule) < most_lines
  pub in_output : Space 0 (block_size (table_in rule)) out

-- the weaver takes the script, a block has `size` lines, and the nodes' sizes and groups are known
pub record Laying (rule bare sizes : List ℕ) (size shared past : ℕ) : Type 0 where
  pub sized : Sized rule sizes
  pub shared_is : Shared rule shared
  pub past_is : set_of past ≡ past_nodes (table_in rule)
  pub weavable : Weavable rule bare
  pub block_is : size ≡ block_size (table_in rule)

-- and where bare lines start
pub record Weaving (rule bare sizes starts : List ℕ) (size shared past : ℕ) : Type 0 where
  pub sized : Sized rule sizes
  pub shared_is : Shared rule shared
  pub past_is : set_of past ≡ past_nodes (table_in rule)
  pub started : Started rule bare starts size
