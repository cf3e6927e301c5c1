-- Tables that the weaver looks things up in: how many lines deciding each node takes, and where bare lines start.
use Rattle.std.specs.Prelude.{◌≡◌, List, ℕ, ◌*◌, ◌<◌, length, get_or}
use Rattle.spec.specs.Questions.{passed}
use Rattle.spec.specs.Rule.{is_shared}
use Rattle.spec.specs.Script.{bare_code}
use Rattle.spec.specs.Weaver.{decide_size, block_size, start_of, check_weaving}
use Rattle.sets.specs.Sets.{set_of}
use Rattle.rule.specs.Nodes.{form_in, table_in, RulePasses}

-- `shared` has the rule's shared nodes
abbrev pub Shared : (rule : List ℕ) (shared : ℕ) → Type 0
Shared rule shared = set_of shared ≡ is_shared (table_in rule)

-- the rule is accepted, and `sizes` has how many lines deciding a mention of each node takes
abbrev pub Sized : (rule sizes : List ℕ) → Type 0
Sized rule sizes =
    RulePasses rule × ((k : ℕ) → k < length rule → get_or sizes k 0 ≡ decide_size (table_in rule) k)

-- the starts of how many lines apart are kept: between two of them lines are counted
abbrev pub interval : ℕ
interval = 16

-- the weaver takes the rule and the bare script
abbrev pub Weavable : (rule bare : List ℕ) → Type 0
Weavable rule bare = check_weaving form_in rule bare ≡ passed tt

-- it does, a block has `size` lines, and `starts` has where every 16th bare line starts
pub record Started (rule bare starts : List ℕ) (size : ℕ) : Type 0 where
  pub weavable : Weavable rule bare
  pub block_is : size ≡ block_size (table_in rule)
  pub start_is : (j : ℕ) → interval * j < length bare → get_or starts j 0 ≡ start_of (table_in rule) (bare_code bare) (interval * j)
