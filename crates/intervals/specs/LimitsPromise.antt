-- Request 2026-11, what is promised of the answers, in the words of Fig. 2, and what it means that one depends on some registers.
-- `proofs/LimitsLaws.antt` and `proofs/ReasonLaws.antt` prove it.
use Rattle.std.specs.Prelude.{◌≡◌, Bool, true, cond, List, ℕ, ◌≤◌, ◌<◌, length, get_or, eqb}
use Rattle.spec.specs.Logic.{Formula, register_of, state_at, Satisfies, holds}
use Rattle.spec.specs.Questions.{passed, first_failing}
use Rattle.spec.specs.Rule.{Form, table_of, rule_of}
use Rattle.spec.specs.Judging.{state_count, states_of, verdict_from, judging}
use Rattle.intervals.specs.Limits.{false₃, true₃, open₃, rule_truth, limiting, limits_output}
use Rattle.intervals.specs.Reasons.{depends_on}

abbrev pub rule_in : Form → (rule : List ℕ) → Formula
rule_in form rule = rule_of (table_of form rule)

-- an exact history within the limits
pub record Within (lows highs exact : List ℕ) : Type 0 where
  pub same_length : length exact ≡ length lows
  pub above : (i : ℕ) → get_or lows i 0 ≤ get_or exact i 0
  pub under : (i : ℕ) → get_or exact i 0 ≤ get_or highs i 0

-- what the answered bytes say of the rule
pub record LimitsRight (form : Form) (rule lows highs answers : List ℕ) : Type 0 where
  -- True or false must be right for every exact history within the limits.
  pub true_right : (n : ℕ) → n < state_count lows → get_or answers n 2 ≡ 1
      → (exact : List ℕ) → Within lows highs exact → Satisfies (states_of exact) (rule_in form rule) n
  pub false_right : (n : ℕ) → n < state_count lows → get_or answers n 2 ≡ 0
      → (exact : List ℕ) → Within lows highs exact → Satisfies (states_of exact) (rule_in form rule) n → ⊥
  -- Exact limits never give open: each answer is the rule's truth value there, ..
  pub exact_known : lows ≡ highs → (n : ℕ) → n < state_count lows → get_or answers n 2 ≡ cond (holds (states_of lows) (rule_in form rule) n) 1 0
  -- .. and the judge's verdict is the first that is not true.
  pub exact_judged : lows ≡ highs
      → judging form rule lows ≡ passed (verdict_from (state_count lows) (first_failing (state_count lows) 0 (λ n. eqb (get_or answers n 2) 1)))

-- whatever the rule, the limits and the output, if the judging is not refused
abbrev pub LimitsKept : Form → Type 0
LimitsKept form = (rule lows highs out : List ℕ) (n : ℕ) → limiting form rule lows highs out ≡ passed n
    → LimitsRight form rule lows highs (limits_output form rule lows highs out)

-- ---- the registers that an answer depends on

-- register r at index i of a stored history
abbrev pub register_at : List ℕ → (i r : ℕ) → ℕ
register_at ws i r = register_of (state_at (states_of ws) i) r

-- limits that are in order and lie within others
pub record Narrower (lows highs lows' highs' : List ℕ) : Type 0 where
  pub above : (i r : ℕ) → register_at lows i r ≤ register_at lows' i r
  pub order : (i r : ℕ) → register_at lows' i r ≤ register_at highs' i r
  pub under : (i r : ℕ) → register_at highs' i r ≤ register_at highs i r

-- the answer at index n depends on the registers of a set, at the indices up to n, and on no others
pub record Depends (form : Form) (rule lows highs : List ℕ) (n : ℕ) (on : ℕ → Bool) : Type 0 where
  -- A breach is one whatever the other registers were, ..
  pub false_stays : rule_truth form rule lows highs n ≡ false₃ → (exact : List ℕ)
      → ((i r : ℕ) → i ≤ n → on r ≡ true → (register_at lows i r ≤ register_at exact i r) × (register_at exact i r ≤ register_at highs i r))
      → Satisfies (states_of exact) (rule_in form rule) n → ⊥
  -- .. and so is true.
  pub true_stays : rule_truth form rule lows highs n ≡ true₃ → (exact : List ℕ)
      → ((i r : ℕ) → i ≤ n → on r ≡ true → (register_at lows i r ≤ register_at exact i r) × (register_at exact i r ≤ register_at highs i r))
      → Satisfies (states_of exact) (rule_in form rule) n
  -- Open it stays, whatever more is known of others, until more is known of one of these.
  pub open_stays : rule_truth form rule lows highs n ≡ open₃ → (lows' highs' : List ℕ) → Narrower lows highs lows' highs'
      → ((i r : ℕ) → i ≤ n → on r ≡ true → (register_at lows' i r ≡ register_at lows i r) × (register_at highs' i r ≡ register_at highs i r))
      → rule_truth form rule lows' highs' n ≡ open₃

-- whatever the rule and the limits
abbrev pub DependsKept : Form → Type 0
DependsKept form = (rule lows highs : List ℕ) (n : ℕ) → Depends form rule lows highs n (depends_on form rule lows highs n)
