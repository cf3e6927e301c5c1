-- Cases of request 2026-11 by computation, one table with one theorem each, and its promise for document 01's stored form and 2026-07's.
--     limits_cases                    what is answered, and the lent output after it
--     depends_cases                   the registers that answers depend on
--     limits_kept32, limits_kept64, depends_kept32, depends_kept64
-- Assumes nothing.
use mathlib.Core.Path.{◌≡◌, refl}
use mathlib.Core.Bool.{true, false}
use mathlib.Core.List.{List, [], ◌∷◌, ◌++◌, map}
use Prim.Native.Nat.{ℕ}
use Rattle.spec.specs.Questions.{Answer, passed, refused}
use Rattle.spec.specs.Rule.{form32, form64}
use Rattle.spec.proofs.Compute.{everything}
use Rattle.spec.proofs.Cases.{since_rule, weak_rule, state}
use Rattle.intervals.specs.Limits.{test_can, since_at, previous_at, truth_at, rule_truth, question22, question13, question23, check_limits, limiting, bytes_for, limits_output}
use Rattle.intervals.specs.Reasons.{since_reason_at, previous_reason_at, reason_at, depends_on}
use Rattle.intervals.specs.LimitsPromise.{LimitsKept, DependsKept}
use Rattle.intervals.proofs.LimitsLaws.{limits_kept, depends_kept}

-- ---- rules

-- register 1 = 1, implies it
abbrev itself_rule : List ℕ
itself_rule = 0x22000800 ∷ 0x60000000 ∷ []

-- register 1 = register 1; register 1 = register 2
abbrev same_register : List ℕ
same_register = 0xc2000800 ∷ []

abbrev two_registers : List ℕ
two_registers = 0xc2001000 ∷ []

-- ---- answers

pub record Case : Type 0 where
  pub rule : List ℕ
  pub lows : List ℕ
  pub highs : List ℕ
  pub out : List ℕ
  pub answer : Answer ℕ
  pub after : List ℕ

abbrev case : (rule lows highs out : List ℕ) → Answer ℕ → (after : List ℕ) → Case
case rule lows highs out answer after = record { rule = rule; lows = lows; highs = highs; out = out; answer = answer; after = after }

abbrev Right : Case → Type 0
Right c = (limiting form32 c.rule c.lows c.highs c.out ≡ c.answer) × (limits_output form32 c.rule c.lows c.highs c.out ≡ c.after)

abbrev AllRight : List Case → Type 0
AllRight [] = Unit {0}
AllRight (c ∷ cs) = Right c × AllRight cs

pub cases : List Case
cases =
    -- a since that may have started: open, open by its last value, open by both, false; later bytes stay
    case since_rule (state 0 0 ++ state 1 0 ++ state 0 0 ++ state 0 0) (state 0 1 ++ state 1 0 ++ state 1 0 ++ state 0 0) (9 ∷ 9 ∷ 9 ∷ 9 ∷ 9 ∷ [])
    (passed 4) (2 ∷ 2 ∷ 2 ∷ 0 ∷ 9 ∷ [])
    -- exact limits
    ∷ case since_rule (state 0 1 ++ state 1 0 ++ state 0 0) (state 0 1 ++ state 1 0 ++ state 0 0) (9 ∷ 9 ∷ 9 ∷ []) (passed 3) (1 ∷ 1 ∷ 0 ∷ [])
    -- each operand by itself: open implies open is open, though it is one node
    ∷ case itself_rule (state 0 0) (state 1 0) (9 ∷ []) (passed 1) (2 ∷ [])
    -- a register always equals itself; two: ranges apart, ranges that meet, both exact and equal
    ∷ case same_register (state 0 0) (state 9 0) (9 ∷ []) (passed 1) (1 ∷ [])
    ∷ case two_registers (state 0 5 ++ state 0 4 ++ state 3 3) (state 4 9 ++ state 4 9 ++ state 3 3) (9 ∷ 9 ∷ 9 ∷ []) (passed 3) (0 ∷ 2 ∷ 1 ∷ [])
    -- weak previous is true at index 0, and then what its operand was
    ∷ case weak_rule (state 0 0 ++ state 0 0) (state 1 0 ++ state 0 0) (9 ∷ 9 ∷ []) (passed 2) (1 ∷ 2 ∷ [])
    ∷ case since_rule [] [] (9 ∷ []) (passed 0) (9 ∷ [])
    -- the refusals, each before the next
    ∷ case [] (0 ∷ []) [] [] (refused 1 0) []
    ∷ case since_rule (0 ∷ []) (state 0 0) [] (refused 14 0) []
    ∷ case since_rule (state 0 0) (0 ∷ []) [] (refused 14 0) []
    ∷ case since_rule (state 0 0) (state 0 0 ++ state 0 0) [] (refused 22 0) []
    ∷ case since_rule (state 16384 0) (state 0 0) [] (refused 13 0) []
    ∷ case since_rule (state 0 16384) (state 16384 0) (9 ∷ []) (refused 15 2) (9 ∷ [])
    ∷ case since_rule (state 5 0) (state 4 16384) (9 ∷ []) (refused 15 2) (9 ∷ [])
    ∷ case since_rule (state 5 6) (state 4 5) (9 ∷ []) (refused 23 1) (9 ∷ [])
    ∷ []

pub limits_cases : AllRight cases
unfolding everything cases test_can since_at previous_at truth_at rule_truth question22 question13 question23 check_limits limiting bytes_for limits_output
limits_cases = (
  (refl, refl),
  ((refl, refl), ((refl, refl), ((refl, refl), ((refl, refl), ((refl, refl), ((refl, refl), ((refl, refl), ((refl, refl), ((refl, refl), ((refl, refl), ((refl, refl), ((refl, refl), ((refl, refl), ((refl, refl), tt)))))))))))))),
)

-- ---- the registers that the first case's answers depend on, of registers 0, 1 and 2: on the one that may have started it; on that alone, the
-- other being exact; on both; on both, for either could have kept it true

abbrev lows : List ℕ
lows = state 0 0 ++ state 1 0 ++ state 0 0 ++ state 0 0

abbrev highs : List ℕ
highs = state 0 1 ++ state 1 0 ++ state 1 0 ++ state 0 0

pub depends_cases : map (λ n. map (depends_on form32 since_rule lows highs n) (0 ∷ 1 ∷ 2 ∷ [])) (0 ∷ 1 ∷ 2 ∷ 3 ∷ [])
    ≡ (false ∷ false ∷ true ∷ []) ∷ (false ∷ false ∷ true ∷ []) ∷ (false ∷ true ∷ true ∷ []) ∷ (false ∷ true ∷ true ∷ []) ∷ []
unfolding everything test_can since_reason_at previous_reason_at reason_at depends_on
depends_cases = refl

-- ---- the promise

-- document 01's stored form
pub limits_kept32 : LimitsKept form32
limits_kept32 = limits_kept form32

pub depends_kept32 : DependsKept form32
depends_kept32 = depends_kept form32

-- 2026-07's
pub limits_kept64 : LimitsKept form64
limits_kept64 = limits_kept form64

pub depends_kept64 : DependsKept form64
depends_kept64 = depends_kept form64
