-- Request 2026-11, dials known only within limits: at each index the answer is true, false or open; the questions; the output.
use Rattle.std.specs.Prelude.{Bool, true, false, not, ◌&&◌, ◌||◌, List, [], ◌∷◌, ◌++◌, ℕ, zero, suc, length, get_or, drop, eqb, ltb, leb}
use Rattle.spec.specs.Logic.{State, Trace, register_of, state_at, Test, equal, below, equal_registers, Formula, never, test, implies, since, weak_previous}
use Rattle.spec.specs.Questions.{Answer, passed, refused, Checked, ◌then◌, ask, ask_once}
use Rattle.spec.specs.Rule.{Form, table_of, rule_of, check_rule}
use Rattle.spec.specs.Monitor.{since_step}
use Rattle.spec.specs.Judging.{state_count, states_of, question14, question15}

-- ---- three values

-- at each index the answer is true, false or open
pub data Truth₃ : Type 0 where
  false₃ true₃ open₃ : Truth₃

-- a truth value that is known
abbrev pub known : Bool → Truth₃
known true = true₃
known false = false₃

-- can what is answered so be b?
abbrev pub can : Truth₃ → Bool → Bool
can false₃ true = false
can false₃ false = true
can true₃ true = true
can true₃ false = false
can open₃ b = true

-- open where both results can be
abbrev pub open_if : (can_be_true can_be_false : Bool) → Truth₃
open_if true true = open₃
open_if true false = true₃
open_if false b = false₃

-- an operand that has any of the values that it can have, taken by itself: open unless they all force the same result
abbrev pub over : (operand : Truth₃) → (Bool → Truth₃) → Truth₃
over false₃ f = f false
over true₃ f = f true
over open₃ f = open_if (can (f true) true || can (f false) true) (can (f true) false || can (f false) false)

-- ---- tests

-- does the result b of a test lie within its limits, each register being its low to its high?
unfoldable pub test_can : Test → (low high : State) → (b : Bool) → Bool
-- register = constant
test_can (equal r c) low high true = leb (register_of low r) c && leb c (register_of high r)
test_can (equal r c) low high false = not (eqb (register_of low r) c && eqb (register_of high r) c)
-- register < constant
test_can (below r c) low high true = ltb (register_of low r) c
test_can (below r c) low high false = leb c (register_of high r)
-- register = register: one always equals itself; two are not equal if their ranges are apart, and are if both are exact and equal
test_can (equal_registers r q) low high true =
    eqb r q || leb (register_of low r) (register_of high q) && leb (register_of low q) (register_of high r)
test_can (equal_registers r q) low high false =
    not (eqb r q || eqb (register_of low r) (register_of high r) && eqb (register_of low q) (register_of high q)
    && eqb (register_of low r) (register_of low q))

-- a test is open when both results lie within its limits
abbrev pub test₃ : Test → (low high : State) → Truth₃
test₃ a low high = open_if (test_can a low high true) (test_can a low high false)

-- ---- implies, since and weak previous follow document 01, with open where neither result is forced by their operands' values, each
-- taken by itself, and, for since, its own last value

-- left false or right true
abbrev pub implies₃ : (left right : Truth₃) → Truth₃
implies₃ left right = over left (λ l. over right (λ r. known (not l || r)))

-- right, or left and the last value
abbrev pub since₃ : (left right last : Truth₃) → Truth₃
since₃ left right last = over left (λ l. over right (λ r. over last (λ p. known (since_step l r p))))

-- since at n, from its operands at every index: at index 0 its last value is false
unfoldable pub since_at : (left right : ℕ → Truth₃) → ℕ → Truth₃
since_at left right zero = since₃ (left zero) (right zero) false₃
since_at left right (suc n) = since₃ (left (suc n)) (right (suc n)) (since_at left right n)

-- weak previous at n: at index 0 it is true
unfoldable pub previous_at : (left : ℕ → Truth₃) → ℕ → Truth₃
previous_at left zero = true₃
previous_at left (suc n) = left n

-- the answer for a formula at index n, where the registers at each index are known within limits
unfoldable pub truth_at : (lows highs : Trace) → Formula → ℕ → Truth₃
truth_at lows highs never n = false₃
truth_at lows highs (test a) n = test₃ a (state_at lows n) (state_at highs n)
truth_at lows highs (implies φ ψ) n = implies₃ (truth_at lows highs φ n) (truth_at lows highs ψ n)
truth_at lows highs (since φ ψ) n = since_at (λ i. truth_at lows highs φ i) (λ i. truth_at lows highs ψ i) n
truth_at lows highs (weak_previous φ) n = previous_at (λ i. truth_at lows highs φ i) n

-- the same of stored words: the whole rule at index n
unfoldable pub rule_truth : Form → (rule lows highs : List ℕ) → ℕ → Truth₃
rule_truth form rule lows highs n = truth_at (states_of lows) (states_of highs) (rule_of (table_of form rule)) n

-- ---- questions

-- 22: are the two lists of equal length?
unfoldable pub question22 : (lows highs : List ℕ) → Checked
question22 lows highs = ask_once 22 (eqb (length lows) (length highs))

-- 13: an output byte for each index?
unfoldable pub question13 : (lows out : List ℕ) → Checked
question13 lows out = ask_once 13 (leb (state_count lows) (length out))

-- 23: is no lowest above its highest?
unfoldable pub question23 : (lows highs : List ℕ) → Checked
question23 lows highs = ask 23 (length lows) (λ i. leb (get_or lows i 0) (get_or highs i 0))

-- it refuses, after the rule's questions and in this order: 14 for the lows, then the highs; two lists of unequal length with 22; too
-- few output bytes with 13; 15 for the lows, then the highs; a lowest above its highest with 23
unfoldable pub check_limits : Form → (rule lows highs out : List ℕ) → Checked
check_limits form rule lows highs out =
    check_rule form rule then question14 lows then question14 highs then question22 lows highs then question13 lows out
    then question15 lows then question15 highs then question23 lows highs

-- ---- the answer

-- else it answers the number of indices
unfoldable pub limiting : Form → (rule lows highs out : List ℕ) → Answer ℕ
limiting form rule lows highs out = check_limits form rule lows highs out then passed (state_count lows)

-- the answers are bytes, 0 false, 1 true, 2 open
abbrev pub byte_of : Truth₃ → ℕ
byte_of false₃ = 0
byte_of true₃ = 1
byte_of open₃ = 2

-- one an index, for each index below n
unfoldable pub bytes_for : (ℕ → Truth₃) → (n : ℕ) → List ℕ
bytes_for f zero = []
bytes_for f (suc n) = bytes_for f n ++ (byte_of (f n) ∷ [])

-- in a lent output whose later bytes stay; refusals change no lent buffer
abbrev pub answers_for : (ℕ → Truth₃) → Answer ℕ → (out : List ℕ) → List ℕ
answers_for f (passed n) out = bytes_for f n ++ drop n out
answers_for f (refused q i) out = out

unfoldable pub limits_output : Form → (rule lows highs out : List ℕ) → List ℕ
limits_output form rule lows highs out = answers_for (rule_truth form rule lows highs) (limiting form rule lows highs out) out
