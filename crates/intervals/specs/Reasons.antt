-- Request 2026-11, for the program that judges a file of limits: the registers that an answer depends on. Its sentence is the issue's, not
-- document 02's; `LimitsPromise` says what depending means.
use Rattle.std.specs.Prelude.{Bool, true, false, not, ◌&&◌, ◌||◌, List, ℕ, zero, suc, eqb}
use Rattle.spec.specs.Logic.{Trace, state_at, Test, equal, below, equal_registers, Formula, never, test, implies, since, weak_previous}
use Rattle.spec.specs.Rule.{Form, table_of, rule_of}
use Rattle.spec.specs.Judging.{states_of}
use Rattle.spec.specs.Monitor.{reads}
use Rattle.intervals.specs.Limits.{Truth₃, false₃, true₃, open₃, known, over, test₃}

-- an answer, and the registers that it depends on
pub record Reason : Type 0 where
  pub truth : Truth₃
  pub registers : ℕ → Bool

-- known whatever the registers are
abbrev pub always : Bool → Reason
always b = record { truth = known b; registers = λ r. false }

-- the opposite depends on the same
abbrev pub not₃ : Truth₃ → Truth₃
not₃ false₃ = true₃
not₃ true₃ = false₃
not₃ open₃ = open₃

abbrev pub opposite : Reason → Reason
opposite a = record { truth = not₃ a.truth; registers = a.registers }

-- "or" is true where one is true, and then depends on that one, on the first where both are; false where both are false, on both; else it is
-- open, and depends on those that are open
abbrev pub or₃ : Truth₃ → Truth₃ → Truth₃
or₃ a b = over a (λ x. over b (λ y. known (x || y)))

abbrev pub or_depends : (a b : Truth₃) → (on_first on_second : Bool) → Bool
or_depends true₃ b p q = p
or_depends false₃ true₃ p q = q
or_depends open₃ true₃ p q = q
or_depends false₃ false₃ p q = p || q
or_depends open₃ open₃ p q = p || q
or_depends open₃ false₃ p q = p
or_depends false₃ open₃ p q = q

abbrev pub either : Reason → Reason → Reason
either a b = record {
  truth = or₃ a.truth b.truth;
  registers = λ r. or_depends a.truth b.truth (a.registers r) (b.registers r);
}

-- "and", the opposite of "or" of the opposites
abbrev pub and₃ : Truth₃ → Truth₃ → Truth₃
and₃ a b = not₃ (or₃ (not₃ a) (not₃ b))

abbrev pub both : Reason → Reason → Reason
both a b = opposite (either (opposite a) (opposite b))

-- a test depends on the registers that it reads; one compared with itself on none
abbrev pub test_registers : Test → ℕ → Bool
test_registers (equal a c) r = reads (equal a c) r
test_registers (below a c) r = reads (below a c) r
test_registers (equal_registers a b) r = not (eqb a b) && reads (equal_registers a b) r

-- left false or right true
abbrev pub implies_reason : (left right : Reason) → Reason
implies_reason left right = either (opposite left) right

-- right, or left and the last value
abbrev pub since_reason : (left right last : Reason) → Reason
since_reason left right last = either right (both left last)

-- at index 0 since's last value is false and weak previous is true, whatever the registers are
unfoldable pub since_reason_at : (left right : ℕ → Reason) → ℕ → Reason
since_reason_at left right zero = since_reason (left zero) (right zero) (always false)
since_reason_at left right (suc n) = since_reason (left (suc n)) (right (suc n)) (since_reason_at left right n)

unfoldable pub previous_reason_at : (left : ℕ → Reason) → ℕ → Reason
previous_reason_at left zero = always true
previous_reason_at left (suc n) = left n

unfoldable pub reason_at : (lows highs : Trace) → Formula → ℕ → Reason
reason_at lows highs never n = always false
reason_at lows highs (test a) n = record { truth = test₃ a (state_at lows n) (state_at highs n); registers = test_registers a }
reason_at lows highs (implies φ ψ) n = implies_reason (reason_at lows highs φ n) (reason_at lows highs ψ n)
reason_at lows highs (since φ ψ) n = since_reason_at (λ i. reason_at lows highs φ i) (λ i. reason_at lows highs ψ i) n
reason_at lows highs (weak_previous φ) n = previous_reason_at (λ i. reason_at lows highs φ i) n

-- the registers that the answer for the whole rule at index n depends on
unfoldable pub depends_on : Form → (rule lows highs : List ℕ) → (n : ℕ) → (r : ℕ) → Bool
depends_on form rule lows highs n = (reason_at (states_of lows) (states_of highs) (rule_of (table_of form rule)) n).registers
