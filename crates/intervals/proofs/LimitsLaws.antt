-- The promise of judging within limits (`specs/LimitsPromise.antt`).
--     exact                        where both limits are one history, the answer is its truth value
--     number_at, trace_within      stored histories within stored limits
--     length_bytes, byte_at        the answered bytes
--     limits_kept, depends_kept    the promise, for any stored form
-- Assumes nothing.
use mathlib.Core.Path.{◌≡◌, refl, sym, ap, ap₂, ◌∙◌}
use mathlib.Core.Logic.{inl, inr}
use mathlib.Core.Bool.{Bool, true, false, cond}
use mathlib.Core.List.{List, [], ◌∷◌, ◌++◌}
use Prim.Native.Nat.{ℕ, zero, suc, ◌+◌, ◌*◌, ◌≤◌, ◌<◌}
use native.Mathlib.Omega.{arith}
use lib.ListN.{length, get_or, take, drop, length-append, length-take, get_or-append, get_or-eq_default}
use lib.Seq.{get_or-take, get_or-drop, get_or_at}
use lib.Dec.{eqb, leb}
use borrow.Author.Tests.{eqb-true, leb-true}
use native.Mathlib.Nat.{le_refl}
use mathlib.Core.Option.{Option, some}
use Rattle.spec.specs.Logic.{Trace, state_at, register_of, Formula, never, test, implies, since, weak_previous, Satisfies, holds}
use Rattle.spec.specs.Questions.{passed, first_failing}
use Rattle.spec.specs.Rule.{Form, check_rule}
use Rattle.spec.specs.Judging.{state_count, states_of, question14, question15, first_false, verdict_from, verdict_on, judging}
use Rattle.spec.proofs.BoolLaws.{clash, le_or_lt}
use Rattle.spec.proofs.LogicLaws.{agrees, since_first, since_next, weak_first, weak_next}
use Rattle.spec.proofs.JudgingLaws.{length_states, state_at_lem}
use Rattle.spec.proofs.QuestionLaws.{then_passed, both_passed, once_out}
use Rattle.intervals.specs.Limits.{Truth₃, false₃, true₃, open₃, known, implies₃, since₃, since_at, previous_at, truth_at, rule_truth, question22, question13, question23, check_limits, limiting, byte_of, bytes_for, answers_for, limits_output}
use Rattle.intervals.specs.Reasons.{depends_on}
use Rattle.intervals.specs.LimitsPromise.{rule_in, Within, LimitsRight, LimitsKept, register_at, DependsKept}
use Rattle.intervals.proofs.TruthLaws.{step_first, implies_known, since_known}
use Rattle.intervals.proofs.TestLaws.{Between, test_known}
use Rattle.intervals.proofs.ReasonLaws.{reason_truth, settled, keeps}

-- ---- exact limits

module _ (σ : Trace) where
  since_exact : (φ ψ : Formula) → ((n : ℕ) → truth_at σ σ φ n ≡ known (holds σ φ n)) → ((n : ℕ) → truth_at σ σ ψ n ≡ known (holds σ ψ n))
      → (n : ℕ) → truth_at σ σ (since φ ψ) n ≡ known (holds σ (since φ ψ) n)
  unfolding truth_at since_at
  since_exact φ ψ l r zero =
      (λ i. since₃ (l 0 i) (r 0 i) (known false)) ∙ since_known (holds σ φ 0) (holds σ ψ 0) false
      ∙ ap known (step_first (holds σ φ 0) (holds σ ψ 0) ∙ sym (since_first σ φ ψ))
  since_exact φ ψ l r (suc n) =
      let last = since_exact φ ψ l r n in
      (λ i. since₃ (l (suc n) i) (r (suc n) i) (last i)) ∙ since_known (holds σ φ (suc n)) (holds σ ψ (suc n)) (holds σ (since φ ψ) n)
      ∙ ap known (sym (since_next σ φ ψ n))

  weak_exact : (φ : Formula) → ((n : ℕ) → truth_at σ σ φ n ≡ known (holds σ φ n)) → (n : ℕ) → truth_at σ σ (weak_previous φ) n ≡ known (holds σ (weak_previous φ) n)
  unfolding truth_at previous_at
  weak_exact φ l zero = ap known (sym (weak_first σ φ))
  weak_exact φ l (suc n) = l n ∙ ap known (sym (weak_next σ φ n))

  pub exact : (φ : Formula) (n : ℕ) → truth_at σ σ φ n ≡ known (holds σ φ n)
  unfolding truth_at holds
  exact never n = refl
  exact (test a) n = test_known a (state_at σ n)
  exact (implies φ ψ) n = ap₂ implies₃ (exact φ n) (exact ψ n) ∙ implies_known (holds σ φ n) (holds σ ψ n)
  exact (since φ ψ) n = since_exact φ ψ (λ i. exact φ i) (λ i. exact ψ i) n
  exact (weak_previous φ) n = weak_exact φ (λ i. exact φ i) n

-- ---- stored histories

-- register r at index i of a stored history is one of its numbers, or 0 past them
pub number_at : (ws : List ℕ) (i r : ℕ) → i < state_count ws → r < 16 → register_at ws i r ≡ get_or ws (16 * i + r) 0
number_at ws i r h l =
    ap (λ s. register_of s r) (state_at_lem (state_count ws) ws i h) ∙ get_or-take 16 (drop (16 * i) ws) r 0 l ∙ get_or-drop (16 * i) ws r 0

none_past : (ws : List ℕ) (i r : ℕ) → state_count ws ≤ i → register_at ws i r ≡ 0
none_past ws i r h = ap (λ s. register_of s r) (get_or-eq_default (states_of ws) [] (let e = length_states (state_count ws) ws in omega arith))

none_above : (ws : List ℕ) (i r : ℕ) → i < state_count ws → 16 ≤ r → register_at ws i r ≡ 0
none_above ws i r h l =
    ap (λ s. register_of s r) (state_at_lem (state_count ws) ws i h)
    ∙ get_or-eq_default (take 16 (drop (16 * i) ws)) 0 (let e = length-take 16 (drop (16 * i) ws) in omega arith)

-- number by number, so register by register
pub in_order : (ws vs : List ℕ) → length ws ≡ length vs → ((i : ℕ) → get_or ws i 0 ≤ get_or vs i 0) → (i r : ℕ) → register_at ws i r ≤ register_at vs i r
in_order ws vs same w i r =
    elim (le_or_lt (state_count ws) i) [
      | inl h ↦
          let a = none_past ws i r h in
          omega arith
      | inr h ↦ elim (le_or_lt 16 r) [
        | inl l ↦
            let a = none_above ws i r h l in
            omega arith
        | inr l ↦
            let a = number_at ws i r h l in
            let b = number_at vs i r (omega arith) l in
            omega (arith, w (16 * i + r))
      ]
    ]

module _ (lows highs ws : List ℕ) (same : length lows ≡ length highs) (w : Within lows highs ws) where
  pub trace_within : (i r : ℕ) → Between (state_at (states_of lows) i) (state_at (states_of highs) i) (state_at (states_of ws) i) r
  trace_within i r = (
    in_order lows ws (sym w.same_length) w.above i r,
    in_order ws highs (w.same_length ∙ same) w.under i r,
  )

-- ---- the bytes

pub length_bytes : (f : ℕ → Truth₃) (n : ℕ) → length (bytes_for f n) ≡ n
unfolding bytes_for
length_bytes f zero = refl
length_bytes f (suc n) = let e = length_bytes f n in omega (arith, length-append (bytes_for f n) (byte_of (f n) ∷ []))

pub byte_at : (f : ℕ → Truth₃) (n i : ℕ) → i < n → (d : ℕ) → get_or (bytes_for f n) i d ≡ byte_of (f i)
unfolding bytes_for
byte_at f zero i h d = absurd (omega arith)
byte_at f (suc n) i h d =
    elim (le_or_lt n i) [
      | inl l ↦ let z : i ≡ n = omega arith in ap (λ j. get_or (bytes_for f n ++ (byte_of (f n) ∷ [])) j d) z
          ∙ get_or_at (bytes_for f n) (byte_of (f n)) [] d n (length_bytes f n) ∙ ap (λ j. byte_of (f j)) (sym z)
      | inr l ↦ get_or-append (bytes_for f n) (byte_of (f n) ∷ []) d i (let e = length_bytes f n in omega arith) ∙ byte_at f n i l d
    ]

one_true : (v : Truth₃) → byte_of v ≡ 1 → v ≡ true₃
one_true false₃ e = absurd (omega arith)
one_true true₃ e = refl
one_true open₃ e = absurd (omega arith)

zero_false : (v : Truth₃) → byte_of v ≡ 0 → v ≡ false₃
zero_false false₃ e = refl
zero_false true₃ e = absurd (omega arith)
zero_false open₃ e = absurd (omega arith)

byte_known : (b : Bool) → byte_of (known b) ≡ cond b 1 0
byte_known true = refl
byte_known false = refl

one_known : (b : Bool) → eqb (byte_of (known b)) 1 ≡ b
one_known true = refl
one_known false = refl

first_same : (n i : ℕ) (f g : ℕ → Bool) → ((k : ℕ) → i ≤ k → k < i + n → f k ≡ g k) → first_failing n i f ≡ first_failing n i g
unfolding first_failing
first_same zero i f g h = refl
first_same (suc n) i f g h =
    go (f i) (g i) (h i (le_refl i) (omega arith)) (first_same n (suc i) f g (λ k a b. h k (omega arith) (omega arith)))
  where
    go : (a b : Bool) → a ≡ b → first_failing n (suc i) f ≡ first_failing n (suc i) g
        → ◌≡◌ {A = Option ℕ} (elim a as (λ x. Option ℕ) [ true ↦ first_failing n (suc i) f | false ↦ some i ])
        (elim b as (λ x. Option ℕ) [ true ↦ first_failing n (suc i) g | false ↦ some i ])
    go true true e r = r
    go true false e r = clash {b = true} refl e
    go false true e r = clash e refl
    go false false e r = refl

-- ---- the questions

-- every one has a yes
pub record Asked (form : Form) (rule lows highs out : List ℕ) : Type 0 where
  pub rule_yes : check_rule form rule ≡ passed tt
  pub lows_whole : question14 lows ≡ passed tt
  pub highs_whole : question14 highs ≡ passed tt
  pub same_length : length lows ≡ length highs
  pub room : state_count lows ≤ length out
  pub lows_small : question15 lows ≡ passed tt
  pub highs_small : question15 highs ≡ passed tt
  pub ordered : question23 lows highs ≡ passed tt

pub asked_out : (form : Form) (rule lows highs out : List ℕ) → check_limits form rule lows highs out ≡ passed tt → Asked form rule lows highs out
unfolding check_limits question22 question13
asked_out form rule lows highs out e =
    let (rule_yes, e₁) = both_passed (check_rule form rule) _ tt e in
    let (lows_whole, e₂) = both_passed (question14 lows) _ tt e₁ in
    let (highs_whole, e₃) = both_passed (question14 highs) _ tt e₂ in
    let (q₂₂, e₄) = both_passed (question22 lows highs) _ tt e₃ in
    let (q₁₃, e₅) = both_passed (question13 lows out) _ tt e₄ in
    let (lows_small, e₆) = both_passed (question15 lows) _ tt e₅ in
    let (highs_small, ordered) = both_passed (question15 highs) _ tt e₆ in
    record {
      rule_yes = rule_yes;
      lows_whole = lows_whole;
      highs_whole = highs_whole;
      same_length = eqb-true (length lows) (length highs) (once_out 22 (eqb (length lows) (length highs)) q₂₂);
      room = leb-true (state_count lows) (length out) (once_out 13 (leb (state_count lows) (length out)) q₁₃);
      lows_small = lows_small;
      highs_small = highs_small;
      ordered = ordered;
    }

-- ---- an answer that is known

module _ (form : Form) (rule lows highs ws : List ℕ) (n : ℕ) where
  -- the registers that it depends on are enough
  known_right : (b : Bool) → rule_truth form rule lows highs n ≡ known b
      → ((i r : ℕ) → i ≤ n → depends_on form rule lows highs n r ≡ true → Between (state_at (states_of lows) i) (state_at (states_of highs) i) (state_at (states_of ws) i) r)
      → holds (states_of ws) (rule_in form rule) n ≡ b
  unfolding rule_truth depends_on
  known_right b e h =
      settled (states_of lows) (states_of highs) (states_of ws) (rule_in form rule) n b (reason_truth (states_of lows) (states_of highs) (rule_in form rule) n ∙ e) (λ r d i l. h i r l d)

  true_means : holds (states_of ws) (rule_in form rule) n ≡ true → Satisfies (states_of ws) (rule_in form rule) n
  true_means e = (agrees (states_of ws) (rule_in form rule) n).0 e

  false_means : holds (states_of ws) (rule_in form rule) n ≡ false → Satisfies (states_of ws) (rule_in form rule) n → ⊥
  false_means e s = clash ((agrees (states_of ws) (rule_in form rule) n).1 s) e

-- ---- the promise

pub depends_kept : (form : Form) → DependsKept form
unfolding rule_truth depends_on
depends_kept form rule lows highs n = record {
  false_stays = λ e ws w. false_means form rule lows highs ws n (known_right form rule lows highs ws n false e w);
  true_stays = λ e ws w. true_means form rule lows highs ws n (known_right form rule lows highs ws n true e w);
  open_stays = λ e ls hs w h.
      (keeps (states_of lows) (states_of highs) (states_of ls) (states_of hs) w.above w.order w.under (rule_in form rule) n).open_still
      (reason_truth (states_of lows) (states_of highs) (rule_in form rule) n ∙ e) (λ r d i l. h i r l d);
}

module _ (form : Form) (rule lows highs out : List ℕ) (n : ℕ) (e : limiting form rule lows highs out ≡ passed n) where
  asked : Asked form rule lows highs out
  unfolding limiting
  asked = asked_out form rule lows highs out (both_passed (check_limits form rule lows highs out) (passed (state_count lows)) n e).0

  count_is : n ≡ state_count lows
  unfolding limiting
  count_is = let d = (both_passed (check_limits form rule lows highs out) (passed (state_count lows)) n e).1 in cc

  abbrev answers : List ℕ
  answers = limits_output form rule lows highs out

  answer_at : (i : ℕ) → i < state_count lows → get_or answers i 2 ≡ byte_of (rule_truth form rule lows highs i)
  unfolding limits_output
  answer_at i h =
      let f : ℕ → Truth₃ = rule_truth form rule lows highs in
      ap (λ a. get_or (answers_for f a out) i 2) e
      ∙ get_or-append (bytes_for f n) (drop n out) 2 i (let l = length_bytes f n in let c = count_is in omega arith)
      ∙ byte_at f n i (let c = count_is in omega arith) 2

  -- the verdict of exact limits
  judged : lows ≡ highs
      → judging form rule lows ≡ passed (verdict_from (state_count lows) (first_failing (state_count lows) 0 (λ i. eqb (get_or answers i 2) 1)))
  unfolding judging verdict_on first_false rule_truth
  judged z =
      let σ = states_of lows in
      let φ = rule_in form rule in
      then_passed (check_rule form rule) _ asked.rule_yes ∙ then_passed (question14 lows) _ asked.lows_whole ∙ then_passed (question15 lows) _ asked.lows_small
      ∙ ap (λ k. passed (verdict_from k (first_failing k 0 (λ i. holds σ φ i)))) (length_states (state_count lows) lows)
      ∙ ap (λ o. passed (verdict_from (state_count lows) o)) (first_same (state_count lows) 0 (λ i. holds σ φ i) (λ i. eqb (get_or answers i 2) 1) (λ i a b.
      let b' : i < state_count lows = omega arith in
      sym (ap (λ x. eqb x 1) (answer_at i b') ∙ ap (λ hs. eqb (byte_of (truth_at σ (states_of hs) φ i)) 1) (sym z) ∙ ap (λ v. eqb (byte_of v) 1) (exact σ φ i) ∙ one_known (holds σ φ i))))

  pub right : LimitsRight form rule lows highs answers
  unfolding rule_truth
  right = record {
    true_right = λ i h d ws w. true_means form rule lows highs ws i
        (known_right form rule lows highs ws i true (one_true (rule_truth form rule lows highs i) (sym (answer_at i h) ∙ d)) (λ j r l on. trace_within lows highs ws asked.same_length w j r));
    false_right = λ i h d ws w. false_means form rule lows highs ws i
        (known_right form rule lows highs ws i false (zero_false (rule_truth form rule lows highs i) (sym (answer_at i h) ∙ d)) (λ j r l on. trace_within lows highs ws asked.same_length w j r));
    exact_known = λ z i h. answer_at i h
        ∙ ap (λ hs. byte_of (truth_at (states_of lows) (states_of hs) (rule_in form rule) i)) (sym z) ∙ ap byte_of (exact (states_of lows) (rule_in form rule) i)
        ∙ byte_known (holds (states_of lows) (rule_in form rule) i);
    exact_judged = judged;
  }

pub limits_kept : (form : Form) → LimitsKept form
limits_kept form rule lows highs out n e = right form rule lows highs out n e
