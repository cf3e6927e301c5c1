-- The questions of judging within limits, in turn.
--     in_order, all_are, order_yes, none_above, one_above          question 23
--     low_length_no, high_length_no, lengths_no, room_no, lengths_yes, lengths_same     what is asked of the lengths
--     limits_are                                                   the two groups after the rule's questions are the request's order
-- Assumes nothing.
use mathlib.Core.Path.{◌≡◌, sym, ap, ◌∙◌}
use mathlib.Core.Bool.{Bool, true, ◌&&◌}
use mathlib.Core.List.{List}
use native.Mathlib.Omega.{arith}
use Prim.Native.Nat.{ℕ, ◌/◌, ◌%◌, ◌≤◌, ◌<◌}
use lib.ListN.{length, get_or}
use lib.Dec.{eqb, leb}
use borrow.Author.Tests.{eqb-true, eq-eqb, ne_eqb, le-leb, lt-leb}
use Rattle.std.proofs.lemmas.Slice.Zip.{length-zip, get_or-zip}
use Rattle.std.specs.List.{fold, zip}
use Rattle.spec.specs.Questions.{passed, refused, ◌then◌, all_below}
use Rattle.spec.specs.Rule.{Form, check_rule}
use Rattle.spec.specs.Judging.{question14, question15}
use Rattle.spec.proofs.QuestionLaws.{then_passed, then_refused, both_passed, then_assoc, once_in, once_no, once_out, ask_in, below_out, scanned_up, scan_no}
use Rattle.intervals.specs.Limits.{question22, question13, question23, check_limits}
use Rattle.rule.proofs.NumberLaws.{fold_below}
use Rattle.limits.specs.Questions.{check_lengths, check_values, InOrder, FirstAbove}

-- what 23 asks of position i
abbrev pub in_order : (lows highs : List ℕ) → ℕ → Bool
in_order lows highs i = leb (get_or lows i 0) (get_or highs i 0)

module _ (lows highs : List ℕ) (same : length lows ≡ length highs) where
  pairs : length (zip lows highs) ≡ length lows
  pairs = omega (arith, length-zip lows highs)

  pair_at : (k : ℕ) → k < length lows → get_or (zip lows highs) k (0, 0) ≡ (get_or lows k 0, get_or highs k 0)
  pair_at k h = get_or-zip lows highs k (0, 0) h (omega arith)

  pub all_are : (b : Bool) → b ≡ fold (λ b (p : ℕ × ℕ). b && leb p.0 p.1) true (zip lows highs) → b ≡ all_below (length lows) (in_order lows highs)
  all_are b e =
      fold_below (λ (p : ℕ × ℕ). leb p.0 p.1) (0, 0) (zip lows highs) (in_order lows highs)
      (λ k h. ap (λ (p : ℕ × ℕ). leb p.0 p.1) (pair_at k (omega (arith, pairs)))) b e
      ∙ ap (λ n. all_below n (in_order lows highs)) pairs

module _ (lows highs : List ℕ) where
  ordered_at : (n : ℕ) → InOrder lows highs n → (k : ℕ) → k < n → in_order lows highs k ≡ true
  ordered_at n w k h = le-leb (get_or lows k 0) (get_or highs k 0) (w k h)

  pub none_above : InOrder lows highs (length lows) → passed tt ≡ question23 lows highs
  unfolding question23
  none_above w = sym (ask_in 23 (length lows) (in_order lows highs) (ordered_at (length lows) w))

  pub one_above : (i : ℕ) → FirstAbove lows highs i → refused 23 i ≡ question23 lows highs
  unfolding question23
  one_above i w =
      scan_no 23 (length lows) (in_order lows highs) i w.0 (lt-leb (get_or lows i 0) (get_or highs i 0) w.1)
      (scanned_up (in_order lows highs) (length lows) i (let h = w.0 in omega arith) (ordered_at i w.2))

pub order_yes : (lows highs : List ℕ) → all_below (length lows) (in_order lows highs) ≡ true → passed tt ≡ question23 lows highs
unfolding question23
order_yes lows highs e = sym (ask_in 23 (length lows) (in_order lows highs) (below_out (length lows) (in_order lows highs) e))

-- ---- the lengths

module _ (lows highs out : List ℕ) where
  pub low_length_no : (length lows % 16 ≡ 0 → ⊥) → refused 14 0 ≡ check_lengths lows highs out
  unfolding check_lengths question14
  low_length_no n = sym (then_refused (question14 lows) _ 14 0 (once_no 14 _ (ne_eqb _ 0 n)))

  module _ (low-whole : length lows % 16 ≡ 0) where
    low_yes : question14 lows ≡ passed tt
    unfolding question14
    low_yes = once_in 14 _ (eq-eqb _ 0 low-whole)

    pub high_length_no : (length highs % 16 ≡ 0 → ⊥) → refused 14 0 ≡ check_lengths lows highs out
    unfolding check_lengths question14
    high_length_no n = sym (then_passed (question14 lows) _ low_yes ∙ then_refused (question14 highs) _ 14 0 (once_no 14 _ (ne_eqb _ 0 n)))

    module _ (high-whole : length highs % 16 ≡ 0) where
      high_yes : question14 highs ≡ passed tt
      unfolding question14
      high_yes = once_in 14 _ (eq-eqb _ 0 high-whole)

      after_whole : check_lengths lows highs out ≡ (question22 lows highs then question13 lows out)
      unfolding check_lengths
      after_whole = then_passed (question14 lows) _ low_yes ∙ then_passed (question14 highs) _ high_yes

      pub lengths_no : (length lows ≡ length highs → ⊥) → refused 22 0 ≡ check_lengths lows highs out
      unfolding question22
      lengths_no n = sym (after_whole ∙ then_refused (question22 lows highs) _ 22 0 (once_no 22 _ (ne_eqb (length lows) (length highs) n)))

      module _ (same : length lows ≡ length highs) where
        after_same : check_lengths lows highs out ≡ question13 lows out
        unfolding question22
        after_same = after_whole ∙ then_passed (question22 lows highs) _ (once_in 22 _ (eq-eqb (length lows) (length highs) same))

        pub room_no : length out < length lows / 16 → refused 13 0 ≡ check_lengths lows highs out
        unfolding question13
        room_no h = sym (after_same ∙ once_no 13 _ (lt-leb (length lows / 16) (length out) h))

        pub lengths_yes : length lows / 16 ≤ length out → passed tt ≡ check_lengths lows highs out
        unfolding question13
        lengths_yes h = sym (after_same ∙ once_in 13 _ (le-leb (length lows / 16) (length out) h))

-- a yes says that they are equal
pub lengths_same : (lows highs out : List ℕ) → check_lengths lows highs out ≡ passed tt → length lows ≡ length highs
unfolding check_lengths question22
lengths_same lows highs out e =
    let (q₁, e₁) = both_passed (question14 lows) _ tt e in
    let (q₂, e₂) = both_passed (question14 highs) _ tt e₁ in
    eqb-true (length lows) (length highs) (once_out 22 (eqb (length lows) (length highs)) (both_passed (question22 lows highs) _ tt e₂).0)

-- ---- the order

pub limits_are : (form : Form) (rule lows highs out : List ℕ)
    → (check_rule form rule then check_lengths lows highs out then check_values lows highs) ≡ check_limits form rule lows highs out
unfolding check_lengths check_values check_limits
limits_are form rule lows highs out =
    let v = question15 lows then question15 highs then question23 lows highs in
    ap (λ a. check_rule form rule then a)
    (then_assoc (question14 lows) (question14 highs then question22 lows highs then question13 lows out) v
    ∙ ap (λ a. question14 lows then a)
    (then_assoc (question14 highs) (question22 lows highs then question13 lows out) v
    ∙ ap (λ a. question14 highs then a) (then_assoc (question22 lows highs) (question13 lows out) v)))
