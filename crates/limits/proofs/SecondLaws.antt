-- A rule in the second form: what is asked and told of it within limits is asked and told of the rule as it is stored.
--     second_limits, second_truth
-- Assumes nothing.
use mathlib.Core.Path.{◌≡◌}
use mathlib.Core.Bool.{Bool}
use mathlib.Core.List.{List}
use Prim.Native.Nat.{ℕ, ◌≤◌}
use lib.ListN.{length}
use Rattle.spec.specs.Rule.{rule_of}
use Rattle.spec.specs.Judging.{states_of}
use Rattle.rule.specs.Nodes.{form_in, form_by, second_form}
use Rattle.rule.proofs.SecondLaws.{second_table, second_asked}
use Rattle.intervals.specs.Limits.{truth_at, rule_truth, check_limits}

module _ (b : Bool) (rule lows highs : List ℕ) where
  pub second_limits : (out : List ℕ) → length rule ≤ (form_by b).width
      → check_limits form_in (second_form b rule) lows highs out ≡ check_limits (form_by b) rule lows highs out
  unfolding check_limits
  second_limits out few = rw (second_asked b rule few)

  pub second_truth : rule_truth form_in (second_form b rule) lows highs ≡ rule_truth (form_by b) rule lows highs
  unfolding rule_truth
  second_truth = let same = second_table b rule in λ i n. truth_at (states_of lows) (states_of highs) (rule_of (same i)) n
