-- A rule in the second form: its answers depend on what those of the rule as it is stored depend on.
--     second_put
-- Assumes nothing.
use mathlib.Core.Path.{◌≡◌, ap, ◌∙◌}
use mathlib.Core.Bool.{Bool}
use mathlib.Core.List.{List}
use Prim.Native.Nat.{ℕ}
use Rattle.spec.specs.Rule.{rule_of}
use Rattle.spec.specs.Judging.{states_of}
use Rattle.rule.specs.Nodes.{form_in, form_by, second_form}
use Rattle.rule.proofs.SecondLaws.{second_table}
use Rattle.intervals.specs.Reasons.{reason_at, depends_on}
use Rattle.reasons.specs.Written.{RegistersPut}

module _ (b : Bool) (rule lows highs : List ℕ) where
  second_depends : depends_on form_in (second_form b rule) lows highs ≡ depends_on (form_by b) rule lows highs
  unfolding depends_on
  second_depends = let same = second_table b rule in λ i n. (reason_at (states_of lows) (states_of highs) (rule_of (same i)) n).registers

  pub second_put : (table before after : List ℕ) → table ≡ second_form b rule → RegistersPut form_in table lows highs before after
      → RegistersPut (form_by b) rule lows highs before after
  second_put table before after e w = record {
    each = λ i h. w.each i h ∙ ap (λ t. depends_on form_in t lows highs i) e ∙ ap (λ f. f i) second_depends;
    rest = w.rest;
  }
