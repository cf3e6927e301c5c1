-- A rule in the second form: what is asked and told of it is asked and told of the rule as it is stored.
--     second_asked, second_table, second_judging, second_few
-- Assumes nothing.
use mathlib.Core.Path.{◌≡◌, refl}
use mathlib.Core.Bool.{Bool, true, false}
use mathlib.Core.List.{List}
use Prim.Native.Nat.{ℕ, ◌≤◌}
use native.Mathlib.Omega.{arith}
use lib.ListN.{length, length-map}
use Rattle.spec.specs.Rule.{form32, form64, table_of, check_rule}
use Rattle.spec.specs.Judging.{judging}
use Rattle.moves.specs.Moves.{widen_node}
use Rattle.moves.proofs.NodeMoveLaws.{table_widen, check_widen}
use Rattle.moves.proofs.RunMoveLaws.{judging_widen}
use Rattle.rule.specs.Nodes.{form_by, second_form}

pub second_table : (b : Bool) (rule : List ℕ) → table_of form64 (second_form b rule) ≡ table_of (form_by b) rule
second_table true rule = refl
second_table false rule = table_widen rule

pub second_few : (b : Bool) (rule : List ℕ) → length rule ≤ (form_by b).width → length (second_form b rule) ≤ 64
unfolding form32 form64
second_few true rule few = few
second_few false rule few = omega (arith, length-map rule widen_node)

pub second_asked : (b : Bool) (rule : List ℕ) → length rule ≤ (form_by b).width → check_rule form64 (second_form b rule) ≡ check_rule (form_by b) rule
unfolding form32
second_asked true rule few = refl
second_asked false rule few = check_widen rule few

pub second_judging : (b : Bool) (rule h : List ℕ) → length rule ≤ (form_by b).width → judging form64 (second_form b rule) h ≡ judging (form_by b) rule h
unfolding form32
second_judging true rule h few = refl
second_judging false rule h few = judging_widen rule h few
