-- Moves there and back, in the caller's words: what one move wrote, the other takes, and writes what was there first.
--     rule_round, rule_round_back       a rule: from the old form, and from the second
--     script_round, script_round_back   an annotated script
-- Assumes nothing.
use mathlib.Core.Path.{◌≡◌, sym, ap, ◌∙◌}
use mathlib.Core.List.{List}
use Prim.Native.Nat.{ℕ, ◌*◌, ◌/◌, ◌≤◌}
use native.Mathlib.Omega.{arith}
use lib.ListN.{length, take, length-map}
use Rattle.spec.specs.Questions.{passed}
use Rattle.spec.specs.Rule.{form32, form64}
use Rattle.moves.specs.Moves.{widen_node, narrow_node, widen_word, narrow_word, widen_rule, narrow_rule, widen_script, narrow_script, line_count, rule_up, rule_back, script_up, script_back, rule_up_output, rule_back_output, script_up_output, script_back_output}
use Rattle.moves.specs.Moved.{Bits}
use Rattle.moves.proofs.AnswerLaws.{script_up_out, script_back_out, answered, first_words, whole_lines}
use Rattle.moves.proofs.Moving.{moving}

module _ (rule out back : List ℕ) (n : ℕ) (room : n ≤ length back) where
  pub rule_round : Bits 32 rule → rule_up rule out ≡ passed n
      → let there = take n (rule_up_output rule out) in (rule_back there back ≡ passed n) × (take n (rule_back_output there back) ≡ rule)
  rule_round bits e =
      let there = widen_rule rule in
      let up = moving.rule_up_answers rule out in
      let down = moving.rule_back_answers there back in
      let (passes, _, count) = answered _ there _ _ out _ up n e in
      let size : length there ≡ n = length-map rule widen_node ∙ sym count in
      let same : length (narrow_rule there) ≡ n = length-map there narrow_node ∙ size in
      let answer : rule_back there back ≡ passed n = down.enough (moving.rule_returns rule passes) (omega arith) ∙ ap passed size in
      rw (first_words _ there _ _ out _ up n e n size) (answer, first_words _ _ _ _ back _ down n answer n same ∙ moving.rule_there rule bits)

  pub rule_round_back : Bits 64 rule → rule_back rule out ≡ passed n
      → let there = take n (rule_back_output rule out) in (rule_up there back ≡ passed n) × (take n (rule_up_output there back) ≡ rule)
  rule_round_back bits e =
      let there = narrow_rule rule in
      let down = moving.rule_back_answers rule out in
      let up = moving.rule_up_answers there back in
      let (goes, _, count) = answered _ there _ _ out _ down n e in
      let size : length there ≡ n = length-map rule narrow_node ∙ sym count in
      let same : length (widen_rule there) ≡ n = length-map there widen_node ∙ size in
      let answer : rule_up there back ≡ passed n = up.enough (moving.rule_returns_again rule bits goes) (omega arith) ∙ ap passed size in
      rw (first_words _ there _ _ out _ down n e n size) (answer, first_words _ _ _ _ back _ up n answer n same ∙ moving.rule_again rule bits goes)

module _ (rule script out back : List ℕ) (n : ℕ) (room : 8 * n ≤ length back) where
  pub script_round : script_up rule script out ≡ passed n
      → let there = take (8 * n) (script_up_output rule script out) in
      (script_back (widen_rule rule) there back ≡ passed n) × (take (8 * n) (script_back_output (widen_rule rule) there back) ≡ script)
  script_round e =
      let there = widen_script script in
      let up = moving.script_up_answers rule script out in
      let down = moving.script_back_answers (widen_rule rule) there back in
      let (asked, _, count) = answered _ there _ _ out _ up n e in
      let whole : 8 * line_count script ≡ length script = whole_lines form32 rule script (script_up_out rule script asked).1 in
      let as_long = length-map script widen_word in
      let size : length there ≡ 8 * n = omega arith in
      let lines : line_count there ≡ n = ap (λ m. m / 8) as_long ∙ sym count in
      let same : length (narrow_script there) ≡ 8 * n = length-map there narrow_word ∙ size in
      let answer : script_back (widen_rule rule) there back ≡ passed n = down.enough (moving.script_returns rule script asked) (omega arith) ∙ ap passed lines in
      rw (first_words _ there _ _ out _ up n e (8 * n) size)
      (answer, first_words _ _ _ _ back _ down n answer (8 * n) same ∙ moving.script_there script)

  pub script_round_back : Bits 64 rule → script_back rule script out ≡ passed n
      → let there = take (8 * n) (script_back_output rule script out) in
      (script_up (narrow_rule rule) there back ≡ passed n) × (take (8 * n) (script_up_output (narrow_rule rule) there back) ≡ script)
  script_round_back bits e =
      let there = narrow_script script in
      let down = moving.script_back_answers rule script out in
      let up = moving.script_up_answers (narrow_rule rule) there back in
      let (goes, _, count) = answered _ there _ _ out _ down n e in
      let whole : 8 * line_count script ≡ length script = whole_lines form64 rule script (script_back_out rule script goes).1 in
      let as_long = length-map script narrow_word in
      let size : length there ≡ 8 * n = omega arith in
      let lines : line_count there ≡ n = ap (λ m. m / 8) as_long ∙ sym count in
      let same : length (widen_script there) ≡ 8 * n = length-map there widen_word ∙ size in
      let answer : script_up (narrow_rule rule) there back ≡ passed n = up.enough (moving.script_returns_again rule script bits goes) (omega arith) ∙ ap passed lines in
      rw (first_words _ there _ _ out _ down n e (8 * n) size)
      (answer, first_words _ _ _ _ back _ up n answer (8 * n) same ∙ moving.script_again rule script goes)
