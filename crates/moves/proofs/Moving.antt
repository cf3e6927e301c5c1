-- Request 2026-07's promise (`specs/Moved.antt`), whole: `moving : Moved`.
--     rule_same_lem, script_same_lem     a rule and a script of the old form, moved to the second, are the same
--     moving                     the promise
-- Assumes nothing.
use mathlib.Core.Path.{◌≡◌, sym, subst, ap, ◌∙◌}
use mathlib.Core.List.{List}
use Prim.Native.Nat.{ℕ, ◌^◌, ◌≤◌, ◌<◌}
use native.Mathlib.Omega.{arith}
use lib.ListN.{length, length-map, get_or-map}
use lib.Pow.{shl_lt, shr_lt}
use Rattle.spec.specs.Questions.{passed}
use Rattle.spec.specs.Rule.{form32, rule_of, check_rule}
use Rattle.moves.specs.Moves.{widen_node, narrow_node, widen_word, narrow_word, widen_rule, narrow_rule, widen_script, narrow_script, check_script_up, check_script_back}
use Rattle.moves.specs.Moved.{Bits, SameRule, SameScript, GoesBack, ScriptGoesBack, Moved}
use Rattle.spec.proofs.QuestionLaws.{then_passed}
use Rattle.spec.proofs.RuleLaws.{rule_out}
use Rattle.moves.proofs.NodeMoveLaws.{table_widen, check_widen, rule_there_lem, rule_again_lem, widen_bits, narrow_bits}
use Rattle.moves.proofs.LineMoveLaws.{word_widen, lines_widen, move_widen, script_widen, code_widen, bare_widen}
use Rattle.moves.proofs.LineBackLaws.{script_there_lem, script_again_lem}
use Rattle.moves.proofs.RunMoveLaws.{judging_widen, fresh_widen, step_widen, after_widen, running_widen}
use Rattle.moves.proofs.WovenMoveLaws.{woven_widen, weaving_widen, woven_into}
use Rattle.moves.proofs.FoundMoveLaws.{found_words_widen, found_widen, found_into}
use Rattle.moves.proofs.AnswerLaws.{back_in, back_out, script_up_out, script_back_out, back_many, script_back_many, up_answers, back_answers, script_up_answers_lem, script_back_answers_lem}

-- ---- to the second form

pub rule_same_lem : (rule : List ℕ) → length rule ≤ 32 → SameRule rule (widen_rule rule)
rule_same_lem rule few = record {
  nodes = table_widen rule;
  formula = ap rule_of (table_widen rule);
  asked = check_widen rule few;
  bare = λ bare. bare_widen rule bare few;
  words = λ allowed ws. code_widen allowed rule ws few;
  judged = λ h. judging_widen rule h few;
  fresh = fresh_widen rule few;
  weaves = λ bare out wide_out. weaving_widen rule bare out wide_out few;
  weaves_words = woven_widen rule;
  weaves_into = λ bare out. woven_into rule bare out few;
  finds = λ ws. found_widen rule ws few;
  finds_words = λ ws. found_words_widen rule ws few;
  finds_into = λ ws. found_into rule ws few;
}

pub script_same_lem : (rule script : List ℕ) → length rule ≤ 32 → SameScript rule (widen_rule rule) script (widen_script script)
script_same_lem rule script few = record {
  lines = lines_widen script;
  asked = script_widen rule script few;
  asked_to_move = move_widen rule script;
  stepped = step_widen rule few script;
  after_steps = after_widen rule few script;
  ran = running_widen rule few script;
}

-- ---- and back: what goes back is the move of what it goes back to, so all is the same

narrow_few : (rule : List ℕ) → length rule ≤ 32 → length (narrow_rule rule) ≤ 32
narrow_few rule few = omega (arith, length-map rule narrow_node)

rule_back_again : (rule : List ℕ) → Bits 64 rule → GoesBack rule → widen_rule (narrow_rule rule) ≡ rule
rule_back_again rule bits e = let (passes, few) = back_out rule e in rule_again_lem rule bits passes few

script_back_again : (rule script : List ℕ) → ScriptGoesBack rule script → widen_script (narrow_script script) ≡ script
script_back_again rule script e =
    let (back, asked) = script_back_out rule script e in
    let (passes, few) = back_out rule back in
    script_again_lem rule script passes few asked

rule_same_back_lem : (rule : List ℕ) → Bits 64 rule → GoesBack rule → SameRule (narrow_rule rule) rule
rule_same_back_lem rule bits e =
    subst (SameRule (narrow_rule rule)) (rule_back_again rule bits e) (rule_same_lem (narrow_rule rule) (narrow_few rule (back_out rule e).1))

script_same_back_lem : (rule script : List ℕ) → Bits 64 rule → ScriptGoesBack rule script → SameScript (narrow_rule rule) rule (narrow_script script) script
script_same_back_lem rule script bits e =
    let (back, asked) = script_back_out rule script e in
    subst (λ ws. SameScript (narrow_rule rule) rule (narrow_script script) ws) (script_back_again rule script e)
    (subst (λ r. SameScript (narrow_rule rule) r (narrow_script script) (widen_script (narrow_script script))) (rule_back_again rule bits back)
    (script_same_lem (narrow_rule rule) (narrow_script script) (narrow_few rule (back_out rule back).1)))

-- ---- the questions of the move back

rule_few : (rule : List ℕ) → check_rule form32 rule ≡ passed tt → length rule ≤ 32
unfolding form32
rule_few rule e = (rule_out form32 rule e).few_nodes

rule_returns_lem : (rule : List ℕ) → check_rule form32 rule ≡ passed tt → GoesBack (widen_rule rule)
rule_returns_lem rule e =
    let few = rule_few rule e in
    back_in (widen_rule rule) (check_widen rule few ∙ e) (omega (arith, length-map rule widen_node))

rule_returns_again_lem : (rule : List ℕ) → Bits 64 rule → GoesBack rule → check_rule form32 (narrow_rule rule) ≡ passed tt
rule_returns_again_lem rule bits e = sym (rule_same_back_lem rule bits e).asked ∙ (back_out rule e).0

script_returns_lem : (rule script : List ℕ) → check_script_up rule script ≡ passed tt → ScriptGoesBack (widen_rule rule) (widen_script script)
unfolding check_script_back
script_returns_lem rule script e =
    let (passes, asked) = script_up_out rule script e in
    then_passed _ _ (rule_returns_lem rule passes) ∙ move_widen rule script ∙ asked

script_returns_again_lem : (rule script : List ℕ) → Bits 64 rule → ScriptGoesBack rule script
    → check_script_up (narrow_rule rule) (narrow_script script) ≡ passed tt
unfolding check_script_up
script_returns_again_lem rule script bits e =
    let (back, asked) = script_back_out rule script e in
    then_passed _ _ (rule_returns_again_lem rule bits back) ∙ sym (script_same_back_lem rule script bits e).asked_to_move ∙ asked

-- ---- words of the form moved to

script_up_bits_lem : (script : List ℕ) → Bits 32 script → Bits 64 (widen_script script)
script_up_bits_lem script bits i h =
    subst (λ w. w < 2 ^ 64) (sym (word_widen script i)) (shl_lt 32 32 (bits i (omega (arith, length-map script widen_word))))

script_back_bits_lem : (script : List ℕ) → Bits 64 script → Bits 32 (narrow_script script)
script_back_bits_lem script bits i h =
    subst (λ w. w < 2 ^ 32) (sym (get_or-map narrow_word script i 0)) (shr_lt 32 32 (bits i (omega (arith, length-map script narrow_word))))

-- ---- the promise

pub moving : Moved
moving = record {
  rule_same = rule_same_lem;
  script_same = script_same_lem;
  rule_same_back = rule_same_back_lem;
  script_same_back = script_same_back_lem;
  rule_there = rule_there_lem;
  rule_again = rule_back_again;
  script_there = script_there_lem;
  script_again = script_back_again;
  rule_returns = rule_returns_lem;
  rule_returns_again = rule_returns_again_lem;
  script_returns = script_returns_lem;
  script_returns_again = script_returns_again_lem;
  rule_up_answers = up_answers;
  rule_back_answers = back_answers;
  script_up_answers = script_up_answers_lem;
  script_back_answers = script_back_answers_lem;
  many = λ rule passes m. (back_many rule passes m, λ script. script_back_many rule script passes m);
  rule_up_bits = widen_bits;
  rule_back_bits = λ rule e. narrow_bits rule (back_out rule e).0 (back_out rule e).1;
  script_up_bits = script_up_bits_lem;
  script_back_bits = script_back_bits_lem;
}
