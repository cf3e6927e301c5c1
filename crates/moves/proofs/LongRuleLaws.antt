-- A rule of the old form with more than 32 words, which no move takes and no array of moved words has to hold: whatever is asked, the answer is 1.
--     words_many, script_many          questions 1 to 7 of one word a line; 1 to 11
--     judging_many, running_many       a judging, a run
--     weaving_many, found_many         weaving, finding facts; the output stays
--     up_many, script_up_many          the moves
-- Assumes nothing.
use mathlib.Core.Path.{◌≡◌, ap}
use mathlib.Core.Bool.{Bool}
use mathlib.Core.List.{List}
use Prim.Native.Nat.{ℕ, ◌<◌}
use lib.ListN.{length}
use Rattle.spec.specs.Questions.{refused}
use Rattle.spec.specs.Rule.{form32, check_rule}
use Rattle.spec.specs.Judging.{judging}
use Rattle.spec.specs.Script.{bare_opcode, annotated_opcode, check_words, check_bare}
use Rattle.spec.specs.Check.{check_script}
use Rattle.spec.specs.Machine.{running}
use Rattle.spec.specs.Weaver.{woven, check_weaving, weaving, output_for, output_after}
use Rattle.largest.specs.Largest.{check_instructions, check_found, found_words, found_answer, found_output}
use Rattle.moves.specs.Moves.{check_script_up, rule_up, script_up}
use Rattle.spec.proofs.QuestionLaws.{then_refused}
use Rattle.moves.proofs.NodeMoveLaws.{check_many}

module _ (rule : List ℕ) (many : 32 < length rule) where
  abbrev no : check_rule form32 rule ≡ refused 1 0
  no = check_many rule many

  pub words_many : (allowed : ℕ → Bool) (ws : List ℕ) → check_words form32 allowed rule ws ≡ refused 1 0
  words_many allowed ws = then_refused (check_rule form32 rule) _ 1 0 no

  pub script_many : (ws : List ℕ) → check_script form32 rule ws ≡ refused 1 0
  unfolding check_script
  script_many ws = then_refused (check_rule form32 rule) _ 1 0 no

  pub judging_many : (history : List ℕ) → judging form32 rule history ≡ refused 1 0
  unfolding judging
  judging_many history = then_refused (check_rule form32 rule) _ 1 0 no

  pub running_many : (ws inputs : List ℕ) (budget : ℕ) (lent : List ℕ) → running form32 rule ws inputs budget lent ≡ refused 1 0
  unfolding running
  running_many ws inputs budget lent = then_refused (check_script form32 rule ws) _ 1 0 (script_many ws)

  pub weaving_many : (bare out : List ℕ) → (weaving form32 rule bare out ≡ refused 1 0) × (output_after form32 rule bare out ≡ out)
  unfolding weaving check_weaving check_bare output_after
  weaving_many bare out =
      let asked : check_weaving form32 rule bare ≡ refused 1 0 = then_refused (check_bare form32 rule bare) _ 1 0 (words_many bare_opcode bare) in
      let answer : weaving form32 rule bare out ≡ refused 1 0 = then_refused (check_weaving form32 rule bare) _ 1 0 asked in
      (answer, ap (λ a. output_for (woven form32 rule bare) a out) answer)

  pub found_many : (ws out : List ℕ) → (found_answer form32 rule ws out ≡ refused 1 0) × (found_output form32 rule ws out ≡ out)
  unfolding found_answer check_found check_instructions found_output
  found_many ws out =
      let asked : check_found form32 rule ws ≡ refused 1 0 = then_refused (check_instructions form32 rule ws) _ 1 0 (words_many annotated_opcode ws) in
      let answer : found_answer form32 rule ws out ≡ refused 1 0 = then_refused (check_found form32 rule ws) _ 1 0 asked in
      (answer, ap (λ a. output_for (found_words form32 rule ws) a out) answer)

  pub up_many : (out : List ℕ) → rule_up rule out ≡ refused 1 0
  unfolding rule_up
  up_many out = then_refused (check_rule form32 rule) _ 1 0 no

  pub script_up_many : (script out : List ℕ) → script_up rule script out ≡ refused 1 0
  unfolding script_up check_script_up
  script_up_many script out = then_refused (check_script_up rule script) _ 1 0 (then_refused (check_rule form32 rule) _ 1 0 no)
