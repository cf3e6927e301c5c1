-- The facts found (2026-05) for a rule of the old form, moved to the second.
--     search_same                    the width of a word does not change what the search finds
--     found_lines_widen, found_words_widen, found_words_narrow    the same lines; their words, moved
--     found_widen, found_into        the same answer, and what the output holds
-- Assumes nothing.
use mathlib.Core.Path.{◌≡◌, refl, sym, ap, ap₂, ◌∙◌}
use mathlib.Core.Logic.{inl, inr}
use mathlib.Core.List.{List}
use Prim.Native.Nat.{ℕ, ◌*◌, ◌≤◌}
use native.Mathlib.Omega.{arith}
use lib.ListN.{length, length-map}
use lib.Dec.{leb}
use Rattle.spec.specs.Questions.{Answer, passed, refused, Checked, ◌then◌, ask, ask_once}
use Rattle.spec.specs.Rule.{form32, form64, Table, table_of}
use Rattle.spec.specs.Script.{Code, bare_code, annotated_opcode}
use Rattle.spec.specs.Facts.{no_facts}
use Rattle.spec.specs.Check.{line_at, words_of, present_known}
use Rattle.spec.specs.Weaver.{room_for_lines, output_for}
use Rattle.largest.specs.Notes.{notes_of}
use Rattle.largest.specs.Largest.{count_facts, search, check_instructions, found_lines, question19, check_found, found_words, found_count, found_answer, found_output}
use Rattle.moves.specs.Moves.{widen_rule, widen_word, widen_script, narrow_script}
use Rattle.spec.proofs.BoolLaws.{clash, le_or_lt}
use Rattle.spec.proofs.QuestionLaws.{both_passed, then_assoc}
use Rattle.spec.proofs.RuleLaws.{InOrder}
use Rattle.spec.proofs.FactLaws.{belongs_in}
use Rattle.largest.proofs.CountLaws.{count_narrow}
use Rattle.largest.proofs.LargestFound.{largest_found}
use Rattle.largest.proofs.LargestLoop.{found_lines_lem}
use Rattle.largest.proofs.ObeyLaws.{Slim, nothing_past, length_codes}
use Rattle.largest.proofs.LargestPromise.{ready}
use Rattle.moves.proofs.NodeMoveLaws.{table_widen}
use Rattle.moves.proofs.LineMoveLaws.{code_widen}
use Rattle.moves.proofs.LineBackLaws.{script_there_lem}
use Rattle.moves.proofs.WovenMoveLaws.{words_widen, output_widen}

-- ---- the search

module _ (t : Table) (ordered : InOrder t) (code : Code) where
  -- both are the largest
  pub search_same : (n m : ℕ) → length t ≤ n → length t ≤ m → search m t code ≡ search n t code
  search_same n m few many =
      let a = (largest_found n t ordered few code).largest in
      sym (found_lines_lem t ordered code m many (notes_of (search n t code)) a) ∙ found_lines_lem t ordered code n few (notes_of (search n t code)) a

  -- it finds facts of the rule's nodes only
  search_slim : (n : ℕ) → length t ≤ n → Slim n (search n t code)
  search_slim n few l f k e =
      let a = largest_found n t ordered few code in
      elim (le_or_lt (length code) l) [
        | inl h ↦ clash (nothing_past (search n t code) l (omega (arith, length_codes (search n t code), ap length a.same_code)) no_facts f k e) refl
        | inr h ↦ omega (arith, belongs_in t ordered f k (a.largest.obeys.belong l h f k e))
      ]

-- ---- what is found

-- what comes after a question need only be the same after a yes
then_same : {A : Type 0} (a : Checked) (b c : Answer A) → (a ≡ passed tt → b ≡ c) → (a then b) ≡ (a then c)
unfolding ◌then◌
then_same (passed u) b c h = h refl
then_same (refused q i) b c h = refl

module _ (rule ws : List ℕ) (few : length rule ≤ 32) where
  instructions_widen : check_instructions form64 (widen_rule rule) ws ≡ check_instructions form32 rule ws
  unfolding check_instructions
  instructions_widen = code_widen annotated_opcode rule ws few

  module _ (asked : check_instructions form32 rule ws ≡ passed tt) where
    pub found_lines_widen : found_lines form64 (widen_rule rule) ws ≡ found_lines form32 rule ws
    unfolding found_lines form32 form64
    found_lines_widen =
        let r = ready form32 rule ws asked in
        ap (λ t. search 64 t (bare_code ws)) (table_widen rule)
        ∙ search_same (table_of form32 rule) r.ordered (bare_code ws) 32 64 r.few (omega (arith, r.few))

    found_slim : Slim 32 (found_lines form32 rule ws)
    unfolding found_lines form32
    found_slim = let r = ready form32 rule ws asked in search_slim (table_of form32 rule) r.ordered (bare_code ws) 32 r.few

    pub found_words_widen : found_words form64 (widen_rule rule) ws ≡ widen_script (found_words form32 rule ws)
    unfolding found_words
    found_words_widen = ap (words_of form64) found_lines_widen ∙ words_widen (found_lines form32 rule ws) found_slim

    -- the old form's words are the upper halves
    pub found_words_narrow : narrow_script (found_words form64 (widen_rule rule) ws) ≡ found_words form32 rule ws
    found_words_narrow = ap narrow_script found_words_widen ∙ script_there_lem (found_words form32 rule ws)

    count_widen : found_count form64 (widen_rule rule) ws ≡ found_count form32 rule ws
    unfolding found_count form32 form64
    count_widen =
        ap (λ ls. count_facts 64 (length ws) (notes_of ls)) found_lines_widen
        ∙ count_narrow 32 64 (length ws) (notes_of (found_lines form32 rule ws)) (omega arith) (λ l h. found_slim l)

    nineteen_widen : question19 form64 (widen_rule rule) ws ≡ question19 form32 rule ws
    unfolding question19
    nineteen_widen = ap₂ (λ t ls. ask 19 (length ws) (λ l. present_known t (line_at ls l))) (table_widen rule) found_lines_widen

  pub found_widen : (out wide_out : List ℕ) → length wide_out ≡ length out
      → found_answer form64 (widen_rule rule) ws wide_out ≡ found_answer form32 rule ws out
  unfolding found_answer check_found
  found_widen out wide_out e =
      let c = check_instructions form32 rule ws in
      let after : (n count : ℕ) → Checked → Answer ℕ = λ n count q. q then ask_once 13 (leb (8 * length ws) n) then passed count in
      let wide = widen_rule rule in
      ap (λ a. (a then question19 form64 wide ws) then room_for_lines (length ws) wide_out then passed (found_count form64 wide ws)) instructions_widen
      ∙ then_assoc c _ _
      ∙ then_same c _ _ (λ asked i. after (e i) (count_widen asked i) (nineteen_widen asked i))
      ∙ sym (then_assoc c _ _)

  pub found_into : (out : List ℕ) → found_output form64 (widen_rule rule) ws (widen_script out) ≡ widen_script (found_output form32 rule ws out)
  unfolding found_output found_answer check_found
  found_into out =
      ap (λ a. output_for (found_words form64 (widen_rule rule) ws) a (widen_script out)) (found_widen out (widen_script out) (length-map out widen_word))
      ∙ output_widen (found_words form32 rule ws) (found_words form64 (widen_rule rule) ws) out (found_answer form32 rule ws out)
      (λ n e. found_words_widen (both_passed _ _ tt (both_passed (check_found form32 rule ws) _ n e).0).0)
