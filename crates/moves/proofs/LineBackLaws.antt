-- An annotated script moved there and back (`specs/Moves.antt`) is unchanged.
--     script_there_lem     from the old form, any script
--     script_again_lem     from the second, one that passes 5 to 8 for a rule of at most 32 nodes: its words have zeros in their lower halves
-- Assumes nothing.
use mathlib.Core.Path.{◌≡◌, refl, subst, ap, ap₂, ◌∙◌}
use mathlib.Core.Logic.{inl, inr}
use mathlib.Core.Bool.{true, false, ◌&&◌}
use mathlib.Core.List.{List, [], ◌∷◌}
use Prim.Native.Nat.{ℕ, zero, suc, ◌+◌, ◌-◌, ◌*◌, ◌/◌, ◌%◌, ◌^◌, ◌≤◌, ◌<◌}
use native.Mathlib.Nat.{mod-lt, zero-lt-suc}
use native.Mathlib.Omega.{arith}
use lib.ListN.{length, get_or, length-map, get_or-map}
use lib.Seq.{ext_get_or}
use lib.Dec.{eqb}
use lib.Pow.{shl-shr, mod-pow-add}
use borrow.Author.Tests.{eqb-true, lt-ltb}
use Rattle.spec.specs.Questions.{passed}
use Rattle.spec.specs.Rule.{form64, Table, table_of, check_rule}
use Rattle.spec.specs.Script.{fields_of, instruction_read, annotated_opcode, stored_fit, names_allowed, line_allowed, check_code}
use Rattle.spec.specs.Facts.{Fact, value_is, prior_is, kept_is_prior, work_is_next, work_is_prior, word_number, belongs}
use Rattle.spec.specs.Check.{line_at, nodes_in, lines_of, annotated_stored, facts_belong, question8}
use Rattle.moves.specs.Moves.{widen_word, narrow_word, widen_script, narrow_script, check_move}
use Rattle.spec.proofs.BoolLaws.{and_both, le_or_lt}
use Rattle.spec.proofs.QuestionLaws.{both_passed, ask_out}
use Rattle.spec.proofs.RuleLaws.{length_table, rule_out}
use Rattle.spec.proofs.FactLaws.{among_out, belongs_in}
use Rattle.spec.proofs.StoredLaws.{length_read, facts_of_lem}
use Rattle.spec.proofs.CodeLaws.{code_out}
use Rattle.largest.proofs.ObeyLaws.{slim_lines}
use Rattle.moves.proofs.LineMoveLaws.{word_widen}

pub script_there_lem : (ws : List ℕ) → narrow_script (widen_script ws) ≡ ws
script_there_lem [] = refl
script_there_lem (w ∷ ws) = ap₂ ◌∷◌ (shl-shr w 32) (script_there_lem ws)

-- ---- zeros in the lower halves

-- m bits that are all zero
no_bits : (m w : ℕ) → ((i : ℕ) → i < m → w / 2 ^ i % 2 ≡ 0) → w % 2 ^ m ≡ 0
no_bits zero w h = omega arith
no_bits (suc m) w h =
    let e : suc m ≡ 1 + m = omega arith in
    ap (λ i. w % 2 ^ i) e ∙ mod-pow-add w 1 m ∙ ap₂ (λ x y. x * 2 ^ m + y) (h m (omega arith)) (no_bits m w (λ i l. h i (omega arith))) ∙ omega arith

-- a fact word of the nodes below n only has zeros in its m lowest bits
no_later : (n m w : ℕ) → ((k : ℕ) → nodes_in (n + m) w k ≡ true → k < n) → w % 2 ^ m ≡ 0
unfolding nodes_in
no_later n m w h = no_bits m w (λ i l.
    let k = n + m - 1 - i in
    let e : n + m - 1 - k ≡ i = omega arith in
    let inside : k < n + m = omega arith in
    elim (le_or_lt (w / 2 ^ i % 2) 0) [
      | inl z ↦ omega arith
      | inr z ↦
          let bit : w / 2 ^ i % 2 ≡ 1 = let u = mod-lt (w / 2 ^ i) (zero-lt-suc 1) in omega arith in
          let low = h k (rw (lt-ltb k (n + m) inside, e, bit) refl) in
          absurd (omega arith)
    ])

-- the fact of each word after the first
fact_in : (j : ℕ) → j < 7 → (f : Fact) × (word_number f ≡ j)
unfolding word_number
fact_in zero h = (value_is true, refl)
fact_in (suc zero) h = (value_is false, refl)
fact_in (suc (suc zero)) h = (prior_is true, refl)
fact_in (suc (suc (suc zero))) h = (prior_is false, refl)
fact_in (suc (suc (suc (suc zero)))) h = (kept_is_prior, refl)
fact_in (suc (suc (suc (suc (suc zero))))) h = (work_is_next, refl)
fact_in (suc (suc (suc (suc (suc (suc zero)))))) h = (work_is_prior, refl)
fact_in (suc (suc (suc (suc (suc (suc (suc j))))))) h = absurd (omega arith)

module _ (rule ws : List ℕ) (passes : check_rule form64 rule ≡ passed tt) (few : length rule ≤ 32) (asked : check_move form64 rule ws ≡ passed tt) where
  abbrev t : Table
  t = table_of form64 rule

  code_asked_lem : check_code t annotated_opcode (annotated_stored form64 ws) ≡ passed tt
  unfolding check_move
  code_asked_lem = (both_passed (check_code t annotated_opcode (annotated_stored form64 ws)) (question8 form64 t (lines_of form64 ws)) tt asked).0

  facts_asked : question8 form64 t (lines_of form64 ws) ≡ passed tt
  unfolding check_move
  facts_asked = (both_passed (check_code t annotated_opcode (annotated_stored form64 ws)) (question8 form64 t (lines_of form64 ws)) tt asked).1

  -- question 6: the lower half of a line's first word
  first_zero : (l : ℕ) → l < length ws / 8 → get_or ws (8 * l) 0 % 2 ^ 32 ≡ 0
  unfolding line_allowed form64
  first_zero l h =
      let s = annotated_stored form64 ws in
      let f = fields_of (s.word l) in
      let (e, _) = and_both (annotated_opcode f.opcode && stored_fit f && eqb (s.unused l) 0) (names_allowed t (instruction_read (s.word l)))
      ((code_out t annotated_opcode s code_asked_lem).allowed l h) in
      eqb-true (s.unused l) 0 (and_both (annotated_opcode f.opcode && stored_fit f) (eqb (s.unused l) 0) e).1

  -- question 8: facts of the rule's nodes only
  fact_zero : (l : ℕ) (f : Fact) → l < length ws / 8 → get_or ws (8 * l + 1 + word_number f) 0 % 2 ^ 32 ≡ 0
  unfolding question8 facts_belong form64
  fact_zero l f h = no_later 32 32 (get_or ws (8 * l + 1 + word_number f) 0) (λ k e.
      let ls = lines_of form64 ws in
      let noted : (line_at ls l).annotation f k ≡ true = ap (λ s. s k) (facts_of_lem form64 ws l h f) ∙ e in
      let belong = ask_out 8 (length ls) (λ j. facts_belong form64 t (line_at ls j)) facts_asked l (omega (arith, length_read form64 ws)) in
      let there = among_out 64 (line_at ls l).annotation (belongs t) belong f k (slim_lines form64 ws l f k noted) noted in
      omega (arith, belongs_in t (rule_out form64 rule passes).ordered f k there, length_table form64 rule))

  word_zero : (l j : ℕ) → l < length ws / 8 → j < 8 → get_or ws (8 * l + j) 0 % 2 ^ 32 ≡ 0
  word_zero l zero h b = let e : 8 * l + 0 ≡ 8 * l = omega arith in rw e (first_zero l h)
  word_zero l (suc j) h b =
      let (f, e) = fact_in j (omega arith) in
      let z : 8 * l + 1 + word_number f ≡ 8 * l + suc j = omega arith in
      subst (λ i. get_or ws i 0 % 2 ^ 32 ≡ 0) z (fact_zero l f h)

  each_zero : (i : ℕ) → i < length ws → get_or ws i 0 % 2 ^ 32 ≡ 0
  each_zero i h =
      let whole = eqb-true (length ws % 8) 0 (code_out t annotated_opcode (annotated_stored form64 ws) code_asked_lem).whole in
      let e : 8 * (i / 8) + i % 8 ≡ i = omega arith in
      subst (λ j. get_or ws j 0 % 2 ^ 32 ≡ 0) e (word_zero (i / 8) (i % 8) (omega arith) (omega arith))

  pub script_again_lem : widen_script (narrow_script ws) ≡ ws
  script_again_lem = ext_get_or 0 (widen_script (narrow_script ws)) ws (length-map (narrow_script ws) widen_word ∙ length-map ws narrow_word) (λ i h.
      let here : i < length ws = omega (arith, length-map (narrow_script ws) widen_word, length-map ws narrow_word) in
      let zeros = each_zero i here in
      word_widen (narrow_script ws) i ∙ ap widen_word (get_or-map narrow_word ws i 0) ∙ omega arith)
