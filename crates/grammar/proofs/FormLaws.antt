-- A text in two stored forms: the same words, moved.
--     texting_few       what is written has no more words than the form allows nodes, and than are lent
--     texting_moved     what is written in one form, and has not too many nodes for the other, is written there
-- The words themselves are in `proofs/TableLaws.antt` (`words_moved`). Assumes nothing.
use mathlib.Core.Path.{◌≡◌, sym, subst, ap, ◌∙◌}
use mathlib.Core.List.{List, map}
use Prim.Native.Nat.{ℕ, ◌≤◌}
use native.Mathlib.Omega.{arith}
use lib.ListN.{length}
use Rattle.spec.specs.Questions.{passed}
use Rattle.spec.specs.Rule.{Form}
use Rattle.spec.proofs.QuestionLaws.{both_passed}
use Rattle.spec.proofs.StoredLaws.{GoodForm}
use Rattle.grammar.specs.Typed.{opened}
use Rattle.grammar.specs.Scan.{question16}
use Rattle.grammar.specs.Reading.{formula_of}
use Rattle.grammar.specs.Nodes.{size, rule_words}
use Rattle.grammar.specs.Texting.{question17, texting}
use Rattle.grammar.proofs.ScanLaws.{passes_text, text_formula}
use Rattle.grammar.proofs.RangeLaws.{ranges_agree}
use Rattle.grammar.proofs.TableLaws.{SmallTests, length_words, words_moved}
use Rattle.grammar.proofs.TextLaws.{opened_small, texting_asked, writing_out, writing_in}

-- the formula of a text that questions 16 and 17 let pass fits a table
passed_small : (bs : List ℕ) → question16 bs ≡ passed tt → question17 bs ≡ passed tt → SmallTests (opened (formula_of bs))
passed_small bs q₁₆ q₁₇ =
    let (φ, x) = passes_text bs q₁₆ in
    subst (λ ψ. SmallTests (opened ψ)) (sym (text_formula bs φ x)) (opened_small φ ((ranges_agree bs φ x).0 q₁₇))

module _ (form : Form) (lent : ℕ) (bs ws : List ℕ) (e : texting form lent bs ≡ passed ws) where
  -- each question has a yes
  record Written : Type 0 where
    in_grammar : question16 bs ≡ passed tt
    in_range : question17 bs ≡ passed tt
    few : size (opened (formula_of bs)) ≤ form.width
    room : size (opened (formula_of bs)) ≤ lent
    words : ws ≡ rule_words form (opened (formula_of bs))

  written : Written
  unfolding texting
  written =
      let (q₁₆, e₁) = both_passed (question16 bs) _ ws e in
      let (q₁₇, e₂) = both_passed (question17 bs) _ ws e₁ in
      let (few, room, same) = writing_out form lent (opened (formula_of bs)) ws e₂ in
      record { in_grammar = q₁₆; in_range = q₁₇; few = few; room = room; words = same }

  as_many : length ws ≡ size (opened (formula_of bs))
  as_many = ap length written.words ∙ length_words form (opened (formula_of bs))

  pub texting_few : (length ws ≤ form.width) × (length ws ≤ lent)
  texting_few = let w = written in let n = as_many in (omega arith, omega arith)

  pub texting_moved : (to : Form) → GoodForm form → length ws ≤ to.width
      → texting to lent bs ≡ passed (map (λ w. to.store_node (form.read_node w)) ws)
  texting_moved to good few =
      let w = written in
      let φ = opened (formula_of bs) in
      let n = as_many in
      texting_asked to lent bs w.in_grammar w.in_range ∙ writing_in to lent φ (omega arith) w.room
      ∙ ap passed (sym (ap (map (λ v. to.store_node (form.read_node v))) w.words
      ∙ words_moved form good φ (passed_small bs w.in_grammar w.in_range) w.few to))
