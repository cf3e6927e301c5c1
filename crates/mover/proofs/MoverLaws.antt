-- The moves as the code makes them (`specs/Moves.antt` of crate moves).
--     refuses, goes                     what a move answers and leaves: a question has a no, and none has
--     move_asked                        questions 5 to 8 of a script, whose rule is held in the second form
--     room_in                           question 13 has a yes
--     up_words, back_words              the words of a script in the other form
-- Assumes nothing.
use mathlib.Core.Path.{◌≡◌, refl, sym, ap, ◌∙◌}
use mathlib.Core.Bool.{Bool, true, false}
use mathlib.Core.List.{List, [], ◌∷◌}
use Prim.Native.Nat.{ℕ, ◌≤◌}
use lib.Dec.{leb}
use borrow.Author.Tests.{leb-true}
use Rattle.spec.specs.Questions.{Answer, passed, refused, Checked, ◌then◌, ask_once}
use Rattle.spec.specs.Script.{annotated_opcode, check_code}
use Rattle.spec.specs.Check.{annotated_stored, lines_of, question8}
use Rattle.spec.specs.Weaver.{output_for}
use Rattle.spec.proofs.QuestionLaws.{then_passed, then_refused, once_out}
use Rattle.moves.specs.Moves.{widen_word, widen_script, narrow_script, check_move}
use Rattle.rule.specs.Nodes.{form_by, second_form}
use Rattle.rule.proofs.SecondLaws.{second_table}
use Rattle.checker.specs.Settled.{lines_asked}
use Rattle.mover.specs.Words.{words_moved}

-- these questions, and then this answer
module _ (asked : Checked) (last : Answer ℕ) (words out : List ℕ) where
  pub refuses : (a : Answer ℕ) (q i : ℕ) → a ≡ refused q i → asked ≡ refused q i → (a ≡ (asked then last)) × (out ≡ output_for words (asked then last) out)
  refuses a q i e d =
      let no = then_refused asked last q i d in
      (e ∙ sym no, ap (λ x. output_for words x out) (sym no))

  pub goes : asked ≡ passed tt → (a : Answer ℕ) (after : List ℕ) → a ≡ last → after ≡ output_for words last out
      → (a ≡ (asked then last)) × (after ≡ output_for words (asked then last) out)
  goes e a after d f =
      let yes = sym (then_passed asked last e) in
      (d ∙ yes, f ∙ ap (λ x. output_for words x out) yes)

pub move_asked : (b : Bool) (rule table script : List ℕ) → table ≡ second_form b rule → lines_asked table b script ≡ check_move (form_by b) rule script
unfolding check_move
move_asked b rule table script moved =
    ap (λ r. lines_asked r b script) moved
    ∙ ap (λ t. check_code t annotated_opcode (annotated_stored (form_by b) script) then question8 (form_by b) t (lines_of (form_by b) script)) (second_table b rule)

pub room_in : (words space : ℕ) → passed tt ≡ ask_once 13 (leb words space) → words ≤ space
room_in words space e = leb-true words space (once_out 13 (leb words space) (sym e))

pub up_words : (script : List ℕ) → words_moved false true script ≡ widen_script script
up_words [] = refl
up_words (w ∷ ws) = ap (◌∷◌ (widen_word w)) (up_words ws)

pub back_words : (script : List ℕ) → words_moved true false script ≡ narrow_script script
back_words script = refl
