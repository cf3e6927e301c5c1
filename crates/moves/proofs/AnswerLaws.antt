-- The questions of the moves (`specs/Moves.antt`) in turn, what a move answers and what it leaves in the output.
--     few_20, many_20                  20
--     back_in, back_out                what a move back takes: it passes 1 to 4 and has at most 32 nodes
--     script_up_out, script_back_out   a script passes 5 to 8 too
--     back_many, script_back_many      more than 32 nodes
--     answered, first_words            a move that answers, and what it wrote
--     whole_lines                      a script's words, by its line count
--     up_answers, back_answers, script_up_answers_lem, script_back_answers_lem    the moves
-- Assumes nothing.
use mathlib.Core.Path.{◌≡◌, refl, sym, ap, ◌∙◌}
use mathlib.Core.Logic.{inl, inr}
use mathlib.Core.List.{List}
use Prim.Native.Nat.{ℕ, ◌*◌, ◌%◌, ◌≤◌, ◌<◌}
use native.Mathlib.Omega.{arith}
use lib.ListN.{length, take, drop, length-map}
use lib.Seq.{take_at}
use lib.Dec.{leb}
use borrow.Author.Tests.{le-leb, lt-leb, leb-true, eqb-true}
use Rattle.spec.specs.Questions.{Answer, passed, refused, Checked, ◌then◌, ask_once}
use Rattle.spec.specs.Rule.{Form, form32, form64, table_of, check_rule}
use Rattle.spec.specs.Script.{annotated_opcode, check_code}
use Rattle.spec.specs.Check.{annotated_stored}
use Rattle.spec.specs.Weaver.{output_for}
use Rattle.moves.specs.Moves.{widen_node, narrow_node, widen_word, narrow_word, widen_rule, narrow_rule, widen_script, narrow_script, question20, check_back, check_move, check_script_up, check_script_back, line_count, move_rule, move_script, rule_up, rule_back, script_up, script_back, rule_up_output, rule_back_output, script_up_output, script_back_output}
use Rattle.moves.specs.Moved.{GoesBack, ScriptGoesBack, Answers}
use Rattle.spec.proofs.BoolLaws.{le_or_lt}
use Rattle.spec.proofs.QuestionLaws.{then_passed, then_refused, both_passed, once_in, once_no, once_out}
use Rattle.spec.proofs.CodeLaws.{code_out}

-- ---- 20

pub few_20 : (rule : List ℕ) → length rule ≤ 32 → question20 rule ≡ passed tt
unfolding question20 form32
few_20 rule h = once_in 20 _ (le-leb (length rule) 32 h)

pub many_20 : (rule : List ℕ) → 32 < length rule → question20 rule ≡ refused 20 0
unfolding question20 form32
many_20 rule h = once_no 20 _ (lt-leb (length rule) 32 h)

pub back_in : (rule : List ℕ) → check_rule form64 rule ≡ passed tt → length rule ≤ 32 → GoesBack rule
unfolding check_back
back_in rule e h = then_passed (check_rule form64 rule) (question20 rule) e ∙ few_20 rule h

pub back_out : (rule : List ℕ) → GoesBack rule → (check_rule form64 rule ≡ passed tt) × (length rule ≤ 32)
unfolding check_back question20 form32
back_out rule e =
    let (passes, q₂₀) = both_passed (check_rule form64 rule) _ tt e in
    (passes, leb-true (length rule) 32 (once_out 20 _ q₂₀))

pub script_up_out : (rule script : List ℕ) → check_script_up rule script ≡ passed tt
    → (check_rule form32 rule ≡ passed tt) × (check_move form32 rule script ≡ passed tt)
unfolding check_script_up
script_up_out rule script e = both_passed (check_rule form32 rule) (check_move form32 rule script) tt e

pub script_back_out : (rule script : List ℕ) → ScriptGoesBack rule script → GoesBack rule × (check_move form64 rule script ≡ passed tt)
unfolding check_script_back
script_back_out rule script e = both_passed (check_back rule) (check_move form64 rule script) tt e

pub back_many : (rule : List ℕ) → check_rule form64 rule ≡ passed tt → 32 < length rule → check_back rule ≡ refused 20 0
unfolding check_back
back_many rule passes many = then_passed (check_rule form64 rule) (question20 rule) passes ∙ many_20 rule many

pub script_back_many : (rule script : List ℕ) → check_rule form64 rule ≡ passed tt → 32 < length rule → check_script_back rule script ≡ refused 20 0
unfolding check_script_back
script_back_many rule script passes many = then_refused (check_back rule) _ 20 0 (back_many rule passes many)

-- ---- 13, and the output

answers : (asked : Checked) (words out : List ℕ) (needed count : ℕ) → (asked ≡ passed tt → needed ≡ length words)
    → let answer = asked then ask_once 13 (leb needed (length out)) then passed count in Answers asked words count answer out (output_for words answer out)
answers asked words out needed count size =
    let room = ask_once 13 (leb needed (length out)) in
    record {
      no = λ q i e. then_refused asked (room then passed count) q i e;
      short = λ e h. then_passed asked (room then passed count) e
          ∙ then_refused room (passed count) 13 0 (once_no 13 _ (lt-leb needed (length out) (omega (arith, size e))));
      enough = λ e h. then_passed asked (room then passed count) e
          ∙ then_passed room (passed count) (once_in 13 _ (le-leb needed (length out) (omega (arith, size e))));
      written = λ n e. ap (λ a. output_for words a out) e;
      kept = λ q i e. ap (λ a. output_for words a out) e;
    }

-- a move that answers: its questions had a yes, the output was large enough, and the answer is its count
pub answered : (asked : Checked) (words : List ℕ) (count : ℕ) (answer : Answer ℕ) (out after : List ℕ) → Answers asked words count answer out after
    → (n : ℕ) → answer ≡ passed n → (asked ≡ passed tt) × (length words ≤ length out) × (n ≡ count)
answered (passed u) words count answer out after a n e = elim (le_or_lt (length words) (length out)) [
  | inl h ↦ let same : passed count ≡ passed n = sym (a.enough refl h) ∙ e in (refl, h, cc)
  | inr h ↦ let no : refused 13 0 ≡ passed n = sym (a.short refl h) ∙ e in let z : ◌≡◌ {A = ℕ} 0 1 = cc in absurd (omega arith)
]
answered (refused q i) words count answer out after a n e =
    let no : refused q i ≡ passed n = sym (a.no q i refl) ∙ e in let z : ◌≡◌ {A = ℕ} 0 1 = cc in absurd (omega arith)

-- the words that it wrote
pub first_words : (asked : Checked) (words : List ℕ) (count : ℕ) (answer : Answer ℕ) (out after : List ℕ) → Answers asked words count answer out after
    → (n : ℕ) → answer ≡ passed n → (m : ℕ) → length words ≡ m → take m after ≡ words
first_words asked words count answer out after a n e m size = ap (take m) (a.written n e) ∙ take_at words (drop (length words) out) m size

-- a script that passes question 5 has whole lines
pub whole_lines : (form : Form) (rule script : List ℕ) → check_move form rule script ≡ passed tt → 8 * line_count script ≡ length script
unfolding check_move
whole_lines form rule script e =
    let asked = (both_passed (check_code (table_of form rule) annotated_opcode (annotated_stored form script)) _ tt e).0 in
    let whole = eqb-true (length script % 8) 0 (code_out (table_of form rule) annotated_opcode (annotated_stored form script) asked).whole in
    omega arith

module _ (rule out : List ℕ) where
  pub up_answers : Answers (check_rule form32 rule) (widen_rule rule) (length rule) (rule_up rule out) out (rule_up_output rule out)
  unfolding rule_up rule_up_output move_rule
  up_answers = answers (check_rule form32 rule) (widen_rule rule) out (length rule) (length rule) (λ e. sym (length-map rule widen_node))

  pub back_answers : Answers (check_back rule) (narrow_rule rule) (length rule) (rule_back rule out) out (rule_back_output rule out)
  unfolding rule_back rule_back_output move_rule
  back_answers = answers (check_back rule) (narrow_rule rule) out (length rule) (length rule) (λ e. sym (length-map rule narrow_node))

module _ (rule script out : List ℕ) where
  pub script_up_answers_lem :
      Answers (check_script_up rule script) (widen_script script) (line_count script) (script_up rule script out) out (script_up_output rule script out)
  unfolding script_up script_up_output move_script
  script_up_answers_lem =
      answers (check_script_up rule script) (widen_script script) out (8 * line_count script) (line_count script)
      (λ e. whole_lines form32 rule script (script_up_out rule script e).1 ∙ sym (length-map script widen_word))

  pub script_back_answers_lem :
      Answers (check_script_back rule script) (narrow_script script) (line_count script) (script_back rule script out) out (script_back_output rule script out)
  unfolding script_back script_back_output move_script
  script_back_answers_lem =
      answers (check_script_back rule script) (narrow_script script) out (8 * line_count script) (line_count script)
      (λ e. whole_lines form64 rule script (script_back_out rule script e).1 ∙ sym (length-map script narrow_word))
