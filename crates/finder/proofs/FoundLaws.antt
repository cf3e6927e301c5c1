-- What is found, asked and written (`specs/Kept.antt`, crate largest's `Largest`).
--     found_line                       a line found has its notes from the largest kept
--     known_yes, known_no              question 19 at a line
--     kept_found, count_found          the words written and the facts counted are those found
--     Writing, writing_start, writing_next    one line more is written
--     FoundIn, nineteen_no, room_no, all_yes      the answer, and the output, for a rule of the second form
--     Gives, gives, seven_no           in the words of a caller
--     instructions_second, found_second       a rule of either form, held in the second
--     few_asked, asked_second, no_19, no_13, found_all    the same, question by question
-- Assumes nothing.
use mathlib.Core.Path.{◌≡◌, refl, sym, subst, ap, ap₂, ◌∙◌}
use mathlib.Core.Bool.{Bool, true, false}
use mathlib.Core.List.{List, [], ◌∷◌, ◌++◌, append_assoc, append-nil}
use Prim.Native.Nat.{ℕ, zero, suc, ◌+◌, ◌-◌, ◌*◌, ◌≤◌, ◌<◌}
use native.Mathlib.Numerals.{add-one}
use native.Mathlib.Omega.{arith}
use lib.ListN.{length, get_or, take, drop, length-append}
use lib.Seq.{take_at}
use borrow.Author.Tests.{le-leb, lt-leb}
use Rattle.spec.specs.Questions.{Answer, passed, refused, ◌then◌}
use Rattle.spec.specs.Rule.{Form, form32, form64, last_node, check_rule}
use Rattle.spec.specs.Script.{Code, instruction_read, instruction_at, is_present, bare_code, bare_stored, word_for, annotated_opcode, check_code}
use Rattle.spec.specs.Facts.{value_is, Facts, close}
use Rattle.spec.specs.Check.{Line, line_at, line_words, words_of, present_known, check_script}
use Rattle.spec.specs.Weaver.{output_for}
use Rattle.largest.specs.Notes.{Notes, notes_of}
use Rattle.largest.specs.Largest.{facts_in, count_facts, annotate, check_instructions, found_lines, question19, check_found, found_words, found_count, found_answer, found_output}
use Rattle.largest.specs.Found.{Largest}
use Rattle.spec.proofs.BoolLaws.{bool_ext}
use Rattle.spec.proofs.QuestionLaws.{then_passed, then_refused, both_passed, once_in, once_no}
use Rattle.spec.proofs.RuleLaws.{length_table, rule_out}
use Rattle.spec.proofs.ClosingLaws.{extends}
use Rattle.spec.proofs.StoredLaws.{GoodForm, good32, good64}
use Rattle.largest.proofs.LargestLaws.{largest_closed}
use Rattle.largest.proofs.LargestLoop.{found_lines_lem, line_annotate, count_as}
use Rattle.largest.proofs.ObeyLaws.{code_at, length_bare, fit_again}
use Rattle.largest.proofs.LargestPromise.{ready, finding}
use Rattle.moves.specs.Moves.{widen_rule}
use Rattle.moves.proofs.FoundMoveLaws.{found_lines_widen, found_widen}
use Rattle.rule.specs.Nodes.{table_in, form_in, form_by, over_at, second_form}
use Rattle.rule.proofs.PutLaws.{over_then, at_none, length_at}
use Rattle.rule.proofs.SecondLaws.{second_asked, second_table}
use Rattle.facts.specs.Written.{stored_line}
use Rattle.facts.proofs.OverLaws.{length_stored}
use Rattle.finder.specs.Rows.{notes_at, Asked, LargestAt}
use Rattle.finder.specs.Kept.{gather, kept_lines}
use Rattle.finder.specs.Answers.{HandsOut}

-- ---- the lines found

-- lines one after another, from the front
gather_front : (g : ℕ → List ℕ) (n : ℕ) → gather g (suc n) ≡ g 0 ++ gather (λ l. g (suc l)) n
unfolding gather
gather_front g zero = sym (append-nil (g 0))
gather_front g (suc n) = ap (λ ws. ws ++ g (suc n)) (gather_front g n) ∙ append_assoc (g 0) (gather (λ l. g (suc l)) n) (g (suc n))

words_gather : (form : Form) (code : Code) (N : Notes) (g : ℕ → List ℕ)
    → ((l : ℕ) → l < length code → g l ≡ line_words form (record { instruction = instruction_at code l; annotation = N l }))
    → gather g (length code) ≡ words_of form (annotate code N)
unfolding gather words_of annotate
words_gather form [] N g h = refl
words_gather form (i ∷ code) N g h =
    gather_front g (length code)
    ∙ ap₂ ◌++◌ (h 0 (omega arith)) (words_gather form code (λ l. N (suc l)) (λ l. g (suc l)) (λ l k. h (suc l) (omega arith)))

line_is : (b : Bool) (w : ℕ) (x : Line) → w ≡ word_for x.instruction → stored_line b w x.annotation ≡ line_words (form_by b) x
unfolding stored_line line_words
line_is b w x e = ap (λ v. stored_line b v x.annotation) e

module _ (rule ws notes : List ℕ) (asked : Asked rule ws) (a : LargestAt rule ws notes) where
  found_is : annotate (bare_code ws) (notes_at notes) ≡ found_lines form_in rule ws
  unfolding found_lines
  found_is = let r = ready form_in rule ws asked in
      found_lines_lem (table_in rule) r.ordered (bare_code ws) form_in.width r.few (notes_at notes) a

  found_line : (l : ℕ) → l < length ws
      → line_at (found_lines form_in rule ws) l ≡ record { instruction = instruction_read (get_or ws l 0); annotation = notes_at notes l }
  found_line l h =
      ap (λ ls. line_at ls l) (sym found_is) ∙ line_annotate (bare_code ws) (notes_at notes) l (omega (arith, length_bare ws))
      ∙ ap (λ i. record { instruction = i; annotation = notes_at notes l }) (code_at ws l)

  -- T of the last node, in facts that are closed
  last_closed : (l : ℕ) → l < length ws
      → notes_at notes l (value_is true) (length rule - 1) ≡ close (table_in rule) (notes_at notes l) (value_is true) (last_node (table_in rule))
  last_closed l h =
      let t = table_in rule in
      let r = ready form_in rule ws asked in
      ap (λ n. notes_at notes l (value_is true) (n - 1)) (sym (length_table form_in rule))
      ∙ bool_ext _ _ (extends t (notes_at notes l) (value_is true) (last_node t))
      (largest_closed t r.ordered (bare_code ws) (notes_at notes) a l (omega (arith, length_bare ws)) (value_is true) (last_node t))

  pub known_yes : (l : ℕ) → l < length ws → (p b : Bool) → p ≡ is_present (instruction_read (get_or ws l 0)) → p ≡ true
      → b ≡ notes_at notes l (value_is true) (length rule - 1) → b ≡ present_known (table_in rule) (line_at (found_lines form_in rule ws) l)
  unfolding present_known
  known_yes l h p b e y d = rw (found_line l h, ← e, y) (d ∙ last_closed l h)

  pub known_no : (l : ℕ) → l < length ws → (p : Bool) → p ≡ is_present (instruction_read (get_or ws l 0)) → p ≡ false
      → true ≡ present_known (table_in rule) (line_at (found_lines form_in rule ws) l)
  unfolding present_known
  known_no l h p e n = rw (found_line l h, ← e, n)

  -- the words of the lines kept are those found
  pub kept_found : (b : Bool) → ((l : ℕ) → l < length ws → get_or ws l 0 < 4294967296)
      → kept_lines b ws notes (length ws) ≡ words_of (form_by b) (found_lines form_in rule ws)
  kept_found b small =
      let r = ready form_in rule ws asked in
      ap (λ n. kept_lines b ws notes n) (sym (length_bare ws))
      ∙ words_gather (form_by b) (bare_code ws) (notes_at notes) (λ l. stored_line b (get_or ws l 0) (notes_at notes l)) (λ l h.
      let i : l < length ws = omega (arith, length_bare ws) in
      line_is b (get_or ws l 0) (record { instruction = instruction_at (bare_code ws) l; annotation = notes_at notes l })
      (sym (ap word_for (code_at ws l) ∙ fit_again (get_or ws l 0) (small l i) (r.six l i).fit)))
      ∙ ap (words_of (form_by b)) found_is

  -- and so are the facts counted
  pub count_found : count_facts 64 (length ws) (notes_at notes) ≡ found_count form_in rule ws
  unfolding found_count form64
  count_found = count_as 64 (length ws) (notes_at notes) (notes_of (found_lines form_in rule ws)) (λ l h f k.
      ap (λ x. x.annotation f k) (sym (found_line l h)))

-- ---- one line more is written

pub length_kept : (b : Bool) (ws notes : List ℕ) (n : ℕ) → length (kept_lines b ws notes n) ≡ 8 * n
unfolding gather
length_kept b ws notes zero = refl
length_kept b ws notes (suc n) =
    length-append (kept_lines b ws notes n) (stored_line b (get_or ws n 0) (notes_at notes n))
    ∙ omega (arith, length_kept b ws notes n, length_stored b (get_or ws n 0) (notes_at notes n))

-- the first l lines are written, and their facts counted
pub record Writing (b : Bool) (ws notes out₀ out : List ℕ) (count l : ℕ) : Type 0 where
  pub size : length out ≡ length out₀
  pub counted : count ≡ count_facts 64 l (notes_at notes)
  pub few : count ≤ 448 * l
  pub written : out ≡ over_at 0 (kept_lines b ws notes l) out₀

pub writing_start : (b : Bool) (ws notes out : List ℕ) → Writing b ws notes out out 0 0
unfolding count_facts gather
writing_start b ws notes out = record { size = refl; counted = refl; few = omega arith; written = sym (at_none 0 out) }

pub writing_next : (b : Bool) (ws notes out₀ out out' : List ℕ) (count n l : ℕ) (F : Facts) → F ≡ notes_at notes l → 8 * l + 8 ≤ length out₀
    → (n ≡ facts_in 64 F) × (n ≤ 448) → out' ≡ over_at (8 * l) (stored_line b (get_or ws l 0) F) out
    → Writing b ws notes out₀ out count l → Writing b ws notes out₀ out' (count + n) (l + 1)
unfolding count_facts gather
writing_next b ws notes out₀ out out' count n l F f h c d i =
    let k = length_kept b ws notes l in
    let line = stored_line b (get_or ws l 0) (notes_at notes l) in
    let s = length_stored b (get_or ws l 0) (notes_at notes l) in
    let one = d ∙ ap (λ G. over_at (8 * l) (stored_line b (get_or ws l 0) G) out) f in
    let e = i.size in
    record {
      size = ap length one ∙ length_at (8 * l) line out (omega arith) ∙ e;
      counted = rw (add-one l) (ap₂ ◌+◌ i.counted (c.0 ∙ ap (facts_in 64) f));
      few = omega (arith, i.few, c.1);
      written = rw (add-one l) (over_then 0 (8 * l) (kept_lines b ws notes l) line out₀ out out' (omega arith) (omega arith) i.written one);
    }

-- ---- the answer

-- with a rule of the second form, the lines in either: the answer, and what the output holds
pub record FoundIn (rule ws : List ℕ) (b : Bool) (out : List ℕ) (a : Answer ℕ) (out' : List ℕ) : Type 0 where
  pub answer : a ≡ found_answer form_in rule ws out
  pub output : out' ≡ output_for (words_of (form_by b) (found_lines form_in rule ws)) a out

module _ (rule ws : List ℕ) (b : Bool) (out : List ℕ) (asked : Asked rule ws) where
  found_after : check_found form_in rule ws ≡ question19 form_in rule ws
  unfolding check_found
  found_after = then_passed _ _ asked

  pub nineteen_no : (a : Answer ℕ) (q i : ℕ) → a ≡ refused q i → question19 form_in rule ws ≡ refused q i → FoundIn rule ws b out a out
  unfolding found_answer
  nineteen_no a q i told e = record {
    answer = told ∙ sym (then_refused (check_found form_in rule ws) _ q i (found_after ∙ e));
    output = ap (λ x. output_for (words_of (form_by b) (found_lines form_in rule ws)) x out) (sym told);
  }

  module _ (known : question19 form_in rule ws ≡ passed tt) where
    found_passed : check_found form_in rule ws ≡ passed tt
    found_passed = found_after ∙ known

    pub room_no : length out < 8 * length ws → FoundIn rule ws b out (refused 13 0) out
    unfolding found_answer
    room_no h = record { answer = sym (then_passed (check_found form_in rule ws) _ found_passed ∙ then_refused _ _ 13 0 (once_no 13 _ (lt-leb (8 * length ws) (length out) h))); output = refl }

    pub all_yes : (out' : List ℕ) (count : ℕ) → 8 * length ws ≤ length out → count ≡ found_count form_in rule ws → (words : List ℕ)
        → words ≡ words_of (form_by b) (found_lines form_in rule ws) → out' ≡ over_at 0 words out → FoundIn rule ws b out (passed count) out'
    unfolding found_answer
    all_yes out' count h e words w d = record {
      answer = ap passed e ∙ sym (then_passed (check_found form_in rule ws) _ found_passed ∙ then_passed _ _ (once_in 13 _ (le-leb (8 * length ws) (length out) h)));
      output = d ∙ ap (λ x. x ++ drop (length x) out) w;
    }

-- ---- in the words of a caller

-- what find_facts promises of its answer and its output
abbrev pub Gives : Form → (rule ws out : List ℕ) → Answer ℕ → (out' : List ℕ) → Type 0
Gives form rule ws out a out' =
    (a ≡ found_answer form rule ws out) × ((out' ≡ found_output form rule ws out) × HandsOut form rule ws a out')

pub gives : (form : Form) → GoodForm form → (rule ws out : List ℕ) (a : Answer ℕ) (out' : List ℕ) → a ≡ found_answer form rule ws out
    → out' ≡ found_output form rule ws out → Gives form rule ws out a out'
unfolding found_output found_answer
gives form good rule ws out a out' e d = (
  e,
  (
    d,
    λ n z.
        let passes = (both_passed (check_found form rule ws) _ n (sym e ∙ z)).0 in
        let largest = (finding form good rule ws).largest passes in
        let first = d ∙ ap (λ x. output_for (found_words form rule ws) x out) (sym e ∙ z) in
        subst (Largest form (check_script form rule) ws)
        (sym (ap (take (8 * length ws)) first ∙ take_at (found_words form rule ws) (drop (length (found_words form rule ws)) out) (8 * length ws) largest.annotates.whole)) largest,
  ),
)

-- the width of a word does not change the lines found
output_narrow : (rule ws : List ℕ) → length rule ≤ 32 → (out : List ℕ) (a : Answer ℕ) → a ≡ found_answer form32 rule ws out
    → output_for (words_of form32 (found_lines form64 (widen_rule rule) ws)) a out ≡ found_output form32 rule ws out
unfolding found_output found_words found_answer check_found
output_narrow rule ws few out (refused q i) e = ap (λ x. output_for (found_words form32 rule ws) x out) e
output_narrow rule ws few out (passed n) e =
    let asked = (both_passed (check_instructions form32 rule ws) _ tt (both_passed (check_found form32 rule ws) _ n (sym e)).0).0 in
    ap (λ ls. output_for (words_of form32 ls) (passed n) out) (found_lines_widen rule ws few asked) ∙ ap (λ x. output_for (found_words form32 rule ws) x out) e

-- for a rule of either form, held in the second
gives_by : (b : Bool) (rule ws out out' : List ℕ) (a : Answer ℕ) → length rule ≤ (form_by b).width
    → FoundIn (second_form b rule) ws b out a out' → Gives (form_by b) rule ws out a out'
unfolding found_output found_words form32
gives_by true rule ws out out' a few f =
    gives form64 good64 rule ws out a out' f.answer (f.output ∙ ap (λ x. output_for (found_words form64 rule ws) x out) f.answer)
gives_by false rule ws out out' a few f =
    let answer = f.answer ∙ found_widen rule ws few out out refl in
    gives form32 good32 rule ws out a out' answer (f.output ∙ output_narrow rule ws few out a answer)

module _ (b : Bool) (rule ws table : List ℕ) (moved : table ≡ second_form b rule) (few : length rule ≤ (form_by b).width) where
  pub instructions_second : check_instructions form_in table ws ≡ check_instructions (form_by b) rule ws
  unfolding check_instructions
  instructions_second =
      ap₂ (λ c t. c then check_code t annotated_opcode (bare_stored ws))
      (ap (check_rule form_in) moved ∙ second_asked b rule few) (ap table_in moved ∙ second_table b rule)

  pub found_second : (out out' : List ℕ) (a : Answer ℕ) → FoundIn table ws b out a out' → Gives (form_by b) rule ws out a out'
  found_second out out' a f = gives_by b rule ws out out' a few (subst (λ r. FoundIn r ws b out a out') moved f)

-- of the second form, however many nodes
pub found_wide : (rule ws out out' : List ℕ) (a : Answer ℕ) → FoundIn rule ws true out a out' → Gives form64 rule ws out a out'
unfolding found_output found_words
found_wide rule ws out out' a f =
    gives form64 good64 rule ws out a out' f.answer (f.output ∙ ap (λ x. output_for (found_words form64 rule ws) x out) f.answer)

good_by : (b : Bool) → GoodForm (form_by b)
good_by true = good64
good_by false = good32

module _ (b : Bool) (rule ws : List ℕ) where
  -- questions 1 to 7 have a no
  pub seven_no : (out : List ℕ) (a : Answer ℕ) (q i : ℕ) → a ≡ refused q i → check_instructions (form_by b) rule ws ≡ refused q i → Gives (form_by b) rule ws out a out
  unfolding found_answer check_found found_output
  seven_no out a q i told e =
      let answer = told ∙ sym (then_refused (check_found (form_by b) rule ws) _ q i (then_refused (check_instructions (form_by b) rule ws) _ q i e)) in
      gives (form_by b) (good_by b) rule ws out a out answer (ap (λ x. output_for (found_words (form_by b) rule ws) x out) (sym told ∙ answer))

  module _ (asked : check_instructions (form_by b) rule ws ≡ passed tt) where
    pub few_asked : length rule ≤ (form_by b).width
    few_asked = (rule_out (form_by b) rule (ready (form_by b) rule ws asked).rule_passed).few_nodes

    module _ (table : List ℕ) (moved : table ≡ second_form b rule) where
      pub asked_second : Asked table ws
      asked_second = instructions_second b rule ws table moved few_asked ∙ asked

      -- question 19 has a no, 13, and neither
      pub no_19 : (out : List ℕ) (a : Answer ℕ) (q i : ℕ) → a ≡ refused q i → question19 form_in table ws ≡ refused q i → Gives (form_by b) rule ws out a out
      no_19 out a q i told e = found_second b rule ws table moved few_asked out out a (nineteen_no table ws b out asked_second a q i told e)

      module _ (out : List ℕ) (known : question19 form_in table ws ≡ passed tt) where
        pub no_13 : length out < 8 * length ws → Gives (form_by b) rule ws out (refused 13 0) out
        no_13 h = found_second b rule ws table moved few_asked out out (refused 13 0) (room_no table ws b out asked_second known h)

        pub found_all : (out' notes : List ℕ) (count : ℕ) → 8 * length ws ≤ length out → LargestAt table ws notes → ((l : ℕ) → l < length ws → get_or ws l 0 < 4294967296)
            → count ≡ count_facts 64 (length ws) (notes_at notes) → out' ≡ over_at 0 (kept_lines b ws notes (length ws)) out → Gives (form_by b) rule ws out (passed count) out'
        found_all out' notes count h a small e d =
            found_second b rule ws table moved few_asked out out' (passed count)
            (all_yes table ws b out asked_second known out' count h (e ∙ count_found table ws notes asked_second a) _ (kept_found table ws notes asked_second a b small) d)
