-- Request 2026-05's promise (`specs/Found.antt`): the largest facts are accepted, or no facts are.
--     ready                    what questions 1 to 7 say
--     found_largest, found_read, largest_obeying    the lines found
--     finding                  the promise, for every stored form
-- Assumes nothing.
use mathlib.Core.Path.{◌≡◌, refl, sym, subst, ap, ◌∙◌, fun_ext}
use mathlib.Core.Logic.{◌⊎◌, inl, inr}
use mathlib.Core.Bool.{Bool, true, false, not, ◌||◌}
use mathlib.Core.List.{List, [], ◌∷◌}
use Prim.Native.Nat.{ℕ, suc, ◌*◌, ◌/◌, ◌%◌, ◌^◌, ◌≤◌, ◌<◌}
use native.Mathlib.Omega.{arith}
use lib.ListN.{length, get_or, take, drop}
use lib.Seq.{take_at}
use borrow.Author.Tests.{le-leb, lt-leb, eq-eqb}
use Rattle.spec.specs.Questions.{Checked, ◌then◌, ask, ask_once, passed, refused}
use Rattle.spec.specs.Rule.{Form, Table, table_of, last_node, question1, question2, question3, question4, check_rule}
use Rattle.spec.specs.Script.{Instruction, Code, instruction_at, is_present, fields_of, instruction_read, fields_for, word_for, Stored, bare_stored, bare_code, most_lines, question5, annotated_opcode, line_allowed, question6, followers_exist, question7, check_code}
use Rattle.spec.specs.Facts.{◌⊑◌, belongs, close, value_is}
use Rattle.spec.specs.Check.{Lines, line_at, code_of, lines_of, annotated_stored, facts_belong, question8, question9, present_known, facts_follow, question11, check_script}
use Rattle.spec.specs.Weaver.{output_for}
use Rattle.spec.specs.Promise.{Accepted}
use Rattle.largest.specs.Notes.{notes_of, Obeys}
use Rattle.largest.specs.Largest.{check_instructions, found_lines, question19, check_found, found_words, found_count, found_answer, found_output}
use Rattle.largest.specs.Found.{Annotates, check_obeying, Within, Largest, KnownAt, Lacking, Unreached, ones_over, Found}
use Rattle.spec.proofs.BoolLaws.{clash, both_and, not_either, bool_ext, le_or_lt}
use Rattle.spec.proofs.QuestionLaws.{then_passed, then_refused, both_passed, then_no, once_in, once_no, once_out, once_number, ask_in, ask_out, ask_lowest, ask_either}
use Rattle.spec.proofs.RuleLaws.{InOrder, length_table, rule_out}
use Rattle.spec.proofs.FactLaws.{belongs_in}
use Rattle.spec.proofs.ClosingLaws.{extends}
use Rattle.spec.proofs.StoredLaws.{Small, fields_word, instruction_stored, stored_fit_lem, GoodForm, Storable, AllStorable, length_words, lines_stored, word_at}
use Rattle.spec.proofs.CodeLaws.{code_out, code_in, Allowed, allowed_out}
use Rattle.spec.proofs.SmallLaws.{opcode_most}
use Rattle.largest.proofs.CountLaws.{count_words_lem}
use Rattle.largest.proofs.LargestLaws.{largest_closed, unreached_all, welcome}
use Rattle.largest.proofs.LargestFound.{LargestLines, largest_found}
use Rattle.largest.proofs.LargestLoop.{lines_same}
use Rattle.largest.proofs.ObeyLaws.{nothing_past, slim_lines, length_codes, same_line, obeys_from, eight_to, nine_to, eleven_to, accepted_out, accepted_in, fit_small, fit_again, code_at, length_bare}

-- ---- refusals

-- every refusal's number is at most m
AtMost : ℕ → Checked → Type 0
AtMost m a = (q p : ℕ) → a ≡ refused q p → q ≤ m

most_then : (m : ℕ) (a b : Checked) → AtMost m a → AtMost m b → AtMost m (a then b)
unfolding AtMost
most_then m a b f g q p e = elim (then_no a b q p e) [ inl h ↦ f q p h | inr h ↦ g q p h.1 ]

most_ask : (m q n : ℕ) (ok : ℕ → Bool) → q ≤ m → AtMost m (ask q n ok)
unfolding AtMost
most_ask m q n ok h r p e = let z = (ask_lowest q n ok r p e).0 in omega arith

most_once : (m q : ℕ) (b : Bool) → q ≤ m → AtMost m (ask_once q b)
unfolding AtMost
most_once m q b h r p e = let z = once_number q r p b e in omega arith

instructions_most : (form : Form) (rule ws : List ℕ) → AtMost 7 (check_instructions form rule ws)
unfolding check_instructions check_rule check_code question1 question2 question3 question4 question5 question6 question7
instructions_most form rule ws =
    most_then 7 _ _
    (most_then 7 _ _ (most_once 7 1 _ (omega arith)) (most_then 7 _ _ (most_ask 7 2 _ _ (omega arith))
    (most_then 7 _ _ (most_ask 7 3 _ _ (omega arith)) (most_ask 7 4 _ _ (omega arith)))))
    (most_then 7 _ _ (most_once 7 5 _ (omega arith)) (most_then 7 _ _ (most_ask 7 6 _ _ (omega arith)) (most_ask 7 7 _ _ (omega arith))))

-- ---- what questions 1 to 7 say

all_storable : (form : Form) (xs : Lines) → ((l : ℕ) → l < length xs → Storable form (line_at xs l)) → AllStorable form xs
all_storable form [] h = tt
all_storable form (x ∷ xs) h = (h 0 (omega arith), all_storable form xs (λ l k. h (suc l) (omega arith)))

pub record Ready (form : Form) (rule ws : List ℕ) : Type 0 where
  pub rule_passed : check_rule form rule ≡ passed tt
  pub some_node : 0 < length (table_of form rule)
  pub ordered : InOrder (table_of form rule)
  pub few : length (table_of form rule) ≤ form.width
  pub some_line : 0 < length ws
  pub few_lines : length ws ≤ most_lines
  pub six : (l : ℕ) → l < length ws → Allowed (table_of form rule) annotated_opcode (get_or ws l 0)
  pub follow : (l : ℕ) → l < length ws → followers_exist (length ws) l (instruction_read (get_or ws l 0)) ≡ true

pub ready : (form : Form) (rule ws : List ℕ) → check_instructions form rule ws ≡ passed tt → Ready form rule ws
unfolding check_instructions
ready form rule ws e =
    let t = table_of form rule in
    let s = bare_stored ws in
    let (rule-ok, code_ok) = both_passed _ _ tt e in
    let r = rule_out form rule rule-ok in
    let c = code_out t annotated_opcode s code_ok in
    let n : length t ≡ length rule = length_table form rule in
    record {
      rule_passed = rule-ok;
      some_node = (let a : 0 < length rule = r.some_node in omega arith);
      ordered = r.ordered;
      few = (let a : length rule ≤ form.width = r.few_nodes in omega arith);
      some_line = c.some_line;
      few_lines = c.few_lines;
      six = λ l h. allowed_out t annotated_opcode s l (c.allowed l h);
      follow = c.follow;
    }

-- ---- there is one largest

largest_one : (form : Form) (ws : List ℕ) (check : List ℕ → Checked) (a b : List ℕ) → Largest form check ws a → Largest form check ws b
    → lines_of form a ≡ lines_of form b
largest_one form ws check a b x y =
    let same : code_of (lines_of form a) ≡ code_of (lines_of form b) = x.annotates.same ∙ sym y.annotates.same in
    lines_same (lines_of form a) (lines_of form b) same
    (λ l f k. bool_ext _ _ (y.holds a x.annotates x.passes l f k) (x.holds b y.annotates y.passes l f k))

module _ (form : Form) (g : GoodForm form) (rule ws : List ℕ) where
  abbrev t : Table
  t = table_of form rule

  abbrev bare : Code
  bare = bare_code ws

  abbrev found : Lines
  found = found_lines form rule ws

  -- any annotation of these instructions that obeys questions 8, 9 and 11
  obeying_says : InOrder t → (lines : List ℕ) → Annotates form ws lines → check_obeying form rule lines ≡ passed tt → Obeys t bare (notes_of (lines_of form lines))
  unfolding check_obeying question8 question9 question11
  obeying_says ordered lines a e =
      let ls = lines_of form lines in
      let (q₈, e₁) = both_passed _ _ tt e in
      let (q₉, q₁₁) = both_passed _ _ tt e₁ in
      subst (λ c. Obeys t c (notes_of ls)) a.same
      (obeys_from t ls form ordered (slim_lines form lines) (ask_out 8 _ _ q₈) (once_out 9 _ q₉) (ask_out 11 _ _ q₁₁))

  -- an accepted one obeys them, and question 10
  accepted_says : (lines : List ℕ) → Annotates form ws lines → Accepted form rule lines → Obeys t bare (notes_of (lines_of form lines))
  accepted_says lines a e = subst (λ c. Obeys t c (notes_of (lines_of form lines))) a.same (accepted_out form rule lines e).obeys

  accepted_known : (lines : List ℕ) → Annotates form ws lines → Accepted form rule lines → (l : ℕ) → l < length bare
      → present_known t (record { instruction = instruction_at bare l; annotation = notes_of (lines_of form lines) l }) ≡ true
  accepted_known lines a e l h =
      let ls = lines_of form lines in
      subst (λ c. present_known t (record { instruction = instruction_at c l; annotation = notes_of ls l }) ≡ true) a.same
      (subst (λ i. present_known t (record { instruction = i; annotation = notes_of ls l }) ≡ true) (sym (same_line ls l))
      ((accepted_out form rule lines e).known l (omega (arith, length_codes ls, ap length a.same))))

  -- the lines found, once questions 1 to 7 have a yes
  module _ (r : Ready form rule ws) where
    pub found_largest : LargestLines t bare found
    unfolding found_lines
    found_largest = largest_found form.width t r.ordered r.few bare

    pub length_found : length found ≡ length ws
    length_found = sym (length_codes found) ∙ ap length found_largest.same_code ∙ length_bare ws

    pub instruction_found : (l : ℕ) → (line_at found l).instruction ≡ instruction_read (get_or ws l 0)
    instruction_found l = sym (same_line found l) ∙ ap (λ c. instruction_at c l) found_largest.same_code ∙ code_at ws l

    obeys_found : Obeys t (code_of found) (notes_of found)
    obeys_found = subst (λ c. Obeys t c (notes_of found)) (sym found_largest.same_code) found_largest.largest.obeys

    small_found : (l : ℕ) → l < length ws → Small (fields_for (line_at found l).instruction)
    small_found l h = subst (λ i. Small (fields_for i)) (sym (instruction_found l)) (fit_small (get_or ws l 0) (r.six l h).fit)

    storable : (l : ℕ) → l < length found → Storable form (line_at found l)
    storable l h = record {
      small = small_found l (omega (arith, length_found));
      narrow = λ f k d.
          let i = belongs_in t r.ordered f k (obeys_found.belong l (omega (arith, length_codes found)) f k d) in
          let j : length t ≤ form.width = r.few in
          omega arith;
    }

    pub found_read : lines_of form (found_words form rule ws) ≡ found
    unfolding found_words
    found_read = lines_stored form g found (all_storable form found storable)

    pub found_whole : length (found_words form rule ws) ≡ 8 * length ws
    unfolding found_words
    found_whole = length_words form found ∙ ap (λ n. 8 * n) length_found

    found_annotates : Annotates form ws (found_words form rule ws)
    found_annotates = record { whole = found_whole; same = ap code_of found_read ∙ found_largest.same_code }

    first_found_word : (l : ℕ) → l < length ws → get_or (found_words form rule ws) (8 * l) 0 ≡ form.store_first (word_for (line_at found l).instruction)
    unfolding found_words
    first_found_word l h = word_at form found l (omega (arith, length_found))

    found_words_lem : (l : ℕ) → l < length ws → get_or ws l 0 < 2 ^ 32 → get_or (found_words form rule ws) (8 * l) 0 ≡ form.store_first (get_or ws l 0)
    found_words_lem l h small =
        first_found_word l h ∙ ap (λ i. form.store_first (word_for i)) (instruction_found l)
        ∙ ap form.store_first (fit_again (get_or ws l 0) small (r.six l h).fit)

    -- questions 5 to 7 of the words written
    abbrev s : Stored
    s = annotated_stored form (found_words form rule ws)

    word_is : (l : ℕ) → l < length ws → s.word l ≡ word_for (line_at found l).instruction
    word_is l h = ap form.read_first (first_found_word l h) ∙ g.read_back _

    unused_is : (l : ℕ) → l < length ws → s.unused l ≡ 0
    unused_is l h = ap form.unused_first (first_found_word l h) ∙ g.unused_zero_lem _

    read_is : (l : ℕ) → l < length ws → instruction_read (s.word l) ≡ instruction_read (get_or ws l 0)
    read_is l h = ap instruction_read (word_is l h) ∙ instruction_stored (line_at found l).instruction (small_found l h) ∙ instruction_found l

    opcode_fine : (i : Instruction) → Small (fields_for i) → annotated_opcode (fields_of (word_for i)).opcode ≡ true
    unfolding word_for
    opcode_fine i small = ap (λ f. annotated_opcode f.opcode) (fields_word (fields_for i) small) ∙ le-leb (fields_for i).opcode 14 (opcode_most i)

    line_fine : (l : ℕ) → l < length ws → line_allowed t annotated_opcode s l ≡ true
    unfolding line_allowed
    line_fine l h =
        let i = (line_at found l).instruction in
        let small = small_found l h in
        rw (unused_is l h, read_is l h, word_is l h)
        (both_and (both_and (both_and (opcode_fine i small) (stored_fit_lem i small)) refl) (r.six l h).names)

    code_passed : check_code t annotated_opcode s ≡ passed tt
    code_passed =
        let count : length (found_words form rule ws) / 8 ≡ length ws = omega (arith, found_whole) in
        code_in t annotated_opcode s (record {
          whole = eq-eqb _ 0 (let z = found_whole in let y : length (found_words form rule ws) % 8 ≡ 0 = omega arith in y);
          some_line = (let h : 0 < length ws = r.some_line in omega arith);
          few_lines = (let h : length ws ≤ most_lines = r.few_lines in omega arith);
          allowed = λ l h. line_fine l (omega arith);
          follow = λ l h. let i : l < length ws = omega arith in rw (count, read_is l i) (r.follow l i);
        })

    -- questions 8, 9 and 11 of the words written
    found_obeying : check_obeying form rule (found_words form rule ws) ≡ passed tt
    unfolding check_obeying question8 question9 question11
    found_obeying =
        rw found_read
        (then_passed _ _ (ask_in 8 (length found) (λ l. facts_belong form t (line_at found l)) (eight_to t found obeys_found form))
        ∙ then_passed _ _ (once_in 9 _ (nine_to t found obeys_found))
        ∙ ask_in 11 (length found) (λ l. facts_follow t found l) (eleven_to t found obeys_found))

    found_holds : (lines : List ℕ) → Annotates form ws lines → Obeys t bare (notes_of (lines_of form lines)) → Within form lines (found_words form rule ws)
    found_holds lines a o l =
        let count : length (lines_of form lines) ≡ length ws = sym (length_codes (lines_of form lines)) ∙ ap length a.same ∙ length_bare ws in
        rw found_read (elim (le_or_lt (length ws) l) [
          | inl h ↦ nothing_past (lines_of form lines) l (omega arith) _
          | inr h ↦ found_largest.largest.holds_all (notes_of (lines_of form lines)) o l (omega (arith, length_bare ws))
        ])

    pub largest_obeying : Largest form (check_obeying form rule) ws (found_words form rule ws)
    largest_obeying = record {
      annotates = found_annotates;
      passes = found_obeying;
      holds = λ others a e. found_holds others a (obeying_says r.ordered others a e);
    }

    -- question 10 of the lines found is question 19
    found_accepted : ((l : ℕ) → l < length ws → present_known t (line_at found l) ≡ true) → Accepted form rule (found_words form rule ws)
    found_accepted known = accepted_in form rule (found_words form rule ws) (record {
      rule_passed = r.rule_passed;
      code_passed = code_passed;
      obeys = rw found_read obeys_found;
      known = rw found_read (λ l h. known l (omega (arith, length_found)));
    })

    -- if any facts are accepted, the largest are
    found_known : (lines : List ℕ) → Annotates form ws lines → Accepted form rule lines → (l : ℕ) → l < length ws → present_known t (line_at found l) ≡ true
    found_known lines a e l h =
        subst (λ i. present_known t (record { instruction = i; annotation = notes_of found l }) ≡ true) (code_at ws l ∙ sym (instruction_found l))
        (welcome t r.ordered bare (notes_of found) (notes_of (lines_of form lines)) found_largest.largest
        (accepted_says lines a e) (accepted_known lines a e) l (omega (arith, length_bare ws)))

    largest_accepted : Accepted form rule (found_words form rule ws) → Largest form (check_script form rule) ws (found_words form rule ws)
    largest_accepted e = record {
      annotates = found_annotates;
      passes = e;
      holds = λ others a e. found_holds others a (accepted_says others a e);
    }

    -- a line that nothing leads to
    found_unreached : (l : ℕ) → Unreached bare l → notes_of (lines_of form (found_words form rule ws)) l ≡ belongs t
    found_unreached l u = rw found_read (fun_ext (λ f. fun_ext (λ k. bool_ext _ _
        (found_largest.largest.obeys.belong l u.is_line f k) (unreached_all t r.ordered bare (notes_of found) l found_largest.largest u f k))))

    found_count_lem : found_count form rule ws ≡ ones_over (length ws) (found_words form rule ws)
    unfolding found_count found_words
    found_count_lem = rw (← length_found) (count_words_lem form found)

    -- T of the last node, in facts that are closed
    closed_found : (l : ℕ) → l < length ws → close t (notes_of found l) ⊑ notes_of found l
    closed_found l h = largest_closed t r.ordered bare (notes_of found) found_largest.largest l (omega (arith, length_bare ws))

  -- a present that question 19 names
  known_not : (b c : Bool) → (not b || c) ≡ false → (b ≡ true) × (c ≡ false)
  known_not true c e = (refl, e)
  known_not false c e = clash refl e

  -- the lines written are those found, and so are their instructions
  written_known : Ready form rule ws → (l : ℕ) → notes_of found l (value_is true) (last_node t) ≡ true → KnownAt form rule ws l
  written_known r l e = subst (λ ls. notes_of ls l (value_is true) (last_node t) ≡ true) (sym (found_read r)) e

  known_found : Ready form rule ws → (l : ℕ) → KnownAt form rule ws l → notes_of found l (value_is true) (last_node t) ≡ true
  known_found r l e = subst (λ ls. notes_of ls l (value_is true) (last_node t) ≡ true) (found_read r) e

  same_present : Ready form rule ws → (l : ℕ) → is_present (instruction_at bare l) ≡ is_present (line_at found l).instruction
  same_present r l = ap is_present (code_at ws l ∙ sym (instruction_found r l))

  lacks : (p : ℕ) → check_found form rule ws ≡ refused 19 p → Lacking form rule ws p
  unfolding check_found question19 present_known AtMost
  lacks p e = elim (then_no (check_instructions form rule ws) _ 19 p e) [
    | inl h ↦ absurd (omega (arith, instructions_most form rule ws 19 p h))
    | inr h ↦
        let q = h.0 in
        let r = ready form rule ws q in
        let (x, inside, fails, before) = ask_lowest 19 (length ws) (λ l. present_known t (line_at found l)) 19 p h.1 in
        let (at, lost) = known_not (is_present (line_at found p).instruction) (close t (line_at found p).annotation (value_is true) (last_node t)) fails in
        record {
          asked = q;
          is_there = inside;
          at_present = same_present r p ∙ at;
          without = λ d. clash (extends t (line_at found p).annotation (value_is true) (last_node t) (known_found r p d)) lost;
          lowest = λ l u pr. written_known r l (closed_found r l (omega arith) (value_is true) (last_node t)
              (not_either (is_present (line_at found l).instruction) _ (before l u) (sym (same_present r l) ∙ pr)));
        }
  ]

  found_first : check_found form rule ws ≡ passed tt → Ready form rule ws
  unfolding check_found
  found_first e = ready form rule ws (both_passed _ _ tt e).0

  found_last : check_found form rule ws ≡ passed tt → (l : ℕ) → l < length ws → present_known t (line_at found l) ≡ true
  unfolding check_found question19
  found_last e = ask_out 19 (length ws) _ (both_passed _ _ tt e).1

  none_help : (p : ℕ) → check_found form rule ws ≡ refused 19 p → (lines : List ℕ) → Annotates form ws lines → Accepted form rule lines → ⊥
  unfolding present_known
  none_help p e lines a d =
      let k = lacks p e in
      let r = ready form rule ws k.asked in
      let c = found_known r lines a d p k.is_there in
      k.without (written_known r p (closed_found r p k.is_there (value_is true) (last_node t)
      (not_either (is_present (line_at found p).instruction) _ c (sym (same_present r p) ∙ k.at_present))))

  either_way : check_instructions form rule ws ≡ passed tt → (check_found form rule ws ≡ passed tt) ⊎ ((p : ℕ) × (check_found form rule ws ≡ refused 19 p))
  unfolding check_found question19
  either_way e = elim (ask_either 19 (length ws) (λ l. present_known t (line_at found l))) [
    | inl a ↦ inl (then_passed _ _ e ∙ a)
    | inr (p, a) ↦ inr (p, then_passed _ _ e ∙ a)
  ]

  -- a refusal leaves the output
  untouched : (q p : ℕ) (out : List ℕ) → found_answer form rule ws out ≡ refused q p
      → (found_answer form rule ws out ≡ refused q p) × (found_output form rule ws out ≡ out)
  unfolding found_output
  untouched q p out e = (e, ap (λ a. output_for (found_words form rule ws) a out) e)

  no_answer : (q p : ℕ) → check_found form rule ws ≡ refused q p → (out : List ℕ) → found_answer form rule ws out ≡ refused q p
  unfolding found_answer
  no_answer q p e out = then_refused _ _ q p e

  short_answer : check_found form rule ws ≡ passed tt → (out : List ℕ) → length out < 8 * length ws → found_answer form rule ws out ≡ refused 13 0
  unfolding found_answer
  short_answer e out h = then_passed _ _ e ∙ then_refused _ _ 13 0 (once_no 13 _ (lt-leb (8 * length ws) (length out) h))

  yes_answer : check_found form rule ws ≡ passed tt → (out : List ℕ) → 8 * length ws ≤ length out
      → found_answer form rule ws out ≡ passed (found_count form rule ws)
  unfolding found_answer
  yes_answer e out h = then_passed _ _ e ∙ then_passed _ _ (once_in 13 _ (le-leb (8 * length ws) (length out) h))

  written_first : check_found form rule ws ≡ passed tt → (out : List ℕ) → 8 * length ws ≤ length out
      → take (8 * length ws) (found_output form rule ws out) ≡ found_words form rule ws
  unfolding found_output
  written_first e out h =
      ap (λ a. take (8 * length ws) (output_for (found_words form rule ws) a out)) (yes_answer e out h)
      ∙ take_at (found_words form rule ws) (drop (length (found_words form rule ws)) out) (8 * length ws) (found_whole (found_first e))

  pub finding : Found form rule ws
  finding = record {
    searched = λ e. largest_obeying (ready form rule ws e);
    unreached = λ e. found_unreached (ready form rule ws e);
    either = either_way;
    lacking = lacks;
    hopeless = none_help;
    largest = λ e. largest_accepted (found_first e) (found_accepted (found_first e) (found_last e));
    refuses = λ q p e out. untouched q p out (no_answer q p e out);
    succeeds = λ e out h. (yes_answer e out h, written_first e out h);
    short = λ e out h. untouched 13 0 out (short_answer e out h);
    same_words = λ e. found_words_lem (ready form rule ws e);
    counted = λ e. found_count_lem (ready form rule ws e);
    unique = λ check a b x y. largest_one form ws check a b x y;
  }
