-- Request 2026-05, facts found for bare hands: the search for the largest facts, question 19, what is written and answered.
--     annotate, narrow, push, sweep, settle, search           sweeps over the lines until nothing changes
--     check_instructions, question19, check_found               questions 1 to 7; then 19
--     found_words, found_count, found_answer, found_output        what is written and answered, with 13 after 19
-- What is promised of them is in `specs/Found.antt`.
use Rattle.std.specs.Prelude.{Bool, true, false, ◌&&◌, List, [], ◌∷◌, map, ℕ, zero, suc, ◌+◌, length, eqb}
use Rattle.std.proofs.Math.Option.{Option, none, some}
use Rattle.spec.specs.Questions.{count_below, Answer, passed, Checked, ◌then◌, ask}
use Rattle.spec.specs.Rule.{Form, Table, table_of}
use Rattle.spec.specs.Script.{Code, bare_code, annotated_opcode, check_words}
use Rattle.spec.specs.Facts.{value_is, prior_is, kept_is_prior, work_is_next, work_is_prior, every_fact, Facts}
use Rattle.spec.specs.Check.{Lines, line_at, facts_read, fact_word, words_of, passed_on, present_known}
use Rattle.spec.specs.Weaver.{room_for_lines, output_for}
use Rattle.largest.specs.Notes.{Notes, notes_of, follower_of, start_notes}

-- ---- how many facts, counted over the seven words of each line

-- the facts of one line
unfoldable pub facts_in : (width : ℕ) → Facts → ℕ
facts_in width F =
    count_below width (F (value_is true)) + count_below width (F (value_is false))
    + count_below width (F (prior_is true)) + count_below width (F (prior_is false))
    + count_below width (F kept_is_prior) + count_below width (F work_is_next) + count_below width (F work_is_prior)

-- of n lines
unfoldable pub count_facts : (width n : ℕ) → Notes → ℕ
count_facts width zero N = 0
count_facts width (suc n) N = count_facts width n N + facts_in width (N n)

-- ---- the search

-- the lines of a script, with these notes
unfoldable pub annotate : Code → Notes → Lines
annotate [] N = []
annotate (i ∷ code) N = record { instruction = i; annotation = N 0 } ∷ annotate code (λ l. N (suc l))

-- the facts of F about `width` nodes, by way of their words: a computation then has them once for all
unfoldable pub stored : (width : ℕ) → Facts → Facts
stored width F = facts_read width (map (λ f. fact_word width 0 (F f)) every_fact)

infixl 25 ◌∩◌
unfoldable pub ◌∩◌ : Facts → Facts → Facts
(F ∩ G) f k = F f k && G f k

-- line m keeps of its notes those in G
unfoldable pub narrow : (width m : ℕ) → Facts → Lines → Lines
narrow width m G [] = []
narrow width zero G (x ∷ ls) = record { instruction = x.instruction; annotation = stored width (x.annotation ∩ G) } ∷ ls
narrow width (suc m) G (x ∷ ls) = x ∷ narrow width m G ls

unfoldable pub narrow_to : (width : ℕ) → Option ℕ → Facts → Lines → Lines
narrow_to width none G ls = ls
narrow_to width (some m) G ls = narrow width m G ls

-- the lines that follow line l keep what it passes on
unfoldable pub push : (width : ℕ) → Table → ℕ → Lines → Lines
push width t l ls =
    let x = line_at ls l in
    let way : Bool → Lines → Lines = λ taken. narrow_to width (follower_of l x.instruction taken) (passed_on t x taken) in
    way false (way true ls)

-- a sweep over lines 0 to n - 1
unfoldable pub sweep : (width : ℕ) → Table → ℕ → Lines → Lines
sweep width t zero ls = ls
sweep width t (suc n) ls = push width t n (sweep width t n ls)

unfoldable pub count_in : (width : ℕ) → Lines → ℕ
count_in width ls = count_facts width (length ls) (notes_of ls)

-- sweeps until the number of facts stays
unfoldable pub settle : (width : ℕ) → Table → (sweeps : ℕ) → Lines → Lines
settle width t zero ls = ls
settle width t (suc sweeps) ls =
    let next = sweep width t (length ls) ls in
    elim (eqb (count_in width next) (count_in width ls)) [ true ↦ next | false ↦ settle width t sweeps next ]

-- from all that belongs; each sweep but the last takes a fact away
unfoldable pub search : (width : ℕ) → Table → Code → Lines
search width t code =
    let ls = annotate code (λ l. stored width (start_notes t l)) in
    settle width t (suc (count_in width ls)) ls

-- ---- questions 1 to 7, 19 and 13, and what is written

-- such instructions, one word a line with the opcodes of annotated scripts, after the rule: questions 1 to 7
unfoldable pub check_instructions : Form → (rule instructions : List ℕ) → Checked
check_instructions form rule ws = check_words form annotated_opcode rule ws

-- the lines with the largest facts
unfoldable pub found_lines : Form → (rule instructions : List ℕ) → Lines
found_lines form rule ws = search form.width (table_of form rule) (bare_code ws)

-- 19: at each present, T of the last node in the largest facts?
unfoldable pub question19 : Form → (rule instructions : List ℕ) → Checked
question19 form rule ws = ask 19 (length ws) (λ l. present_known (table_of form rule) (line_at (found_lines form rule ws) l))

unfoldable pub check_found : Form → (rule instructions : List ℕ) → Checked
check_found form rule ws = check_instructions form rule ws then question19 form rule ws

-- it writes annotated lines
unfoldable pub found_words : Form → (rule instructions : List ℕ) → List ℕ
found_words form rule ws = words_of form (found_lines form rule ws)

-- and reports how many facts remain
unfoldable pub found_count : Form → (rule instructions : List ℕ) → ℕ
found_count form rule ws = count_facts form.width (length ws) (notes_of (found_lines form rule ws))

-- 13 after 19
unfoldable pub found_answer : Form → (rule instructions out : List ℕ) → Answer ℕ
found_answer form rule ws out = check_found form rule ws then room_for_lines (length ws) out then passed (found_count form rule ws)

-- the lent output afterwards: the annotated lines, and later words stay; a refusal changes nothing
unfoldable pub found_output : Form → (rule instructions out : List ℕ) → List ℕ
found_output form rule ws out = output_for (found_words form rule ws) (found_answer form rule ws out) out
