-- Question 4 and the weaver before request 2026-06: the definitions that the request changed, and those that rest on them, as they stood; and
-- what "a table without sharing weaves as before" says. Only `BeforeLaws` uses them. Not here: what the request left as it was.
use Rattle.std.specs.Prelude.{◌≡◌, true, false, cond, ◌&&◌, List, [], ◌∷◌, ◌++◌, ℕ, zero, suc, ◌+◌, ◌*◌, length, eqb, ltb, leb}
use Rattle.spec.specs.Questions.{count, Answer, passed, Checked, ◌then◌, ask, ask_once}
use Rattle.spec.specs.Rule as now-rule
use Rattle.spec.specs.Rule.{Form, Node, false_node, test_node, implies_node, since_node, weak_previous_node, Table, node_at, last_node, is_false, is_since, is_weak_previous, is_past, is_shared, table_of, through, question1, question2, question3, mentions}
use Rattle.spec.specs.Script.{if_test, if_kept, if_work, Instruction, branch, goto, present, Code, is_present, bare_opcode, bare_stored, bare_code, most_lines, check_code}
use Rattle.spec.specs.Facts.{value_is, prior_is, work_is_next, Facts, ◌∪◌, only, one}
use Rattle.spec.specs.Check.{Lines, words_of}
use Rattle.spec.specs.Weaver as now-weaver
use Rattle.spec.specs.Weaver.{bare_facts, line, size_from, Decision, leaf, setting, keeps, is_test_node, retarget, room_for_lines, output_for}

-- 4: is each node but the last an operand exactly once?
unfoldable pub question4 : Table → Checked
question4 t = ask 4 (last_node t) (λ k. eqb (mentions t k) 1)

unfoldable pub check_rule : Form → List ℕ → Checked
check_rule form ws = question1 form ws then question2 form ws then question3 (table_of form ws) then question4 (table_of form ws)

-- a past node's code has these and W of the nodes done, those below k
unfoldable pub done_facts : Table → ℕ → Facts
done_facts t k = bare_facts t ∪ only work_is_next (λ j. is_past (node_at t j) && ltb j k)

unfoldable pub decide_size : Table → ℕ → ℕ
decide_size t k = through 0 size_from t k

unfoldable pub decide_from : Table → (ℕ → Decision) → Node → ℕ → Decision
-- false: go to the false place
decide_from t decide false_node k place on_true on_false F = line (goto on_false) F ∷ []
-- equal, below, equal to a register: test to the true place, then go to the false place
decide_from t decide (test_node a) k place on_true on_false F = leaf (if_test a) k place on_true on_false F
-- implies: left, with its true place at the code for right and its false place at the true place; then right, which also has T
-- of left
decide_from t decide (implies_node left right) k place on_true on_false F =
    let right_at = place + decide_size t left in
    decide left place right_at on_true F ++ decide right right_at on_true on_false (F ∪ one (value_is true) left)
-- since: 11, likewise
decide_from t decide (since_node left right) k place on_true on_false F = leaf (if_work k) k place on_true on_false F
-- weak previous: 10, then go to the false place
decide_from t decide (weak_previous_node left) k place on_true on_false F = leaf (if_kept k) k place on_true on_false F

-- the code for a node's operands is written by the same rule
unfoldable pub decide : Table → ℕ → Decision
decide t k = through (λ place on_true on_false F. []) (decide_from t) t k

-- the places of a since node's code after deciding right: the 10, the code deciding left, the setting and the clearing line
abbrev pub test_at : Table → (left right place : ℕ) → ℕ
test_at t left right place = place + decide_size t right

abbrev pub left_at : Table → (left right place : ℕ) → ℕ
left_at t left right place = test_at t left right place + 2

abbrev pub set_at : Table → (left right place : ℕ) → ℕ
set_at t left right place = left_at t left right place + decide_size t left

abbrev pub clear_at : Table → (left right place : ℕ) → ℕ
clear_at t left right place = set_at t left right place + 2

-- node k's code, from facts F
unfoldable pub update : Table → Node → (k place : ℕ) → Facts → Lines
update t false_node k place F = []
update t (test_node a) k place F = []
update t (implies_node left right) k place F = []
-- decide right; where false, a 10 to the code deciding left, then a go to the clearing line; left true or right true goes to the
-- setting line; with F of right and A or B after the 10
update t (since_node left right) k place F =
    let not_right = F ∪ one (value_is false) right in
    decide t right place (set_at t left right place) (test_at t left right place) F
    ++ (line (branch (if_kept k) (left_at t left right place)) not_right
    ∷ line (goto (clear_at t left right place)) (not_right ∪ one (prior_is false) k)
    ∷ decide t left (left_at t left right place) (set_at t left right place) (clear_at t left right place) (not_right ∪ one (prior_is true) k))
    ++ setting k k (set_at t left right place) F
-- decide its operand
update t (weak_previous_node left) k place F =
    let set = place + decide_size t left in
    decide t left place set (set + 2) F ++ setting k left set F

unfoldable pub update_size : Table → Node → ℕ
update_size t false_node = 0
update_size t (test_node a) = 0
update_size t (implies_node left right) = 0
update_size t (since_node left right) = decide_size t right + 2 + decide_size t left + 3
update_size t (weak_previous_node left) = decide_size t left + 3

-- the block takes past nodes in rising order: those below n
unfoldable pub updates_size : ℕ → Table → ℕ
updates_size zero t = 0
updates_size (suc k) t = updates_size k t + update_size t (node_at t k)

unfoldable pub updates : ℕ → Table → (place : ℕ) → Lines
updates zero t place = []
updates (suc k) t place = updates k t place ++ update t (node_at t k) k (place + updates_size k t) (done_facts t k)

unfoldable pub block_size : Table → ℕ
block_size t = updates_size (length t) t + decide_size t (last_node t) + 1 + count is_past t

abbrev pub decision_at : Table → (place : ℕ) → ℕ
decision_at t place = place + updates_size (length t) t

abbrev pub present_at : Table → (place : ℕ) → ℕ
present_at t place = decision_at t place + decide_size t (last_node t)

-- after them the last node is decided: true leads to present and the 12s; false leads past the block. Present has M, W and T of
-- the last node.
unfoldable pub block : Table → (place : ℕ) → Lines
block t place =
    let done = done_facts t (length t) in
    updates (length t) t place
    ++ decide t (last_node t) (decision_at t place) (present_at t place) (place + block_size t) done
    ++ (line present (done ∪ one (value_is true) (last_node t)) ∷ keeps (length t) t)

-- a block has 1 + 2 × tests + falses + 8 × sinces + 6 × weak previouses lines
unfoldable pub block_lines : Table → ℕ
block_lines t = 1 + 2 * count is_test_node t + count is_false t + 8 * count is_since t + 6 * count is_weak_previous t

abbrev pub line_size : Table → Instruction → ℕ
line_size t i = cond (is_present i) (block_size t) 1

-- where bare line l now starts
unfoldable pub start_of : Table → Code → ℕ → ℕ
start_of t [] l = 0
start_of t (i ∷ code) zero = 0
start_of t (i ∷ code) (suc l) = line_size t i + start_of t code l

-- each present becomes a block; targets move to where their line now starts
unfoldable pub weave_line : Table → Code → (place : ℕ) → Instruction → Lines
weave_line t code place i = cond (is_present i) (block t place) (line (retarget (start_of t code) i) (bare_facts t) ∷ [])

-- the rest of a script, from `place` on
unfoldable pub weave_from : Table → Code → (place : ℕ) → Code → Lines
weave_from t code place [] = []
weave_from t code place (i ∷ rest) = weave_line t code place i ++ weave_from t code (place + line_size t i) rest

unfoldable pub weave : Table → Code → Lines
weave t code = weave_from t code 0 code

-- how many lines that is: where the line after the last would start
abbrev pub woven_count : Table → Code → ℕ
woven_count t code = start_of t code (length code)

unfoldable pub woven : Form → (rule bare : List ℕ) → List ℕ
woven form rule bare = words_of form (weave (table_of form rule) (bare_code bare))

abbrev pub woven_lines : Form → (rule bare : List ℕ) → ℕ
woven_lines form rule bare = woven_count (table_of form rule) (bare_code bare)

-- questions 1 to 7 and 12
unfoldable pub check_weaving : Form → (rule bare : List ℕ) → Checked
check_weaving form rule bare =
    (check_rule form rule then check_code (table_of form rule) bare_opcode (bare_stored bare))
    then ask_once 12 (leb (woven_lines form rule bare) most_lines)

unfoldable pub weaving : Form → (rule bare out : List ℕ) → Answer ℕ
weaving form rule bare out =
    check_weaving form rule bare then room_for_lines (woven_lines form rule bare) out then passed (woven_lines form rule bare)

unfoldable pub output_after : Form → (rule bare out : List ℕ) → List ℕ
output_after form rule bare out = output_for (woven form rule bare) (weaving form rule bare out) out

-- ---- a table without sharing weaves as before

pub record AsBefore (form : Form) (rule : List ℕ) : Type 0 where
  -- it passes the questions as they are now, and no node is shared
  pub passes : now-rule.check_rule form rule ≡ passed tt
  pub unshared : (k : ℕ) → is_shared (table_of form rule) k ≡ false
  -- every bare script and output gets the same answer, and the same words are written
  pub answer : (bare out : List ℕ) → now-weaver.weaving form rule bare out ≡ weaving form rule bare out
  pub output : (bare out : List ℕ) → now-weaver.output_after form rule bare out ≡ output_after form rule bare out
  -- and the formula gives a block as many lines
  pub formula : now-weaver.block_lines (table_of form rule) ≡ block_lines (table_of form rule)
