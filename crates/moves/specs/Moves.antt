-- Request 2026-07, the moves: rules and annotated scripts go from the old stored form to the second, and back.
--     widen_node, narrow_node, widen_word, narrow_word           a node's word; a word of a line
--     widen_rule, narrow_rule, widen_script, narrow_script       the words of a rule and of a script
--     question20, check_back, check_move, check_script_up, check_script_back    20; questions 5 to 8; what each move puts before 13
--     rule_up, rule_back, script_up, script_back                 what each move answers
--     rule_up_output, rule_back_output, script_up_output, script_back_output    what the lent output holds then
-- What is promised of them is in `specs/Moved.antt`.
use Rattle.std.specs.Prelude.{◌≡◌, List, map, ℕ, ◌*◌, ◌/◌, ◌^◌, ◌<◌, length, leb}
use Rattle.spec.specs.Questions.{Answer, passed, Checked, ◌then◌, ask_once}
use Rattle.spec.specs.Rule.{NodeFields, Form, form32, form64, table_of, check_rule}
use Rattle.spec.specs.Script.{annotated_opcode, check_code}
use Rattle.spec.specs.Check.{line_length, lines_of, annotated_stored, question8}
use Rattle.spec.specs.Weaver.{room_for_lines, output_for}

-- ---- the words

-- a node's word moves field by field; a set bit of the old form's unused field is one of the second form's, so that question 2
-- refuses at the same node
unfoldable pub widen_node : ℕ → ℕ
widen_node w = form64.store_node (form32.read_node w)

unfoldable pub narrow_node : ℕ → ℕ
narrow_node w = form32.store_node (form64.read_node w)

-- fields that the old form has space for
pub record Narrow (f : NodeFields) : Type 0 where
  pub left_small : f.left < 32
  pub right_small : f.right < 32
  pub spare_zero : f.spare ≡ 0

-- a word of a line, instruction or facts: the old form's is the upper half, for node 0 is the most significant bit in both
abbrev pub widen_word : ℕ → ℕ
widen_word w = w * 2 ^ 32

abbrev pub narrow_word : ℕ → ℕ
narrow_word w = w / 2 ^ 32

abbrev pub widen_rule : List ℕ → List ℕ
widen_rule rule = map widen_node rule

abbrev pub narrow_rule : List ℕ → List ℕ
narrow_rule rule = map narrow_node rule

abbrev pub widen_script : List ℕ → List ℕ
widen_script script = map widen_word script

abbrev pub narrow_script : List ℕ → List ℕ
narrow_script script = map narrow_word script

-- ---- the questions

-- 20: of a move back, at most 32 nodes?
unfoldable pub question20 : List ℕ → Checked
question20 rule = ask_once 20 (leb (length rule) form32.width)

-- each move puts questions 1 to 4 first, of the form moved from; one back then refuses more than 32 nodes with 20
unfoldable pub check_back : (rule : List ℕ) → Checked
check_back rule = check_rule form64 rule then question20 rule

-- a script's move then puts 5 to 8
unfoldable pub check_move : Form → (rule script : List ℕ) → Checked
check_move form rule script =
    check_code (table_of form rule) annotated_opcode (annotated_stored form script)
    then question8 form (table_of form rule) (lines_of form script)

unfoldable pub check_script_up : (rule script : List ℕ) → Checked
check_script_up rule script = check_rule form32 rule then check_move form32 rule script

unfoldable pub check_script_back : (rule script : List ℕ) → Checked
check_script_back rule script = check_back rule then check_move form64 rule script

-- ---- the moves: too little output is 13, last, and a move answers its node or line count

abbrev pub node_count : (rule : List ℕ) → ℕ
node_count rule = length rule

abbrev pub line_count : (script : List ℕ) → ℕ
line_count script = length script / line_length

unfoldable pub move_rule : (rule out : List ℕ) → Answer ℕ
move_rule rule out = ask_once 13 (leb (node_count rule) (length out)) then passed (node_count rule)

unfoldable pub move_script : (script out : List ℕ) → Answer ℕ
move_script script out = room_for_lines (line_count script) out then passed (line_count script)

unfoldable pub rule_up : (rule out : List ℕ) → Answer ℕ
rule_up rule out = check_rule form32 rule then move_rule rule out

unfoldable pub rule_back : (rule out : List ℕ) → Answer ℕ
rule_back rule out = check_back rule then move_rule rule out

unfoldable pub script_up : (rule script out : List ℕ) → Answer ℕ
script_up rule script out = check_script_up rule script then move_script script out

unfoldable pub script_back : (rule script out : List ℕ) → Answer ℕ
script_back rule script out = check_script_back rule script then move_script script out

-- ---- the lent output afterwards: the moved words, and later words stay; a refusal changes nothing

unfoldable pub rule_up_output : (rule out : List ℕ) → List ℕ
rule_up_output rule out = output_for (widen_rule rule) (rule_up rule out) out

unfoldable pub rule_back_output : (rule out : List ℕ) → List ℕ
rule_back_output rule out = output_for (narrow_rule rule) (rule_back rule out) out

unfoldable pub script_up_output : (rule script out : List ℕ) → List ℕ
script_up_output rule script out = output_for (widen_script script) (script_up rule script out) out

unfoldable pub script_back_output : (rule script out : List ℕ) → List ℕ
script_back_output rule script out = output_for (narrow_script script) (script_back rule script out) out
