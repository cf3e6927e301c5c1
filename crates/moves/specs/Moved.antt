-- Request 2026-07, the promise: rules and annotated scripts move from the old form to the second and back unchanged, and facts, lines,
-- verdicts and refusals are the same in both. It speaks of stored words. `proofs/Moving.antt` proves it.
use Rattle.std.specs.Prelude.{◌≡◌, Bool, List, ◌++◌, ℕ, ◌^◌, ◌≤◌, ◌<◌, length, get_or, drop}
use Rattle.spec.specs.Questions.{Answer, passed, refused, Checked}
use Rattle.spec.specs.Rule.{form32, form64, table_of, rule_of, check_rule}
use Rattle.spec.specs.Judging.{judging}
use Rattle.spec.specs.Script.{check_words, check_bare}
use Rattle.spec.specs.Check.{lines_of, check_script}
use Rattle.spec.specs.Machine.{running}
use Rattle.spec.specs.Ready.{MachineState, fresh_state_of, state_step_of, state_after}
use Rattle.spec.specs.Weaver.{woven, weaving, output_after}
use Rattle.spec.specs.Promise.{Weavable}
use Rattle.largest.specs.Largest.{check_instructions, found_words, found_answer, found_output}
use Rattle.moves.specs.Moves.{widen_rule, narrow_rule, widen_script, narrow_script, check_back, check_move, check_script_up, check_script_back, node_count, line_count, rule_up, rule_back, script_up, script_back, rule_up_output, rule_back_output, script_up_output, script_back_output}

-- every word has this many bits
abbrev pub Bits : (n : ℕ) → List ℕ → Type 0
Bits n ws = (i : ℕ) → i < length ws → get_or ws i 0 < 2 ^ n

-- ---- a rule of the old form, and one of the second

pub record SameRule (old wide : List ℕ) : Type 0 where
  -- they have the same nodes, and stand for the same formula
  pub nodes : table_of form64 wide ≡ table_of form32 old
  pub formula : rule_of (table_of form64 wide) ≡ rule_of (table_of form32 old)
  -- questions 1 to 4 have the same answer
  pub asked : check_rule form64 wide ≡ check_rule form32 old
  -- so have 5 to 7 of a bare script, and of a script of one word a line with any opcodes: these keep their 32-bit words
  pub bare : (bare : List ℕ) → check_bare form64 wide bare ≡ check_bare form32 old bare
  pub words : (allowed : ℕ → Bool) (ws : List ℕ) → check_words form64 allowed wide ws ≡ check_words form32 allowed old ws
  -- every history gets the same verdict or refusal
  pub judged : (history : List ℕ) → judging form64 wide history ≡ judging form32 old history
  -- the machine starts in the same state, as ready (2026-08)
  pub fresh : (lent : List ℕ) → fresh_state_of form64 wide lent ≡ fresh_state_of form32 old lent
  -- weaving has the same answer where the outputs are as long; the words woven are the moved words, and so is what the output holds
  pub weaves : (bare out wide_out : List ℕ) → length wide_out ≡ length out → weaving form64 wide bare wide_out ≡ weaving form32 old bare out
  pub weaves_words : (bare : List ℕ) → Weavable form32 old bare → woven form64 wide bare ≡ widen_script (woven form32 old bare)
  pub weaves_into : (bare out : List ℕ) → output_after form64 wide bare (widen_script out) ≡ widen_script (output_after form32 old bare out)
  -- finding facts (2026-05) likewise
  pub finds : (ws out wide_out : List ℕ) → length wide_out ≡ length out → found_answer form64 wide ws wide_out ≡ found_answer form32 old ws out
  pub finds_words : (ws : List ℕ) → check_instructions form32 old ws ≡ passed tt → found_words form64 wide ws ≡ widen_script (found_words form32 old ws)
  pub finds_into : (ws out : List ℕ) → found_output form64 wide ws (widen_script out) ≡ widen_script (found_output form32 old ws out)

-- ---- and with each an annotated script

pub record SameScript (old wide script wide_script : List ℕ) : Type 0 where
  -- they have the same lines: instructions and facts
  pub lines : lines_of form64 wide_script ≡ lines_of form32 script
  -- questions 1 to 11 have the same answer; so have 5 to 8 of a move
  pub asked : check_script form64 wide wide_script ≡ check_script form32 old script
  pub asked_to_move : check_move form64 wide wide_script ≡ check_move form32 old script
  -- a step, and any number of steps from a fresh start, leave the same state, as ready (2026-08)
  pub stepped : (inputs : List ℕ) (x : MachineState) → state_step_of form64 wide wide_script inputs x ≡ state_step_of form32 old script inputs x
  pub after_steps : (n : ℕ) (inputs lent : List ℕ) → state_after form64 n wide wide_script inputs lent ≡ state_after form32 n old script inputs lent
  -- a run ends the same, or has the same refusal
  pub ran : (inputs : List ℕ) (budget : ℕ) (lent : List ℕ) → running form64 wide wide_script inputs budget lent ≡ running form32 old script inputs budget lent

-- ---- the promise

-- a rule of the second form that a move back takes, and with it a script
abbrev pub GoesBack : (rule : List ℕ) → Type 0
GoesBack rule = check_back rule ≡ passed tt

abbrev pub ScriptGoesBack : (rule script : List ℕ) → Type 0
ScriptGoesBack rule script = check_script_back rule script ≡ passed tt

-- what a move answers that puts these questions, writes these words and counts so much, and what it leaves in the lent output
pub record Answers (asked : Checked) (words : List ℕ) (count : ℕ) (answer : Answer ℕ) (out after : List ℕ) : Type 0 where
  -- its questions first; too little output is 13, last; else the count
  pub no : (q i : ℕ) → asked ≡ refused q i → answer ≡ refused q i
  pub short : asked ≡ passed tt → length out < length words → answer ≡ refused 13 0
  pub enough : asked ≡ passed tt → length words ≤ length out → answer ≡ passed count
  -- the words stand first, and later words stay; a refusal changes nothing
  pub written : (n : ℕ) → answer ≡ passed n → after ≡ words ++ drop (length words) out
  pub kept : (q i : ℕ) → answer ≡ refused q i → after ≡ out

pub record Moved : Type 0 where
  -- A rule of the old form, up to 32 words long, is the same in the second form, also where it is refused; so is a script for it.
  pub rule_same : (rule : List ℕ) → length rule ≤ 32 → SameRule rule (widen_rule rule)
  pub script_same : (rule script : List ℕ) → length rule ≤ 32 → SameScript rule (widen_rule rule) script (widen_script script)
  -- What a move back takes is the same in the old form.
  pub rule_same_back : (rule : List ℕ) → Bits 64 rule → GoesBack rule → SameRule (narrow_rule rule) rule
  pub script_same_back : (rule script : List ℕ) → Bits 64 rule → ScriptGoesBack rule script
      → SameScript (narrow_rule rule) rule (narrow_script script) script
  -- There and back, and back and there, a rule is unchanged, and a script.
  pub rule_there : (rule : List ℕ) → Bits 32 rule → narrow_rule (widen_rule rule) ≡ rule
  pub rule_again : (rule : List ℕ) → Bits 64 rule → GoesBack rule → widen_rule (narrow_rule rule) ≡ rule
  pub script_there : (script : List ℕ) → narrow_script (widen_script script) ≡ script
  pub script_again : (rule script : List ℕ) → ScriptGoesBack rule script → widen_script (narrow_script script) ≡ script
  -- What passes a move's questions passes those of the move back.
  pub rule_returns : (rule : List ℕ) → check_rule form32 rule ≡ passed tt → GoesBack (widen_rule rule)
  pub rule_returns_again : (rule : List ℕ) → Bits 64 rule → GoesBack rule → check_rule form32 (narrow_rule rule) ≡ passed tt
  pub script_returns : (rule script : List ℕ) → check_script_up rule script ≡ passed tt → ScriptGoesBack (widen_rule rule) (widen_script script)
  pub script_returns_again : (rule script : List ℕ) → Bits 64 rule → ScriptGoesBack rule script
      → check_script_up (narrow_rule rule) (narrow_script script) ≡ passed tt
  -- Each move puts questions 1 to 4 first, a script's then 5 to 8; too little output is 13, last. It answers its node or line count.
  pub rule_up_answers : (rule out : List ℕ)
      → Answers (check_rule form32 rule) (widen_rule rule) (node_count rule) (rule_up rule out) out (rule_up_output rule out)
  pub rule_back_answers : (rule out : List ℕ)
      → Answers (check_back rule) (narrow_rule rule) (node_count rule) (rule_back rule out) out (rule_back_output rule out)
  pub script_up_answers : (rule script out : List ℕ)
      → Answers (check_script_up rule script) (widen_script script) (line_count script) (script_up rule script out) out (script_up_output rule script out)
  pub script_back_answers : (rule script out : List ℕ)
      → Answers (check_script_back rule script) (narrow_script script) (line_count script) (script_back rule script out) out (script_back_output rule script out)
  -- One back refuses more than 32 nodes with 20, before 5 to 8.
  pub many : (rule : List ℕ) → check_rule form64 rule ≡ passed tt → 32 < length rule
      → (check_back rule ≡ refused 20 0) × ((script : List ℕ) → check_script_back rule script ≡ refused 20 0)
  -- What is written are words of the form moved to.
  pub rule_up_bits : (rule : List ℕ) → Bits 64 (widen_rule rule)
  pub rule_back_bits : (rule : List ℕ) → GoesBack rule → Bits 32 (narrow_rule rule)
  pub script_up_bits : (script : List ℕ) → Bits 32 script → Bits 64 (widen_script script)
  pub script_back_bits : (script : List ℕ) → Bits 64 script → Bits 32 (narrow_script script)
