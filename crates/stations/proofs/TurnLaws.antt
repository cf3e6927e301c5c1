-- One station's turn (`specs/Turns.antt`).
--     past_end, at_line_lem          the instruction of a line, and a halt past the last
--     left_present, left_other   what is left, after a present and after another instruction
--     taken_pass, taken_step     a turn passed over, and one with a step
-- Assumes nothing.
use mathlib.Core.Path.{◌≡◌, refl, sym, ap, ◌∙◌}
use mathlib.Core.Bool.{Bool, true, false}
use mathlib.Core.List.{List}
use Prim.Native.Nat.{ℕ, ◌-◌, ◌/◌, ◌≤◌, ◌<◌}
use native.Mathlib.Omega.{arith}
use lib.ListN.{length, get_or-eq_default, length-map}
use Rattle.spec.specs.Rule.{Form}
use Rattle.spec.specs.Script.{Instruction, halt, is_present, instruction_at, Fields, fields_of, instruction_of}
use Rattle.spec.specs.Check.{Line, code_of}
use Rattle.spec.specs.Ready.{MachineState}
use Rattle.turns.specs.Stations.{Station, instruction_for, passed_at, passed_over, left_at, station_step}
use Rattle.spec.proofs.OpcodeLaws.{opcode_0}
use Rattle.spec.proofs.StoredLaws.{length_read}
use Rattle.rule.specs.Nodes.{form_by}
use Rattle.script.specs.Lines.{lines_in, word_at}
use Rattle.script.proofs.LineLaws.{line_instruction}
use Rattle.machine.specs.Machines.{state_of}
use Rattle.machine.proofs.StepLaws.{instruction_at_lem}
use Rattle.stations.specs.declared.turning.Turn.{Turn}
use Rattle.stations.specs.Turns.{Taken}

-- ---- the instruction of a line

halt_word : instruction_of (fields_of 0) ≡ halt
unfolding fields_of
halt_word = opcode_0 (fields_of 0) refl

module _ (b : Bool) (script : List ℕ) (l : ℕ) where
  pub past_end : length script / 8 ≤ l → (f : Fields) → f ≡ fields_of 0 → instruction_of f ≡ instruction_at (code_of (lines_in b script)) l
  past_end h f e =
      let lines = lines_in b script in
      let n : length (code_of lines) ≤ l = omega (arith, length-map lines (λ (x : Line). x.instruction), length_read (form_by b) script) in
      ap instruction_of e ∙ halt_word ∙ sym (get_or-eq_default (code_of lines) halt n)

  pub at_line_lem : l < length script / 8 → (w : ℕ) → w ≡ word_at b script l → (f : Fields) → f ≡ fields_of w
      → instruction_of f ≡ instruction_at (code_of (lines_in b script)) l
  at_line_lem h w e f g = line_instruction b script l h w e f g ∙ sym (instruction_at_lem b script l)

-- ---- what is left

module _ (i : Instruction) (left : ℕ) (p : Bool) (told : p ≡ is_present i) where
  pub left_present : p ≡ true → left - 1 ≡ left_at i left
  unfolding left_at
  left_present e = rw (sym told ∙ e)

  pub left_other : p ≡ false → left ≡ left_at i left
  unfolding left_at
  left_other e = rw (sym told ∙ e)

-- ---- a turn

module _ (form : Form) (x : Station) (rest : ℕ) (y : MachineState) (i : Instruction) (here : i ≡ instruction_for form x y.machine)
    (b : Bool) (told : b ≡ passed_at x.inputs i rest y.machine) where
  over_is : passed_over form x rest y.machine ≡ b
  over_is = sym (told ∙ ap (λ j. passed_at x.inputs j rest y.machine) here)

  pub taken_pass : b ≡ true → (r : Turn) (h : List ℕ) → r.moved ≡ false → state_of r.machine h ≡ y → r.left ≡ rest → Taken form x rest y r h
  taken_pass over r h moved machine left =
      let e = over_is ∙ over in
      record { moved = rw e moved; machine = rw e machine; left = rw e left }

  pub taken_step : b ≡ false → (r : Turn) (h : List ℕ) → r.moved ≡ true → state_of r.machine h ≡ station_step form x y
      → r.left ≡ left_at i rest → Taken form x rest y r h
  taken_step goes r h moved machine left =
      let e = over_is ∙ goes in
      record { moved = rw e moved; machine = rw e machine; left = rw e (left ∙ ap (λ j. left_at j rest) here) }
