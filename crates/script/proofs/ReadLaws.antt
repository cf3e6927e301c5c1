-- A number as an opcode (`specs/Lines.antt`).
--     read_high     one from 15 on is read as 15 is, as no instruction's
-- Assumes nothing.
use mathlib.Core.Path.{refl, sym, ◌∙◌}
use Prim.Native.Nat.{ℕ, ◌≤◌}
use native.Mathlib.Omega.{arith}
use borrow.Author.Tests.{ne_eqb, lt-leb}
use Rattle.spec.specs.Script.{fields}
use Rattle.spec.proofs.OpcodeLaws.{opcode_high}
use Rattle.script.specs.Lines.{ReadAs}

pub read_high : (number : ℕ) → 15 ≤ number → ReadAs number 15
read_high number h = record {
  read = λ r c l. opcode_high (fields number r c l) h ∙ sym (opcode_high (fields 15 r c l) (omega arith));
  register = λ r c l. rw (ne_eqb number 2 (λ e. omega arith), ne_eqb number 13 (λ e. omega arith)) refl;
  bare = rw (lt-leb number 8 (omega arith), ne_eqb number 13 (λ e. omega arith), ne_eqb number 14 (λ e. omega arith)) refl;
}
