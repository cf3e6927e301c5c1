-- `machine::act::raise` meets its contract: a sum of at most 16,383 is the sum, a larger one 16,383. Assumes nothing.
use Prim.Native.Nat.{◌+◌}
use mathlib.Core.Logic.{inl, inr}
use native.Mathlib.Omega.{arith}
use Rattle.spec.proofs.BoolLaws.{le_or_lt}
use Rattle.spec.proofs.RegisterLaws.{raised_sum, raised_end}
use Rattle.machine.proofs.act.raise.Goals as goal

pub returns : goal.returns
returns c =
    let a = c.args in let sum = c.saturating_add.ensures in let most = c.min.ensures in
    elim (le_or_lt (a.register + a.c) 16383) [
      | inl h ↦ let e = raised_sum a.register a.c h in omega arith
      | inr h ↦ let e = raised_end a.register a.c h in omega arith
    ]
