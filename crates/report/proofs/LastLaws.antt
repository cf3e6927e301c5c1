-- The end of a line left out (`specs/Compiled.antt`).
--     last_none, last_same, last_other      bytes without a byte at their end
-- Assumes nothing.
use mathlib.Core.Path.{◌≡◌, refl}
use mathlib.Core.Logic.{◌≢◌}
use mathlib.Core.Bool.{Bool, true, false, cond}
use mathlib.Core.List.{List, [], ◌∷◌}
use Prim.Native.Nat.{ℕ, ◌-◌}
use native.Mathlib.Omega.{arith}
use lib.ListN.{length, get_or, take}
use lib.Dec.{eqb}
use borrow.Author.Tests.{eq-eqb, ne_eqb}
use Rattle.report.specs.Compiled.{without_last}

module _ (byte : ℕ) where
  pub last_none : (bs : List ℕ) → length bs ≡ 0 → bs ≡ without_last byte bs
  last_none [] e = go (eqb 0 byte)
    where
      go : (b : Bool) → ◌≡◌ {A = List ℕ} [] (cond b [] [])
      go true = refl
      go false = refl
  last_none (x ∷ xs) e = absurd (omega arith)

  pub last_same : (bs : List ℕ) → get_or bs (length bs - 1) 0 ≡ byte → take (length bs - 1) bs ≡ without_last byte bs
  last_same bs e = rw (eq-eqb _ byte e)

  pub last_other : (bs : List ℕ) → get_or bs (length bs - 1) 0 ≢ byte → bs ≡ without_last byte bs
  last_other bs h = rw (ne_eqb _ byte h)
