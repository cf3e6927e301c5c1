-- "Or" of answers with the registers that they depend on, as the code has them.
--     alike     "or" where none is true, and both are open or neither
-- Assumes nothing.
use mathlib.Core.Path.{◌≡◌, refl}
use mathlib.Core.Bool.{Bool, true, false, not, ◌&&◌, ◌||◌}
use Rattle.spec.proofs.BoolLaws.{clash}
use Rattle.intervals.specs.Limits.{open_if}
use Rattle.intervals.specs.Reasons.{or_depends}

module _ (y n y' n' : Bool) (first : (y && not n) ≡ false) (second : (y' && not n') ≡ false) where
  -- which of the two are open
  by_cases : (P : Bool → Bool → Bool → Bool → Type 0) → P true true true true → ((b : Bool) → P true true false b) → ((a : Bool) → P false a true true)
      → ((a b : Bool) → P false a false b) → P y n y' n'
  by_cases P both one other neither = go y n y' n' first second
    where
      go : (y n y' n' : Bool) → (y && not n) ≡ false → (y' && not n') ≡ false → P y n y' n'
      go true true true true e d = both
      go true true false b e d = one b
      go false a true true e d = other a
      go false a false b e d = neither a b
      go true false u w e d = clash refl e
      go true true true false e d = clash refl d
      go false a true false e d = clash refl d

  pub alike : (y && not y') ≡ false → (y' && not y) ≡ false → (p q : Bool) → (p || q) ≡ or_depends (open_if y n) (open_if y' n') p q
  alike =
      by_cases (λ y n y' n'. (y && not y') ≡ false → (y' && not y) ≡ false → (p q : Bool) → (p || q) ≡ or_depends (open_if y n) (open_if y' n') p q)
      (λ d e p q. refl) (λ b d e p q. clash refl d) (λ a d e p q. clash refl e) (λ a b d e p q. refl)
