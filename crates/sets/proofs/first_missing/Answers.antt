-- `sets::first_missing` meets its contract: the first node of the others. Assumes nothing.
use mathlib.Core.Path.{◌≡◌, refl, sym, ap, ◌∙◌}
use mathlib.Core.Logic.{inl, inr}
use mathlib.Core.Bool.{Bool, true, false, not, ◌&&◌}
use Prim.Native.Nat.{ℕ}
use native.Mathlib.Omega.{arith}
use Rattle.spec.proofs.BoolLaws.{clash, le_or_lt}
use Rattle.spec.proofs.StoredLaws.{no_nodes_lem}
use Rattle.sets.specs.Sets.{set_of, excluding}
use Rattle.sets.proofs.WordLaws.{full_set}
use Rattle.sets.proofs.first_missing.Goals as goal

has_it : (a b : Bool) → a ≡ true → (a && not b) ≡ false → b ≡ true
has_it true true e d = e
has_it true false e d = clash refl d
has_it false b e d = clash e refl

has_not : (a b : Bool) → (a && not b) ≡ true → b ≡ false
has_not true true d = clash d refl
has_not true false d = refl
has_not false b d = clash d refl

pub returns : goal.returns
unfolding excluding
returns c =
    let w = c.args.w in
    let f = c.first_from.ensures in
    let r = c.first_from.result in
    let other : (j : ℕ) → set_of c.difference.result j ≡ (set_of 18446744073709551615 j && not (set_of w j)) = λ j. ap (λ s. s j) c.difference.ensures in
    record {
      most = f.most;
      all_before = λ j h.
          let l = f.most in
          has_it (set_of 18446744073709551615 j) (set_of w j) (full_set j (omega arith)) (sym (other j) ∙ f.none_before j (omega arith) h);
      is_missing = elim (le_or_lt 64 r) [
        | inl h ↦ no_nodes_lem 64 w r h
        | inr h ↦ has_not (set_of 18446744073709551615 r) (set_of w r) (sym (other r) ∙ f.is_there h)
      ];
    }
