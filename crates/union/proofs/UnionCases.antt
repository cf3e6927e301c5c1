-- Cases of request 2026-09 by computation, and its promise for document 01's stored form and 2026-07's.
--     two_reasons         two reviewers who know by different facts that a presentation keeps the rule
--     true_and_false      the one notes T, the other F, before a 9 that nothing leads to
--     together32, together64
-- Assumes nothing.
use mathlib.Core.Path.{◌≡◌, refl}
use mathlib.Core.List.{List, ◌∷◌, ◌++◌}
use Prim.Native.Nat.{ℕ}
use lib.ListN.{replicate}
use Rattle.spec.specs.Questions.{passed}
use Rattle.spec.specs.Rule.{form32, form64}
use Rattle.spec.specs.Check.{check_script}
use Rattle.union.specs.Union.{union_from, union_words, Together}
use Rattle.spec.proofs.Compute.{everything}
use Rattle.spec.proofs.Cases.{since_rule, weak_rule, unled}
use Rattle.union.proofs.UnionLaws.{together}

-- all that is said of a pair: each is accepted, and so is their union, which is these words
abbrev pub Pair : (rule script script' both : List ℕ) → Type 0
Pair rule a b both =
    (check_script form32 rule a ≡ passed tt) × (check_script form32 rule b ≡ passed tt)
    × (union_words a b ≡ both) × (check_script form32 rule both ≡ passed tt)

-- "input 2, go on where it is 1, present", for the since rule: T at the present, A at the line after it
abbrev guarded : (t a : ℕ) → List ℕ
guarded t a =
    (0x42000000 ∷ replicate 7 0) ++ (0x52000403 ∷ replicate 7 0) ++ (0x70000000 ∷ replicate 7 0) ++ (0x80000000 ∷ t ∷ replicate 6 0)
    ++ (0x70000000 ∷ 0 ∷ 0 ∷ a ∷ replicate 4 0)

-- the one knows that right is true, and keeps the prior; the other that the since is
pub two_reasons : Pair since_rule (guarded 0x40000000 0x20000000) (guarded 0x20000000 0) (guarded 0x60000000 0x20000000)
unfolding everything union_from union_words
two_reasons = (refl, refl, refl, refl)

-- W after the 9, which sets 0, rests on F
pub true_and_false : Pair weak_rule (unled 0x90000400 0x80000000 0 0 0 0) (unled 0x90000400 0 0x80000000 0 0 0x40000000)
    (unled 0x90000400 0x80000000 0x80000000 0 0 0x40000000)
unfolding everything union_from union_words
true_and_false = (refl, refl, refl, refl)

-- document 01's stored form
pub together32 : Together form32
together32 = together form32

-- 2026-07's
pub together64 : Together form64
together64 = together form64
