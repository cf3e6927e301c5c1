-- What a match tells of a node that is none of the variants named.
--     rest_not_past     neither since nor weak previous
--     rest_not_implies  not implies
-- Assumes nothing.
use Rattle.std.proofs.Common.{◌≡◌, refl, false, ℕ}
use Rattle.spec.specs.Rule.{is_past}
use Rattle.rule.specs.declared.node.Node.{Node}
use Rattle.rule.specs.declared.node.Node.TheVariants.{False, Equal, Below, Implies, Since, WeakPrevious, EqualRegisters}
use Rattle.rule.specs.Nodes.{node_read, is_implies}

pub rest_not_past : (x : Node) → ((l r : ℕ) → x ≡ Since l r → ⊥) → ((l : ℕ) → x ≡ WeakPrevious l → ⊥) → is_past (node_read x) ≡ false
rest_not_past False s w = refl
rest_not_past (Equal r c) s w = refl
rest_not_past (Below r c) s w = refl
rest_not_past (Implies l r) s w = refl
rest_not_past (Since l r) s w = absurd (s l r refl)
rest_not_past (WeakPrevious l) s w = absurd (w l refl)
rest_not_past (EqualRegisters r q) s w = refl

pub rest_not_implies : (x : Node) → ((l r : ℕ) → x ≡ Implies l r → ⊥) → is_implies (node_read x) ≡ false
rest_not_implies False i = refl
rest_not_implies (Equal r c) i = refl
rest_not_implies (Below r c) i = refl
rest_not_implies (Implies l r) i = absurd (i l r refl)
rest_not_implies (Since l r) i = refl
rest_not_implies (WeakPrevious l) i = refl
rest_not_implies (EqualRegisters r q) i = refl
