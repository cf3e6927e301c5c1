-- The laws of the three values (`specs/Limits.antt`), and of "or" and "not" (`specs/Reasons.antt`).
--     can_open, open_can                      what can be, and the answer from it
--     known_true, known_false, open_known     answers that are known, and that are not
--     over_known, over_can                    an operand that is known; what can be, from what the operand can be
--     step_first                              a since step whose last value is false
--     implies_known, since_known              operands that are known
--     implies_can_lem, since_can_lem                  what implies and since can be, from what their operands can be
--     implies_or, since_or                    implies and since by "or", "and" and "not"
--     Narrow, over_narrow, narrow_known       an answer of which more is known
-- Assumes nothing.
use mathlib.Core.Path.{◌≡◌, refl, sym, ap, ◌∙◌}
use mathlib.Core.Bool.{Bool, true, false, cond, not, ◌&&◌, ◌||◌, or-false}
use Rattle.spec.specs.Monitor.{since_step}
use Rattle.spec.proofs.BoolLaws.{clash, or_mono, and_mono}
use Rattle.intervals.specs.Limits.{Truth₃, false₃, true₃, open₃, known, can, open_if, over, implies₃, since₃}
use Rattle.intervals.specs.Reasons.{not₃, or₃, and₃}

-- ---- what can be

pub can_open : (a b : Bool) → (a || b) ≡ true → (c : Bool) → can (open_if a b) c ≡ cond c a b
can_open true true e true = refl
can_open true true e false = refl
can_open true false e true = refl
can_open true false e false = refl
can_open false true e true = refl
can_open false true e false = refl
can_open false false e c = clash e refl

pub open_can : (v : Truth₃) → open_if (can v true) (can v false) ≡ v
open_can false₃ = refl
open_can true₃ = refl
open_can open₃ = refl

pub known_true : (b : Bool) → true₃ ≡ known b → b ≡ true
known_true true e = refl
known_true false e = clash {b = true} refl (ap (λ v. can v true) e)

pub known_false : (b : Bool) → false₃ ≡ known b → b ≡ false
known_false true e = clash {b = true} refl (sym (ap (λ v. can v true) e))
known_false false e = refl

pub open_known : (b : Bool) → open₃ ≡ known b → ⊥
open_known true e = clash {b = true} refl (ap (λ v. can v false) e)
open_known false e = clash {b = true} refl (ap (λ v. can v true) e)

-- what can be has the truth value that is known
pub open_only : (c : Bool → Bool) (x b : Bool) → open_if (c true) (c false) ≡ known b → c x ≡ true → x ≡ b
open_only c x b e h = go (c true) (c false) refl refl e x h
  where
    go : (p q : Bool) → c true ≡ p → c false ≡ q → open_if p q ≡ known b → (x : Bool) → c x ≡ true → x ≡ b
    go true true i j e x h = absurd (open_known b e)
    go true false i j e true h = sym (known_true b e)
    go true false i j e false h = clash h j
    go false q i j e true h = clash h i
    go false q i j e false h = sym (known_false b e)

-- only x can be
pub open_one : (c : Bool → Bool) (x : Bool) → c x ≡ true → ((b : Bool) → c b ≡ true → x ≡ b) → open_if (c true) (c false) ≡ known x
open_one c x h only = go x h only (c true) (c false) refl refl
  where
    go : (x : Bool) → c x ≡ true → ((b : Bool) → c b ≡ true → x ≡ b) → (p q : Bool) → c true ≡ p → c false ≡ q → open_if p q ≡ known x
    go true h only true true i j = clash {b = true} refl (only false j)
    go true h only true false i j = refl
    go true h only false q i j = clash h i
    go false h only true q i j = clash {b = true} refl (sym (only true i))
    go false h only false q i j = refl

-- ---- an operand's values

pub over_known : (x : Bool) (f : Bool → Truth₃) → over (known x) f ≡ f x
over_known true f = refl
over_known false f = refl

pub over_can : (v : Truth₃) (f : Bool → Truth₃) (b : Bool) → can (over v f) b ≡ (can v true && can (f true) b || can v false && can (f false) b)
over_can false₃ f b = refl
over_can true₃ f b = sym (or-false (can (f true) b))
over_can open₃ f b = go (f true) (f false) b
  where
    go : (u w : Truth₃) (b : Bool) → can (open_if (can u true || can w true) (can u false || can w false)) b ≡ (can u b || can w b)
    go false₃ false₃ true = refl
    go false₃ false₃ false = refl
    go false₃ true₃ true = refl
    go false₃ true₃ false = refl
    go false₃ open₃ true = refl
    go false₃ open₃ false = refl
    go true₃ false₃ true = refl
    go true₃ false₃ false = refl
    go true₃ true₃ true = refl
    go true₃ true₃ false = refl
    go true₃ open₃ true = refl
    go true₃ open₃ false = refl
    go open₃ w true = refl
    go open₃ w false = refl

-- ---- implies and since

-- at index 0 the last value is false
pub step_first : (l r : Bool) → since_step l r false ≡ r
step_first true true = refl
step_first true false = refl
step_first false true = refl
step_first false false = refl

pub implies_known : (l r : Bool) → implies₃ (known l) (known r) ≡ known (not l || r)
implies_known l r = over_known l (λ x. over (known r) (λ y. known (not x || y))) ∙ over_known r (λ y. known (not l || y))

pub since_known : (l r p : Bool) → since₃ (known l) (known r) (known p) ≡ known (since_step l r p)
since_known l r p =
    over_known l (λ x. over (known r) (λ y. over (known p) (λ z. known (since_step x y z))))
    ∙ over_known r (λ y. over (known p) (λ z. known (since_step l y z))) ∙ over_known p (λ z. known (since_step l r z))

pub implies_or : (l r : Truth₃) → implies₃ l r ≡ or₃ (not₃ l) r
implies_or false₃ r = refl
implies_or true₃ r = refl
implies_or open₃ false₃ = refl
implies_or open₃ true₃ = refl
implies_or open₃ open₃ = refl

pub since_or : (l r p : Truth₃) → since₃ l r p ≡ or₃ r (and₃ l p)
since_or false₃ false₃ false₃ = refl
since_or false₃ false₃ true₃ = refl
since_or false₃ false₃ open₃ = refl
since_or false₃ true₃ false₃ = refl
since_or false₃ true₃ true₃ = refl
since_or false₃ true₃ open₃ = refl
since_or false₃ open₃ false₃ = refl
since_or false₃ open₃ true₃ = refl
since_or false₃ open₃ open₃ = refl
since_or true₃ false₃ false₃ = refl
since_or true₃ false₃ true₃ = refl
since_or true₃ false₃ open₃ = refl
since_or true₃ true₃ false₃ = refl
since_or true₃ true₃ true₃ = refl
since_or true₃ true₃ open₃ = refl
since_or true₃ open₃ false₃ = refl
since_or true₃ open₃ true₃ = refl
since_or true₃ open₃ open₃ = refl
since_or open₃ false₃ false₃ = refl
since_or open₃ false₃ true₃ = refl
since_or open₃ false₃ open₃ = refl
since_or open₃ true₃ false₃ = refl
since_or open₃ true₃ true₃ = refl
since_or open₃ true₃ open₃ = refl
since_or open₃ open₃ false₃ = refl
since_or open₃ open₃ true₃ = refl
since_or open₃ open₃ open₃ = refl

pub implies_can_lem : (l r : Truth₃) → (can (implies₃ l r) true ≡ (can l false || can r true)) × (can (implies₃ l r) false ≡ (can l true && can r false))
implies_can_lem false₃ false₃ = (refl, refl)
implies_can_lem false₃ true₃ = (refl, refl)
implies_can_lem false₃ open₃ = (refl, refl)
implies_can_lem true₃ false₃ = (refl, refl)
implies_can_lem true₃ true₃ = (refl, refl)
implies_can_lem true₃ open₃ = (refl, refl)
implies_can_lem open₃ false₃ = (refl, refl)
implies_can_lem open₃ true₃ = (refl, refl)
implies_can_lem open₃ open₃ = (refl, refl)

pub since_can_lem : (l r p : Truth₃) → (can (since₃ l r p) true ≡ since_step (can l true) (can r true) (can p true))
    × (can (since₃ l r p) false ≡ not (since_step (not (can l false)) (not (can r false)) (not (can p false))))
since_can_lem false₃ false₃ false₃ = (refl, refl)
since_can_lem false₃ false₃ true₃ = (refl, refl)
since_can_lem false₃ false₃ open₃ = (refl, refl)
since_can_lem false₃ true₃ false₃ = (refl, refl)
since_can_lem false₃ true₃ true₃ = (refl, refl)
since_can_lem false₃ true₃ open₃ = (refl, refl)
since_can_lem false₃ open₃ false₃ = (refl, refl)
since_can_lem false₃ open₃ true₃ = (refl, refl)
since_can_lem false₃ open₃ open₃ = (refl, refl)
since_can_lem true₃ false₃ false₃ = (refl, refl)
since_can_lem true₃ false₃ true₃ = (refl, refl)
since_can_lem true₃ false₃ open₃ = (refl, refl)
since_can_lem true₃ true₃ false₃ = (refl, refl)
since_can_lem true₃ true₃ true₃ = (refl, refl)
since_can_lem true₃ true₃ open₃ = (refl, refl)
since_can_lem true₃ open₃ false₃ = (refl, refl)
since_can_lem true₃ open₃ true₃ = (refl, refl)
since_can_lem true₃ open₃ open₃ = (refl, refl)
since_can_lem open₃ false₃ false₃ = (refl, refl)
since_can_lem open₃ false₃ true₃ = (refl, refl)
since_can_lem open₃ false₃ open₃ = (refl, refl)
since_can_lem open₃ true₃ false₃ = (refl, refl)
since_can_lem open₃ true₃ true₃ = (refl, refl)
since_can_lem open₃ true₃ open₃ = (refl, refl)
since_can_lem open₃ open₃ false₃ = (refl, refl)
since_can_lem open₃ open₃ true₃ = (refl, refl)
since_can_lem open₃ open₃ open₃ = (refl, refl)

-- ---- more is known

-- what v' can be, v can be
abbrev pub Narrow : (v v' : Truth₃) → Type 0
Narrow v v' = (b : Bool) → can v' b ≡ true → can v b ≡ true

pub over_narrow : (v v' : Truth₃) → Narrow v v' → (f f' : Bool → Truth₃) → ((x : Bool) → Narrow (f x) (f' x)) → Narrow (over v f) (over v' f')
over_narrow v v' n f f' m b e =
    over_can v f b
    ∙ or_mono _ _ _ _ (and_mono _ _ _ _ (n true) (m true b)) (and_mono _ _ _ _ (n false) (m false b)) (sym (over_can v' f' b) ∙ e)

pub or_narrow : (v v' w w' : Truth₃) → Narrow v v' → Narrow w w' → Narrow (or₃ v w) (or₃ v' w')
or_narrow v v' w w' n m = over_narrow v v' n _ _ (λ x. over_narrow w w' m _ _ (λ y b e. e))

pub not_narrow : (v v' : Truth₃) → Narrow v v' → Narrow (not₃ v) (not₃ v')
not_narrow v v' n b e = not_can v b ∙ n (not b) (sym (not_can v' b) ∙ e)
  where
    not_can : (v : Truth₃) (b : Bool) → can (not₃ v) b ≡ can v (not b)
    not_can false₃ true = refl
    not_can false₃ false = refl
    not_can true₃ true = refl
    not_can true₃ false = refl
    not_can open₃ b = refl

-- what is known stays so
pub narrow_known : (b : Bool) (v' : Truth₃) → Narrow (known b) v' → v' ≡ known b
narrow_known true false₃ n = clash (n false refl) refl
narrow_known true true₃ n = refl
narrow_known true open₃ n = clash (n false refl) refl
narrow_known false false₃ n = refl
narrow_known false true₃ n = clash (n true refl) refl
narrow_known false open₃ n = clash (n true refl) refl
