-- The laws of the flags (`specs/Rows.antt`), 64 lines in a word.
--     same_or_other                            two numbers
--     raised, lowered                          a flag set, a flag taken away
--     Looking, looking_start, looking_on, looking_found, looking_end    a loop that looks for the next flag
-- Assumes nothing.
use mathlib.Core.Path.{◌≡◌, refl, sym, ap, ◌∙◌}
use mathlib.Core.Logic.{◌⊎◌, inl, inr}
use mathlib.Core.Bool.{Bool, true, false, not, ◌&&◌, ◌||◌}
use mathlib.Core.List.{List}
use Prim.Native.Nat.{ℕ, ◌+◌, ◌*◌, ◌/◌, ◌%◌, ◌≤◌, ◌<◌}
use native.Mathlib.Omega.{arith}
use lib.ListN.{length, get_or, set, length-set}
use lib.Seq.{get_or-set_same, get_or-set_other}
use lib.Dec.{eqb, ltb}
use borrow.Author.Tests.{eqb-true, eqb-false, eq-eqb, ne_eqb, lt-ltb}
use Rattle.spec.proofs.BoolLaws.{or_right, le_or_lt}
use Rattle.sets.specs.Sets.{set_of, adding, removing, FirstFrom}
use Rattle.finder.specs.Rows.{flag_of, FlagSet, NextFlag}

pub same_or_other : (a b : ℕ) → (a ≡ b) ⊎ (a ≡ b → ⊥)
same_or_other a b = go (eqb a b) refl
  where
    go : (c : Bool) → eqb a b ≡ c → (a ≡ b) ⊎ (a ≡ b → ⊥)
    go true e = inl (eqb-true a b e)
    go false e = inr (eqb-false a b e)

or_none_right : (a b : Bool) → b ≡ false → (a || b) ≡ a
or_none_right true b e = refl
or_none_right false b e = e

and_none_right : (a b : Bool) → b ≡ false → a && b ≡ false
and_none_right true b e = e
and_none_right false b e = refl

and_all_right : (a b : Bool) → b ≡ true → a && b ≡ a
and_all_right true b e = e
and_all_right false b e = refl

-- ---- a word changed

added_here : (s : ℕ → Bool) (k : ℕ) → k < 64 → adding s k true k ≡ true
unfolding adding
added_here s k h = or_right (s k) (eqb k k && true && ltb k 64) (rw (eq-eqb k k refl, lt-ltb k 64 h))

added_other : (s : ℕ → Bool) (k j : ℕ) → (j ≡ k → ⊥) → adding s k true j ≡ s j
unfolding adding
added_other s k j d = or_none_right (s j) (eqb j k && true && ltb k 64) (rw (ne_eqb j k d))

removed_here : (s : ℕ → Bool) (k : ℕ) → removing s k k ≡ false
unfolding removing
removed_here s k = and_none_right (s k) (not (eqb k k)) (rw (eq-eqb k k refl))

removed_other : (s : ℕ → Bool) (k j : ℕ) → (j ≡ k → ⊥) → removing s k j ≡ s j
unfolding removing
removed_other s k j d = and_all_right (s j) (not (eqb j k)) (rw (ne_eqb j k d))

module _ (flags : List ℕ) (l v : ℕ) (h : l / 64 < length flags) where
  abbrev flags' : List ℕ
  flags' = set flags (l / 64) v

  here : (s : ℕ → Bool) → set_of v ≡ s → flag_of flags' l ≡ s (l % 64)
  here s e = ap (λ w. set_of w (l % 64)) (get_or-set_same flags (l / 64) v 0 h) ∙ ap (λ p. p (l % 64)) e

  -- another line has another word, or another bit of this one
  other : (s : ℕ → Bool) → set_of v ≡ s → ((j : ℕ) → (j ≡ l % 64 → ⊥) → s j ≡ set_of (get_or flags (l / 64) 0) j) → (m : ℕ) → (m ≡ l → ⊥) → flag_of flags' m ≡ flag_of flags m
  other s e f m d = elim (same_or_other (m / 64) (l / 64)) [
    | inl z ↦
        let bit : m % 64 ≡ l % 64 → ⊥ = λ y. d (omega arith) in
        ap (λ i. set_of (get_or flags' i 0) (m % 64)) z ∙ ap (λ w. set_of w (m % 64)) (get_or-set_same flags (l / 64) v 0 h)
        ∙ ap (λ p. p (m % 64)) e ∙ f (m % 64) bit ∙ ap (λ i. set_of (get_or flags i 0) (m % 64)) (sym z)
    | inr z ↦ ap (λ w. set_of w (m % 64)) (get_or-set_other flags (l / 64) (m / 64) v 0 z)
  ]

  pub raised : set_of v ≡ adding (set_of (get_or flags (l / 64) 0)) (l % 64) true → FlagSet flags l true flags'
  raised e = record {
    size = length-set flags (l / 64) v;
    at_line = here _ e ∙ added_here (set_of (get_or flags (l / 64) 0)) (l % 64) (omega arith);
    others = other _ e (added_other (set_of (get_or flags (l / 64) 0)) (l % 64));
  }

  pub lowered : set_of v ≡ removing (set_of (get_or flags (l / 64) 0)) (l % 64) → FlagSet flags l false flags'
  lowered e = record {
    size = length-set flags (l / 64) v;
    at_line = here _ e ∙ removed_here (set_of (get_or flags (l / 64) 0)) (l % 64);
    others = other _ e (removed_other (set_of (get_or flags (l / 64) 0)) (l % 64));
  }

-- ---- the next flag

-- from `start` on no line before l has a flag
pub record Looking (flags : List ℕ) (start lines l : ℕ) : Type 0 where
  pub from : start ≤ l
  pub none_before : (m : ℕ) → start ≤ m → m < l → m < lines → flag_of flags m ≡ false

pub looking_start : (flags : List ℕ) (start lines : ℕ) → Looking flags start lines start
looking_start flags start lines = record { from = omega arith; none_before = λ m a b. absurd (omega arith) }

module _ (flags : List ℕ) (start lines l k : ℕ) (s : Looking flags start lines l) (f : FirstFrom (set_of (get_or flags (l / 64) 0)) (l % 64) k) where
  -- nor has a line before the first of this word from l on
  none_yet : (m : ℕ) → start ≤ m → m < 64 * (l / 64) + k → m < lines → flag_of flags m ≡ false
  none_yet m a b c = elim (same_or_other (m / 64) (l / 64)) [
    | inl z ↦ elim (le_or_lt l m) [
      | inl e ↦ ap (λ i. set_of (get_or flags i 0) (m % 64)) z ∙ f.none_before (m % 64) (omega arith) (omega arith)
      | inr e ↦ s.none_before m a e c
    ]
    | inr z ↦ let most : k ≤ 64 = f.most in s.none_before m a (omega arith) c
  ]

  pub looking_found : k < 64 → NextFlag flags start lines (64 * (l / 64) + k)
  looking_found h = record {
    from = (let a : start ≤ l = s.from in let b : l % 64 ≤ k = f.from in omega arith);
    none_before = none_yet;
    is_there = λ c.
        let i : (64 * (l / 64) + k) / 64 ≡ l / 64 = omega arith in
        let j : (64 * (l / 64) + k) % 64 ≡ k = omega arith in
        ap (λ x. set_of (get_or flags x 0) ((64 * (l / 64) + k) % 64)) i ∙ ap (set_of (get_or flags (l / 64) 0)) j ∙ f.is_there h;
  }

  pub looking_on : 64 ≤ k → Looking flags start lines (64 * (l / 64) + 64)
  looking_on h = record {
    from = (let a : start ≤ l = s.from in omega arith);
    none_before = λ m a b c. none_yet m a (omega arith) c;
  }

pub looking_end : (flags : List ℕ) (start lines l : ℕ) → lines ≤ l → Looking flags start lines l → NextFlag flags start lines l
looking_end flags start lines l h s = record { from = s.from; none_before = s.none_before; is_there = λ c. absurd (omega arith) }
