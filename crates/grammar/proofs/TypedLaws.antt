-- The laws of `specs/Typed.antt`.
--     stable            a formula that is not refuted is true: truth is decided
--     opened_agrees     a text formula and what it is opened to mean the same, on every trace at every index
-- Assumes nothing.
use mathlib.Core.Logic.{◌⊎◌, inl, inr, ◌↔◌}
use mathlib.Core.Bool.{true, false}
use Prim.Native.Nat.{ℕ, ◌-◌}
use Rattle.spec.specs.Logic.{Trace, Formula, Satisfies, holds}
use Rattle.spec.proofs.BoolLaws.{clash, decided}
use Rattle.spec.proofs.LogicLaws.{agrees}
use Rattle.grammar.specs.Typed.{Prefix, not, wprev, prev, once, sofar, Operator, since_word, and_word, or_word, implies_word, TextFormula, constant, atom, prefixed, joined, MeansPrefixed, MeansJoined, Means, opened_prefix, opened_operator, opened}

pub either : (σ : Trace) (φ : Formula) (n : ℕ) → Satisfies σ φ n ⊎ (Satisfies σ φ n → ⊥)
either σ φ n =
    elim (decided (holds σ φ n)) [
      | inl e ↦ inl ((agrees σ φ n).0 e)
      | inr e ↦ inr (λ s. clash ((agrees σ φ n).1 s) e)
    ]

pub stable : (σ : Trace) (φ : Formula) (n : ℕ) → ((Satisfies σ φ n → ⊥) → ⊥) → Satisfies σ φ n
stable σ φ n h = elim (either σ φ n) [ inl s ↦ s | inr r ↦ absurd (h r) ]

module _ (σ : Trace) where
  prefix_agrees : (p : Prefix) (a : ℕ → Type 0) (φ : Formula) → ((n : ℕ) → a n ↔ Satisfies σ φ n) → (n : ℕ)
      → MeansPrefixed p a n ↔ Satisfies σ (opened_prefix p φ) n
  prefix_agrees not a φ e n = (λ h s. h ((e n).1 s), λ h s. h ((e n).0 s))
  prefix_agrees wprev a φ e n = (λ h z. (e (n - 1)).0 (h z), λ h z. (e (n - 1)).1 (h z))
  prefix_agrees prev a φ e n = (
    λ h k. k h.0 ((e (n - 1)).0 h.1),
    λ h. (λ z. h (λ k. absurd (k z)), (e (n - 1)).1 (stable σ φ (n - 1) (λ r. h (λ k. r)))),
  )
  prefix_agrees once a φ e n = (λ h. (h.0, h.1, (e h.0).0 h.2, λ j l m b. b), λ h. (h.0, h.1, (e h.0).1 h.2))
  prefix_agrees sofar a φ e n = (
    λ h k. k.2 ((e k.0).0 (h k.0 k.1)),
    λ h i l. (e i).1 (stable σ φ i (λ r. h (i, l, r, λ j l' m b. b))),
  )

  operator_agrees : (o : Operator) (a b : ℕ → Type 0) (φ ψ : Formula) → ((n : ℕ) → a n ↔ Satisfies σ φ n) → ((n : ℕ) → b n ↔ Satisfies σ ψ n)
      → (n : ℕ) → MeansJoined o a b n ↔ Satisfies σ (opened_operator o φ ψ) n
  operator_agrees since_word a b φ ψ e f n = (
    λ h. (h.0, h.1, (f h.0).0 h.2, λ j l m. (e j).0 (h.3 j l m)),
    λ h. (h.0, h.1, (f h.0).1 h.2, λ j l m. (e j).1 (h.3 j l m)),
  )
  operator_agrees and_word a b φ ψ e f n = (
    λ h k. k ((e n).0 h.0) ((f n).0 h.1),
    λ h. ((e n).1 (stable σ φ n (λ r. h (λ s. absurd (r s)))), (f n).1 (stable σ ψ n (λ r. h (λ s. r)))),
  )
  operator_agrees or_word a b φ ψ e f n = (
    λ h r. elim h [ inl s ↦ absurd (r ((e n).0 s)) | inr s ↦ (f n).0 s ],
    λ h. elim (either σ φ n) [ inl s ↦ inl ((e n).1 s) | inr r ↦ inr ((f n).1 (h r)) ],
  )
  operator_agrees implies_word a b φ ψ e f n = (λ h s. (f n).0 (h ((e n).1 s)), λ h s. (f n).1 (h ((e n).0 s)))

  pub opened_agrees : (φ : TextFormula) (n : ℕ) → Means σ φ n ↔ Satisfies σ (opened φ) n
  unfolding opened
  opened_agrees (constant true) n = (λ u b. b, λ h. tt)
  opened_agrees (constant false) n = (λ b. b, λ b. b)
  opened_agrees (atom k r c) n = (λ s. s, λ s. s)
  opened_agrees (prefixed p φ) n = prefix_agrees p (λ i. Means σ φ i) (opened φ) (opened_agrees φ) n
  opened_agrees (joined o φ ψ) n =
      operator_agrees o (λ i. Means σ φ i) (λ i. Means σ ψ i) (opened φ) (opened ψ) (opened_agrees φ) (opened_agrees ψ) n
