-- Sets of a rule's nodes, gathered in a loop; where facts belong.
--     Gathered, gather_start, gather_next, gather_end    the nodes below n that pass a test
--     since_in, weak_in, past_is, work_nodes             the rule's since, weak previous and past nodes, and those with a work bit
--     belonging_is, first_is                             where facts belong, and the first facts before closing
-- Assumes nothing.
use mathlib.Core.Path.{◌≡◌, refl, sym, ap, ap₂, ◌∙◌, fun_ext}
use mathlib.Core.Logic.{inl, inr}
use mathlib.Core.Bool.{Bool, true, false, ◌&&◌, ◌||◌, or-false}
use Prim.Native.Nat.{ℕ, ◌+◌, ◌<◌}
use native.Mathlib.Omega.{arith}
use lib.ListN.{length}
use lib.Dec.{eqb, ltb, leb}
use borrow.Author.Tests.{lt-ltb, le-ltb, eq-eqb, ne_eqb}
use Rattle.spec.specs.Rule.{Table, node_at, is_since, is_weak_previous, is_past, mentions, has_work}
use Rattle.spec.specs.Facts.{value_is, prior_is, kept_is_prior, work_is_next, work_is_prior, word_number, belongs, Facts, ◌∪◌, only}
use Rattle.spec.proofs.BoolLaws.{bool_ext, and_both, or_left, or_right, le_or_lt}
use Rattle.spec.proofs.FactLaws.{facts_ext}
use Rattle.spec.proofs.RuleLaws.{past_in}
use Rattle.spec.proofs.MentionLaws.{work_is_lem}
use Rattle.rule.proofs.NodeLaws.{past_either}
use Rattle.sets.specs.Sets.{Nodes, capacity, set_of, adding, uniting}
use Rattle.sets.proofs.SetLaws.{empty_set, adding_is}

-- ---- the nodes below n that pass a test

module _ (p : ℕ → Bool) where
  abbrev pub Gathered : (n word : ℕ) → Type 0
  Gathered n w = (j : ℕ) → set_of w j ≡ (ltb j n && p j)

  pub gather_start : Gathered 0 0
  gather_start j = rw (le-ltb j 0 (omega arith)) (empty_set j)

  joined : (n j : ℕ) → ((ltb j n && p j) || eqb j n && p n) ≡ (ltb j (n + 1) && p j)
  joined n j =
      elim (le_or_lt n j) [
        | inl h ↦ elim (le_or_lt (n + 1) j) [
          | inl i ↦ rw (le-ltb j n h, le-ltb j (n + 1) i, ne_eqb j n (λ e. omega arith))
          | inr i ↦ let z : j ≡ n = omega arith in rw (z, le-ltb n n (omega arith), lt-ltb n (n + 1) (omega arith), eq-eqb n n refl)
        ]
        | inr h ↦ rw (lt-ltb j n h, lt-ltb j (n + 1) (omega arith), ne_eqb j n (λ e. omega arith), or-false (p j))
      ]

  pub gather_next : (n w r : ℕ) (b : Bool) → n < capacity → b ≡ p n → set_of r ≡ adding (set_of w) n b → Gathered n w → Gathered (n + 1) r
  gather_next n w r b h e d g j =
      ap (λ s. s j) d ∙ adding_is (set_of w) n b h j ∙ rw (g j, e) (joined n j)

  pub gather_end : (n w : ℕ) → ((j : ℕ) → p j ≡ true → j < n) → Gathered n w → set_of w ≡ p
  gather_end n w inside g =
      fun_ext (λ j. g j ∙ bool_ext (ltb j n && p j) (p j) (λ e. (and_both (ltb j n) (p j) e).1) (λ e. rw (lt-ltb j n (inside j e)) e))

-- ---- where facts belong, and the first facts

module _ (t : Table) where
  pub since_in : (k : ℕ) → is_since (node_at t k) ≡ true → k < length t
  since_in k e = past_in t k (past_either (node_at t k) ∙ or_left (is_since (node_at t k)) (is_weak_previous (node_at t k)) e)

  pub weak_in : (k : ℕ) → is_weak_previous (node_at t k) ≡ true → k < length t
  weak_in k e = past_in t k (past_either (node_at t k) ∙ or_right (is_since (node_at t k)) (is_weak_previous (node_at t k)) e)

  abbrev pub Past : Nodes
  Past k = is_past (node_at t k)

  abbrev pub Sinces : Nodes
  Sinces k = is_since (node_at t k)

  abbrev pub Weak : Nodes
  Weak k = is_weak_previous (node_at t k)

  pub past_is : (u s w : Nodes) → u ≡ uniting s w → s ≡ Sinces → w ≡ Weak → u ≡ Past
  unfolding uniting
  past_is u s w e a b = e ∙ ap₂ uniting a b ∙ fun_ext (λ k. sym (past_either (node_at t k)))

  -- a node with a work bit is past or used twice
  pub work_nodes : (u p m : Nodes) → u ≡ uniting p m → p ≡ Past → m ≡ (λ k. leb 2 (mentions t k)) → u ≡ has_work t
  unfolding uniting
  work_nodes u p m e a b = e ∙ ap₂ uniting a b ∙ fun_ext (λ k. sym (work_is_lem t k))

  pub belonging_is : (R : Facts) → R (value_is true) ≡ (λ k. ltb k (length t)) → R (value_is false) ≡ (λ k. ltb k (length t))
      → R (prior_is true) ≡ Past → R (prior_is false) ≡ Past → R kept_is_prior ≡ Past → R work_is_next ≡ has_work t → R work_is_prior ≡ Past → R ≡ belongs t
  unfolding belongs
  belonging_is R a b p q m w c = facts_ext R (belongs t) a b p q m w c

  abbrev pub first : Facts
  first = only kept_is_prior Past ∪ only (prior_is true) Weak ∪ only (prior_is false) Sinces

  pub first_is : (R : Facts) → R (value_is true) ≡ (λ k. false) → R (value_is false) ≡ (λ k. false) → R (prior_is true) ≡ Weak
      → R (prior_is false) ≡ Sinces → R kept_is_prior ≡ Past → R work_is_next ≡ (λ k. false) → R work_is_prior ≡ (λ k. false) → R ≡ first
  unfolding ◌∪◌ only word_number
  first_is R a b p q m w c =
      facts_ext R first a b (p ∙ fun_ext (λ k. sym (or-false (Weak k)))) q
      (m ∙ fun_ext (λ k. sym (or-false (Past k || false) ∙ or-false (Past k)))) w c
