-- Closing node by node.
--     close_known, close_test     what closing adds at a node
-- Assumes nothing.
use mathlib.Core.Path.{◌≡◌, refl, ap, ◌∙◌, fun_ext}
use mathlib.Core.Bool.{Bool, true, false, ◌&&◌, ◌||◌, and-false, or-false}
use Prim.Native.Nat.{ℕ}
use lib.Dec.{eqb}
use Rattle.spec.specs.Logic.{Test}
use Rattle.spec.specs.Rule.{Node, test_node, Table, node_at}
use Rattle.spec.specs.Facts.{Fact, value_is, prior_is, kept_is_prior, work_is_next, work_is_prior, word_number, Facts, gains, close_node}
use Rattle.spec.proofs.FactLaws.{by_fact}
use Rattle.facts.proofs.FactSetLaws.{learning, at_first, at_second, at_other}

module _ (t : Table) (k : ℕ) (F : Facts) where
  pub close_test : (a : Test) → node_at t k ≡ test_node a → F ≡ close_node t k F
  unfolding close_node gains
  close_test a e = fun_ext (λ f. fun_ext (λ j. rw e (go f j)))
    where
      go : (f : Fact) (j : ℕ) → F f j ≡ (F f j || eqb j k && gains F (test_node a) k f)
      go = by_fact _ (none _) (none _) (none _) (none _) (none _) (none _) (none _)
        where
          none : (f : Fact) (j : ℕ) → F f j ≡ (F f j || eqb j k && false)
          none f j = rw (and-false (eqb j k), or-false (F f j))

  pub close_known : (x : Node) (yes-t yes-f : Bool) (R : Facts) → node_at t k ≡ x
      → yes-t ≡ gains F x k (value_is true) → yes-f ≡ gains F x k (value_is false)
      → R ≡ learning F (value_is true) (value_is false) yes-t yes-f k → R ≡ close_node t k F
  unfolding close_node gains word_number
  close_known x yes-t yes-f R e a b r = r ∙ fun_ext (λ f. fun_ext (λ j. rw e (go f j)))
    where
      L : Facts
      L = learning F (value_is true) (value_is false) yes-t yes-f k

      none : (f : Fact) → L f ≡ F f → (j : ℕ) → L f j ≡ (F f j || eqb j k && false)
      none f d j = ap (λ s. s j) d ∙ rw (and-false (eqb j k), or-false (F f j))

      go : (f : Fact) (j : ℕ) → L f j ≡ (F f j || eqb j k && gains F x k f)
      go = by_fact (λ f. (j : ℕ) → L f j ≡ (F f j || eqb j k && gains F x k f))
          (λ j. at_first F (value_is true) (value_is false) yes-t yes-f k refl j ∙ ap (λ c. F (value_is true) j || eqb j k && c) a)
          (λ j. at_second F (value_is true) (value_is false) yes-t yes-f k refl j ∙ ap (λ c. F (value_is false) j || eqb j k && c) b)
          (none (prior_is true) (at_other F (value_is true) (value_is false) yes-t yes-f k (prior_is true) refl refl))
          (none (prior_is false) (at_other F (value_is true) (value_is false) yes-t yes-f k (prior_is false) refl refl))
          (none kept_is_prior (at_other F (value_is true) (value_is false) yes-t yes-f k kept_is_prior refl refl))
          (none work_is_next (at_other F (value_is true) (value_is false) yes-t yes-f k work_is_next refl refl))
          (none work_is_prior (at_other F (value_is true) (value_is false) yes-t yes-f k work_is_prior refl refl))
