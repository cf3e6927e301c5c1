-- Facts held in seven words (`specs/FactSets.antt`).
--     learned-is                 two facts of a node, each where it is known
--     among_words, among_nodes   whether facts are among others: word by word, and of the rule's nodes only
-- Assumes nothing.
use mathlib.Core.Path.{◌≡◌, refl, sym, ◌∙◌, fun_ext}
use mathlib.Core.Bool.{Bool, true, false, ◌&&◌, ◌||◌, and-true, and-false, and_assoc, or-false}
use Prim.Native.Nat.{ℕ, ◌≤◌, ◌<◌}
use native.Mathlib.Omega.{arith}
use lib.Dec.{eqb}
use borrow.Author.Tests.{eq-eqb}
use Rattle.spec.specs.Facts.{Fact, value_is, prior_is, kept_is_prior, work_is_next, work_is_prior, word_number, Facts, ◌∪◌, only, one, provided, among_below}
use Rattle.spec.proofs.BoolLaws.{bool_ext}
use Rattle.spec.proofs.FactLaws.{among_in, among_out}
use Rattle.sets.specs.Sets.{Nodes, capacity, adding, within}
use Rattle.sets.proofs.SetLaws.{adding_is}

-- ---- what is known of a node

absorb : (a y n : Bool) → ((a || y && false) || n && false) ≡ a
absorb a y n = rw (and-false y, and-false n, or-false a, or-false a)

take_first : (a y n e : Bool) → ((a || y && e) || n && false) ≡ (a || e && y)
take_first a true n e = rw (and-true e, and-false n, or-false (a || e))
take_first a false n e = rw (and-false e, and-false n, or-false (a || false))

take_second : (a y n e : Bool) → ((a || y && false) || n && e) ≡ (a || e && n)
take_second a y true e = rw (and-true e, and-false y, or-false a)
take_second a y false e = rw (and-false e, and-false y, or-false (a || false))

module _ (F : Facts) (f g : Fact) (yes-f yes-g : Bool) (k : ℕ) where
  abbrev pub learning : Facts
  learning = F ∪ provided yes-f (one f k) ∪ provided yes-g (one g k)

  pub at_first : eqb (word_number g) (word_number f) ≡ false → (j : ℕ) → learning f j ≡ (F f j || eqb j k && yes-f)
  unfolding ◌∪◌ provided only
  at_first d j = rw (d, eq-eqb (word_number f) (word_number f) refl) (take_first (F f j) yes-f yes-g (eqb j k))

  pub at_second : eqb (word_number f) (word_number g) ≡ false → (j : ℕ) → learning g j ≡ (F g j || eqb j k && yes-g)
  unfolding ◌∪◌ provided only
  at_second d j = rw (d, eq-eqb (word_number g) (word_number g) refl) (take_second (F g j) yes-f yes-g (eqb j k))

  pub at_other : (x : Fact) → eqb (word_number f) (word_number x) ≡ false → eqb (word_number g) (word_number x) ≡ false → learning x ≡ F x
  unfolding ◌∪◌ provided only
  at_other x d e = fun_ext (λ j. rw (d, e) (absorb (F x j) yes-f yes-g))

  pub learn_first : (s : Nodes) → k < capacity → eqb (word_number g) (word_number f) ≡ false → s ≡ adding (F f) k yes-f → s ≡ learning f
  learn_first s h d e = e ∙ fun_ext (λ j. adding_is (F f) k yes-f h j ∙ sym (at_first d j))

  pub learn_second : (s : Nodes) → k < capacity → eqb (word_number f) (word_number g) ≡ false → s ≡ adding (F g) k yes-g → s ≡ learning g
  learn_second s h d e = e ∙ fun_ext (λ j. adding_is (F g) k yes-g h j ∙ sym (at_second d j))

-- ---- whether facts are among others

seven : (a b c d e f g : Bool) → (a && b && c && d && e && f && g) ≡ (a && (b && (c && (d && (e && (f && (g && true)))))))
seven a b c d e f g = rw (and-true g, and_assoc (a && b && c && d && e) f g, and_assoc (a && b && c && d) e (f && g), and_assoc (a && b && c) d (e && (f && g)), and_assoc (a && b) c (d && (e && (f && g))), and_assoc a b (c && (d && (e && (f && g)))))

abbrev pub in_word : Facts → Facts → Fact → Bool
in_word F G f = within capacity (F f) (G f)

pub among_words : (F G : Facts) → let w = in_word F G in
    (w (value_is true) && w (value_is false) && w (prior_is true) && w (prior_is false) && w kept_is_prior && w work_is_next && w work_is_prior)
    ≡ among_below capacity F G
unfolding among_below within
among_words F G = let w = in_word F G in seven (w (value_is true)) (w (value_is false)) (w (prior_is true)) (w (prior_is false)) (w kept_is_prior) (w work_is_next) (w work_is_prior)

-- facts of the nodes below n only are among others as far as any larger width
pub among_nodes : (n m : ℕ) (F G : Facts) → n ≤ m → ((f : Fact) (k : ℕ) → F f k ≡ true → k < n) → among_below m F G ≡ among_below n F G
among_nodes n m F G h narrow =
    bool_ext (among_below m F G) (among_below n F G)
    (λ e. among_in n F G (λ f k l i. among_out m F G e f k (omega arith) i))
    (λ e. among_in m F G (λ f k l i. among_out n F G e f k (narrow f k i) i))
