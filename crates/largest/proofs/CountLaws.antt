-- How many facts notes hold (`count_facts` of `specs/Largest.antt`): fewer facts count less, and as many are the same.
--     count_mono          notes that lie within others count no more
--     count_same          and if they count as many, the others lie within them
--     count_narrow        counting further nodes that have no facts changes nothing
--     count_words_lem         they are the ones over the seven words of each line
use mathlib.Core.Path.{◌≡◌, refl, sym, ap, ap₂, ◌∙◌}
use mathlib.Core.Logic.{inl, inr}
use mathlib.Core.Bool.{cond, Bool, true, false}
use mathlib.Core.List.{List, [], ◌∷◌, ◌++◌}
use Prim.Native.Nat.{ℕ, zero, suc, ◌+◌, ◌*◌, ◌^◌, ◌≤◌, ◌<◌}
use native.Mathlib.Nat.{le_refl}
use native.Mathlib.Omega.{arith}
use lib.Count as bits
use lib.Count.{ones_cat}
use lib.ListN.{length, take, drop}
use Rattle.spec.specs.Questions.{count_below}
use Rattle.spec.specs.Rule.{Form}
use Rattle.spec.specs.Facts.{Fact, Facts, ◌⊑◌, value_is, prior_is, kept_is_prior, work_is_next, work_is_prior}
use Rattle.spec.specs.Check.{Line, Lines, fact_word, line_words, words_of}
use Rattle.largest.specs.Notes.{Notes, notes_of}
use Rattle.largest.specs.Largest.{facts_in, count_facts}
use Rattle.largest.specs.Found.{ones_of, ones_over}
use Rattle.spec.proofs.BoolLaws.{decided, le_or_lt}
use Rattle.spec.proofs.StoredLaws.{word_small, rest_words}

pub one_mono : (a b : Bool) → (a ≡ true → b ≡ true) → (cond a 1 0) ≤ (cond b 1 0)
one_mono true b h = rw (h refl) (le_refl 1)
one_mono false true h = omega arith
one_mono false false h = omega arith

one_fewer : (a b : Bool) → a ≡ false → b ≡ true → (cond a 1 0) < (cond b 1 0)
one_fewer a b p q = rw (p, q) (le_refl 1)

pub ones_mono : (n : ℕ) (p q : ℕ → Bool) → ((k : ℕ) → k < n → p k ≡ true → q k ≡ true) → count_below n p ≤ count_below n q
unfolding count_below
ones_mono zero p q h = omega arith
ones_mono (suc n) p q h = omega (arith, ones_mono n p q (λ k l. h k (omega arith)), one_mono (p n) (q n) (h n (omega arith)))

-- one less is fewer
pub ones_fewer : (n : ℕ) (p q : ℕ → Bool) → ((k : ℕ) → k < n → p k ≡ true → q k ≡ true) → (k : ℕ) → k < n → p k ≡ false → q k ≡ true → count_below n p < count_below n q
unfolding count_below
ones_fewer zero p q h k l a b = absurd (omega arith)
ones_fewer (suc n) p q h k l a b =
    elim (le_or_lt n k) [
      | inl u ↦
          let z : k ≡ n = omega arith in
          omega (arith, ones_mono n p q (λ j i. h j (omega arith)), one_fewer (p n) (q n) (rw z at a) (rw z at b))
      | inr u ↦ omega (arith, ones_fewer n p q (λ j i. h j (omega arith)) k u a b, one_mono (p n) (q n) (h n (omega arith)))
    ]

module _ (width : ℕ) where
  facts_mono : (F G : Facts) → F ⊑ G → facts_in width F ≤ facts_in width G
  unfolding facts_in
  facts_mono F G h =
      let of : (f : Fact) → count_below width (F f) ≤ count_below width (G f) = λ f. ones_mono width (F f) (G f) (λ k l. h f k) in
      omega (arith, of (value_is true), of (value_is false), of (prior_is true), of (prior_is false), of kept_is_prior, of work_is_next, of work_is_prior)

  facts_fewer : (F G : Facts) → F ⊑ G → (f : Fact) (k : ℕ) → k < width → F f k ≡ false → G f k ≡ true → facts_in width F < facts_in width G
  unfolding facts_in
  facts_fewer F G h f k l a b = go f (ones_fewer width (F f) (G f) (λ j i. h f j) k l a b)
    where
      of : (g : Fact) → count_below width (F g) ≤ count_below width (G g)
      of g = ones_mono width (F g) (G g) (λ j i. h g j)

      go : (g : Fact) → count_below width (F g) < count_below width (G g) → facts_in width F < facts_in width G
      go (value_is true) d = omega (arith, of (value_is false), of (prior_is true), of (prior_is false), of kept_is_prior, of work_is_next, of work_is_prior)
      go (value_is false) d = omega (arith, of (value_is true), of (prior_is true), of (prior_is false), of kept_is_prior, of work_is_next, of work_is_prior)
      go (prior_is true) d = omega (arith, of (value_is true), of (value_is false), of (prior_is false), of kept_is_prior, of work_is_next, of work_is_prior)
      go (prior_is false) d = omega (arith, of (value_is true), of (value_is false), of (prior_is true), of kept_is_prior, of work_is_next, of work_is_prior)
      go kept_is_prior d = omega (arith, of (value_is true), of (value_is false), of (prior_is true), of (prior_is false), of work_is_next, of work_is_prior)
      go work_is_next d = omega (arith, of (value_is true), of (value_is false), of (prior_is true), of (prior_is false), of kept_is_prior, of work_is_prior)
      go work_is_prior d = omega (arith, of (value_is true), of (value_is false), of (prior_is true), of (prior_is false), of kept_is_prior, of work_is_next)

  pub count_mono : (n : ℕ) (N N' : Notes) → ((l : ℕ) → l < n → N l ⊑ N' l) → count_facts width n N ≤ count_facts width n N'
  unfolding count_facts
  count_mono zero N N' h = omega arith
  count_mono (suc n) N N' h = omega (arith, count_mono n N N' (λ l i. h l (omega arith)), facts_mono (N n) (N' n) (h n (omega arith)))

  pub count_fewer : (n : ℕ) (N N' : Notes) → ((l : ℕ) → l < n → N l ⊑ N' l) → (l : ℕ) → l < n → (f : Fact) (k : ℕ) → k < width
      → N l f k ≡ false → N' l f k ≡ true → count_facts width n N < count_facts width n N'
  unfolding count_facts
  count_fewer zero N N' h l i f k j a b = absurd (omega arith)
  count_fewer (suc n) N N' h l i f k j a b =
      elim (le_or_lt n l) [
        | inl u ↦
            let z : l ≡ n = omega arith in
            let d : facts_in width (N n) < facts_in width (N' n) = facts_fewer (N n) (N' n) (h n (omega arith)) f k j (rw z at a) (rw z at b) in
            omega (arith, count_mono n N N' (λ m v. h m (omega arith)))
        | inr u ↦ omega (arith, count_fewer n N N' (λ m v. h m (omega arith)) l u f k j a b, facts_mono (N n) (N' n) (h n (omega arith)))
      ]

  pub count_same : (n : ℕ) (N N' : Notes) → ((l : ℕ) → l < n → N l ⊑ N' l) → count_facts width n N ≡ count_facts width n N'
      → (l : ℕ) → l < n → (f : Fact) (k : ℕ) → k < width → N' l f k ≡ true → N l f k ≡ true
  count_same n N N' h e l i f k j b =
      elim (decided (N l f k)) [
        | inl a ↦ a
        | inr a ↦ absurd (omega (arith, count_fewer n N N' h l i f k j a b))
      ]

-- ---- nodes past the last have no facts to count

ones_narrow : (n m : ℕ) (p : ℕ → Bool) → n ≤ m → ((k : ℕ) → p k ≡ true → k < n) → count_below m p ≡ count_below n p
unfolding count_below
ones_narrow n zero p h few = let z : n ≡ 0 = omega arith in rw z
ones_narrow n (suc m) p h few =
    elim (le_or_lt n m) [
      | inl u ↦ elim (decided (p m)) [
        | inl a ↦ let v : m < n = few m a in absurd (omega arith)
        | inr a ↦ let e = ones_narrow n m p u few in rw (a, e) (let z : count_below n p + 0 ≡ count_below n p = omega arith in z)
      ]
      | inr u ↦ let z : n ≡ suc m = omega arith in rw z
    ]

facts_narrow : (n m : ℕ) (F : Facts) → n ≤ m → ((f : Fact) (k : ℕ) → F f k ≡ true → k < n) → facts_in m F ≡ facts_in n F
unfolding facts_in
facts_narrow n m F h few =
    let of : (f : Fact) → count_below m (F f) ≡ count_below n (F f) = λ f. ones_narrow n m (F f) h (few f) in
    omega (arith, of (value_is true), of (value_is false), of (prior_is true), of (prior_is false), of kept_is_prior, of work_is_next, of work_is_prior)

pub count_narrow : (n m lines : ℕ) (N : Notes) → n ≤ m → ((l : ℕ) → l < lines → (f : Fact) (k : ℕ) → N l f k ≡ true → k < n)
    → count_facts m lines N ≡ count_facts n lines N
unfolding count_facts
count_narrow n m zero N h few = refl
count_narrow n m (suc lines) N h few =
    omega (arith, count_narrow n m lines N h (λ l i. few l (omega arith)), facts_narrow n m (N lines) h (few lines (omega arith)))

-- ---- the ones of the words

ones_same : (n : ℕ) (p q : ℕ → Bool) → ((k : ℕ) → p k ≡ q k) → count_below n p ≡ count_below n q
unfolding count_below
ones_same zero p q h = refl
ones_same (suc n) p q h = ap₂ (λ x b. x + cond b 1 0) (ones_same n p q h) (h n)

ones_front : (n : ℕ) (p : ℕ → Bool) → count_below (suc n) p ≡ cond (p 0) 1 0 + count_below n (λ k. p (suc k))
unfolding count_below
ones_front zero p = omega arith
ones_front (suc n) p = let e = ones_front n p in omega arith

none_set : bits.ones 0 ≡ 0
unfolding bits.ones
none_set = refl

one_set : (b : Bool) → bits.ones (cond b 1 0) ≡ cond b 1 0
unfolding bits.ones bits.ones_in
one_set true = refl
one_set false = refl

top_bit : (n w : ℕ) (b : Bool) → cond b (2 ^ n) 0 + w ≡ cond b 1 0 * 2 ^ n + w
top_bit n w true = omega arith
top_bit n w false = omega arith

-- a fact word has a one for each node
word_ones : (n i : ℕ) (p : ℕ → Bool) → bits.ones (fact_word n i p) ≡ count_below n (λ k. p (i + k))
unfolding fact_word count_below
word_ones zero i p = none_set
word_ones (suc n) i p =
    ap bits.ones (top_bit n (fact_word n (suc i) p) (p i)) ∙ ones_cat n (cond (p i) 1 0) (fact_word n (suc i) p) (word_small n (suc i) p)
    ∙ ap₂ ◌+◌ (one_set (p i)) (word_ones n (suc i) p
    ∙ ones_same n (λ k. p (suc i + k)) (λ k. p (i + suc k)) (λ k. ap p (let z : suc i + k ≡ i + suc k = omega arith in z)))
    ∙ ap (λ j. cond (p j) 1 0 + count_below n (λ k. p (i + suc k))) (let z : i ≡ i + 0 = omega arith in z)
    ∙ sym (ones_front n (λ k. p (i + k)))

set_ones : (width : ℕ) (p : ℕ → Bool) → bits.ones (fact_word width 0 p) ≡ count_below width p
set_ones width p = word_ones width 0 p ∙ ones_same width (λ k. p (0 + k)) p (λ k. ap p (let z : 0 + k ≡ k = omega arith in z))

-- the seven words of a line
line_ones : (form : Form) (x : Line) (rest : List ℕ) → ones_of (take 7 (drop 1 (line_words form x ++ rest))) ≡ facts_in form.width x.annotation
unfolding line_words ones_of facts_in
line_ones form x rest =
    let of : (f : Fact) → bits.ones (fact_word form.width 0 (x.annotation f)) ≡ count_below form.width (x.annotation f) =
    λ f. set_ones form.width (x.annotation f)
    in
    omega (arith, of (value_is true), of (value_is false), of (prior_is true), of (prior_is false), of kept_is_prior, of work_is_next, of work_is_prior)

count_front : (width n : ℕ) (N : Notes) → count_facts width (suc n) N ≡ facts_in width (N 0) + count_facts width n (λ l. N (suc l))
unfolding count_facts
count_front width zero N = omega arith
count_front width (suc n) N = let e = count_front width n N in omega arith

count_none : (width : ℕ) (N : Notes) → count_facts width 0 N ≡ 0
unfolding count_facts
count_none width N = refl

-- the facts of lines are the ones over the seven words of each
pub count_words_lem : (form : Form) (ls : Lines) → count_facts form.width (length ls) (notes_of ls) ≡ ones_over (length ls) (words_of form ls)
unfolding ones_over words_of
count_words_lem form [] = count_none form.width (notes_of [])
count_words_lem form (x ∷ ls) =
    count_front form.width (length ls) (notes_of (x ∷ ls))
    ∙ ap₂ ◌+◌ (sym (line_ones form x (words_of form ls)))
    (count_words_lem form ls ∙ ap (ones_over (length ls)) (sym (rest_words form x (words_of form ls))))
