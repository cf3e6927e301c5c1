-- The laws of the kept notes (`specs/Rows.antt`).
--     or_none, or_some                    two truth values
--     word_of_lem                             the words of a line
--     Meeting, meeting_start, meeting_next    seven words met, one after another
--     cut_same, cut_changed               then line m is cut
--     loaded                              a line read
--     way_where, way_has                  no line follows, or one
--     Spread, spread_by                   both ways out of a line
-- Assumes nothing.
use mathlib.Core.Path.{◌≡◌, refl, sym, subst, ap, ◌∙◌, fun_ext}
use mathlib.Core.Logic.{◌⊎◌, inl, inr}
use mathlib.Core.Bool.{Bool, true, false, cond, not, ◌||◌}
use mathlib.Core.Option.{Option, none, some}
use Rattle.std.specs.Prelude.{Option as Maybe, IfSome}
use Rattle.std.specs.Bool.{then_some}
use mathlib.Core.List.{List, [], ◌∷◌}
use Prim.Native.Nat.{ℕ, zero, suc, ◌+◌, ◌*◌, ◌≤◌, ◌<◌}
use native.Mathlib.Omega.{arith}
use native.Mathlib.Nat.{le_refl}
use lib.ListN.{length, get_or, set, length-set}
use lib.Seq.{get_or-set_same, get_or-set_other}
use lib.Dec.{eqb}
use lib.Bits.{bit_and, and_le_l}
use borrow.Author.Tests.{eqb-true, eqb-false}
use Rattle.spec.specs.Facts.{Fact, value_is, prior_is, kept_is_prior, work_is_next, work_is_prior, word_number, Facts, ◌⊑◌}
use Rattle.spec.proofs.BoolLaws.{clash, and_both, both_and}
use Rattle.spec.proofs.FactLaws.{number_small}
use Rattle.sets.specs.Sets.{set_of}
use Rattle.facts.specs.FactSets.{word_of}
use Rattle.facts.specs.declared.Facts.{Facts as FactWords}
use Rattle.sets.proofs.WordLaws.{word_and}
use Rattle.finder.specs.Rows.{notes_at, flag_of, total, met_at, changes_at, FlagSet, Lessens, way_to, WayDone}
use Rattle.facts.specs.FactSets.{facts_of}
use Rattle.finder.proofs.FlagLaws.{same_or_other}

total_set : (ws : List ℕ) (i v : ℕ) → i < length ws → total (set ws i v) + get_or ws i 0 ≡ total ws + v
unfolding total
total_set [] i v h = absurd (omega arith)
total_set (x ∷ ws) zero v h = omega arith
total_set (x ∷ ws) (suc i) v h = omega (arith, total_set ws i v (omega arith))

meet_left : (a b k : ℕ) → set_of (bit_and a b) k ≡ true → set_of a k ≡ true
meet_left a b k e = (and_both (set_of a k) (set_of b k) (sym (word_and a b k) ∙ e)).0

meet_right : (a b k : ℕ) → set_of (bit_and a b) k ≡ true → set_of b k ≡ true
meet_right a b k e = (and_both (set_of a k) (set_of b k) (sym (word_and a b k) ∙ e)).1

meet_in : (a b k : ℕ) → set_of a k ≡ true → set_of b k ≡ true → set_of (bit_and a b) k ≡ true
meet_in a b k d e = word_and a b k ∙ both_and d e

pub or_none : (a b : Bool) → (a || b) ≡ false → (a ≡ false) × (b ≡ false)
or_none true b e = clash refl e
or_none false b e = (refl, e)

pub or_some : (a b : Bool) → (a || b) ≡ true → (a ≡ true) ⊎ (b ≡ true)
or_some true b e = inl refl
or_some false b e = inr e

-- the words of a line's facts, in order
abbrev pub words_in : FactWords → List ℕ
words_in x = x.t ∷ x.f ∷ x.a ∷ x.b ∷ x.m ∷ x.w ∷ x.c ∷ []

pub word_of_lem : (x : FactWords) (f : Fact) → get_or (words_in x) (word_number f) 0 ≡ word_of x f
unfolding word_number
word_of_lem x (value_is true) = refl
word_of_lem x (value_is false) = refl
word_of_lem x (prior_is true) = refl
word_of_lem x (prior_is false) = refl
word_of_lem x kept_is_prior = refl
word_of_lem x work_is_next = refl
word_of_lem x work_is_prior = refl

-- the words from i on are met with the first j of `words`
pub record Meeting (notes₀ : List ℕ) (i : ℕ) (words notes : List ℕ) (j : ℕ) (changed : Bool) : Type 0 where
  pub size : length notes ≡ length notes₀
  pub hit : (y : ℕ) → y < j → get_or notes (i + y) 0 ≡ bit_and (get_or notes₀ (i + y) 0) (get_or words y 0)
  pub other : (x : ℕ) → ((y : ℕ) → y < j → x ≡ i + y → ⊥) → get_or notes x 0 ≡ get_or notes₀ x 0
  pub no_more : total notes ≤ total notes₀
  pub less : changed ≡ true → total notes < total notes₀
  pub same : changed ≡ false → (x : ℕ) → get_or notes x 0 ≡ get_or notes₀ x 0

pub meeting_start : (notes : List ℕ) (i : ℕ) (words : List ℕ) → Meeting notes i words notes 0 false
meeting_start notes i words = record {
  size = refl;
  hit = λ y h. absurd (omega arith);
  other = λ x h. refl;
  no_more = le_refl _;
  less = λ e. clash e refl;
  same = λ e x. refl;
}

module _ (notes₀ : List ℕ) (i : ℕ) (words notes : List ℕ) (j : ℕ) (changed : Bool) (m : Meeting notes₀ i words notes j changed) (h : i + j < length notes₀) where
  abbrev g : ℕ
  g = get_or words j 0

  abbrev new : ℕ
  new = bit_and (get_or notes (i + j) 0) (get_or words j 0)

  in_now : i + j < length notes
  in_now = omega (arith, m.size)

  at_same : get_or (met_at notes (i + j) g) (i + j) 0 ≡ new
  at_same = get_or-set_same notes (i + j) new 0 in_now

  at_other : (x : ℕ) → (x ≡ i + j → ⊥) → get_or (met_at notes (i + j) g) x 0 ≡ get_or notes x 0
  at_other x d = get_or-set_other notes (i + j) x new 0 d

  untouched : get_or notes (i + j) 0 ≡ get_or notes₀ (i + j) 0
  untouched = m.other (i + j) (λ y u e. omega arith)

  totals : total (met_at notes (i + j) g) + get_or notes (i + j) 0 ≡ total notes + new
  totals = total_set notes (i + j) new in_now

  falls : changes_at notes (i + j) g ≡ true → total (met_at notes (i + j) g) < total notes
  falls e = go (eqb (get_or notes (i + j) 0) new) refl e
    where
      go : (b : Bool) → eqb (get_or notes (i + j) 0) new ≡ b → not b ≡ true → total (met_at notes (i + j) g) < total notes
      go true d u = clash u refl
      go false d u = omega (arith, totals, and_le_l (get_or notes (i + j) 0) g, eqb-false (get_or notes (i + j) 0) new d)

  stays : changes_at notes (i + j) g ≡ false → new ≡ get_or notes (i + j) 0
  stays e = go (eqb (get_or notes (i + j) 0) new) refl e
    where
      go : (b : Bool) → eqb (get_or notes (i + j) 0) new ≡ b → not b ≡ false → new ≡ get_or notes (i + j) 0
      go true d u = sym (eqb-true (get_or notes (i + j) 0) new d)
      go false d u = clash refl u

  pub meeting_next : Meeting notes₀ i words (met_at notes (i + j) g) (j + 1) (changes_at notes (i + j) g || changed)
  meeting_next = record {
    size = length-set notes (i + j) new ∙ m.size;
    hit = λ y u. elim (same_or_other y j) [
      | inl z ↦ subst (λ x. get_or (met_at notes (i + j) g) (i + x) 0 ≡ bit_and (get_or notes₀ (i + x) 0) (get_or words x 0)) (sym z)
          (at_same ∙ ap (λ x. bit_and x g) untouched)
      | inr z ↦ at_other (i + y) (λ e. omega (arith, z)) ∙ m.hit y (omega (arith, z))
    ];
    other = λ x d. at_other x (d j (omega arith)) ∙ m.other x (λ y u. d y (omega arith));
    no_more = omega (arith, totals, and_le_l (get_or notes (i + j) 0) g, m.no_more);
    less = λ e. elim (or_some (changes_at notes (i + j) g) changed e) [
      | inl u ↦ omega (arith, falls u, m.no_more)
      | inr u ↦ omega (arith, totals, and_le_l (get_or notes (i + j) 0) g, m.less u)
    ];
    same = λ e x.
        let (a, b) = or_none (changes_at notes (i + j) g) changed e in
        elim (same_or_other x (i + j)) [
          | inl z ↦ subst (λ y. get_or (met_at notes (i + j) g) y 0 ≡ get_or notes₀ y 0) (sym z) (at_same ∙ stays a ∙ untouched)
          | inr z ↦ at_other x z ∙ m.same b x
        ];
  }

module _ (notes₀ notes flags : List ℕ) (m : ℕ) (x : FactWords) (changed : Bool)
    (d : Meeting notes₀ (7 * m) (words_in x) notes 7 changed) where
  at_line_lem : (f : Fact) → get_or notes (7 * m + word_number f) 0 ≡ bit_and (get_or notes₀ (7 * m + word_number f) 0) (word_of x f)
  at_line_lem f = d.hit (word_number f) (number_small f) ∙ ap (λ w. bit_and (get_or notes₀ (7 * m + word_number f) 0) w) (word_of_lem x f)

  at_others : (l : ℕ) → (l ≡ m → ⊥) → (f : Fact) → get_or notes (7 * l + word_number f) 0 ≡ get_or notes₀ (7 * l + word_number f) 0
  at_others l z f = d.other (7 * l + word_number f) (λ y u e. let n : word_number f < 7 = number_small f in z (omega arith))

  within_cut : (l : ℕ) → notes_at notes l ⊑ notes_at notes₀ l
  within_cut l f k e = elim (same_or_other l m) [
    | inl z ↦ subst (λ j. notes_at notes₀ j f k ≡ true) (sym z)
        (meet_left _ _ k (ap (λ v. set_of v k) (sym (at_line_lem f)) ∙ subst (λ j. notes_at notes j f k ≡ true) z e))
    | inr z ↦ ap (λ v. set_of v k) (sym (at_others l z f)) ∙ e
  ]

  some_is : (n : ℕ) → some m ≡ some n → m ≡ n
  some_is n e = cc

  inside_cut : (n : ℕ) → some m ≡ some n → notes_at notes n ⊑ facts_of x
  inside_cut n s = subst (λ j. notes_at notes j ⊑ facts_of x) (some_is n s)
      (λ f k e. meet_right (get_or notes₀ (7 * m + word_number f) 0) _ k (ap (λ v. set_of v k) (sym (at_line_lem f)) ∙ e))

  kept_cut : (l : ℕ) (f : Fact) (k : ℕ) → notes_at notes₀ l f k ≡ true → (some m ≡ some l → facts_of x f k ≡ true) → notes_at notes l f k ≡ true
  kept_cut l f k e u = elim (same_or_other l m) [
    | inl z ↦ subst (λ j. notes_at notes j f k ≡ true) (sym z)
        (ap (λ v. set_of v k) (at_line_lem f) ∙ meet_in _ _ k (subst (λ j. notes_at notes₀ j f k ≡ true) z e) (u (ap some (sym z))))
    | inr z ↦ ap (λ v. set_of v k) (at_others l z f) ∙ e
  ]

  pub cut_same : changed ≡ false → WayDone notes₀ flags (some m) (facts_of x) notes flags false
  cut_same c = record {
    lessens = record { notes_size = d.size; flags_size = refl; no_more = d.no_more; less = λ e. clash e refl };
    within = within_cut;
    inside = inside_cut;
    kept = kept_cut;
    down = λ l e. e;
    unmoved = λ l e f k u. ap (λ v. set_of v k) (d.same c (7 * l + word_number f)) ∙ u;
    same = λ e l. refl;
  }

  pub cut_changed : (flags' : List ℕ) → changed ≡ true → FlagSet flags m true flags' → WayDone notes₀ flags (some m) (facts_of x) notes flags' true
  cut_changed flags' c s = record {
    lessens = record { notes_size = d.size; flags_size = s.size; no_more = d.no_more; less = λ e. d.less c };
    within = within_cut;
    inside = inside_cut;
    kept = kept_cut;
    down = λ l e. elim (same_or_other l m) [
      | inl z ↦ clash s.at_line (subst (λ j. flag_of flags' j ≡ false) z e)
      | inr z ↦ sym (s.others l z) ∙ e
    ];
    unmoved = λ l e f k u. elim (same_or_other l m) [
      | inl z ↦ clash s.at_line (subst (λ j. flag_of flags' j ≡ false) z e)
      | inr z ↦ ap (λ v. set_of v k) (at_others l z f) ∙ u
    ];
    same = λ e. clash refl e;
  }

row_read : (ws : List ℕ) (l : ℕ) (f : Fact) → word_of (record {
  t = get_or ws (7 * l) 0;
  f = get_or ws (7 * l + 1) 0;
  a = get_or ws (7 * l + 2) 0;
  b = get_or ws (7 * l + 3) 0;
  m = get_or ws (7 * l + 4) 0;
  w = get_or ws (7 * l + 5) 0;
  c = get_or ws (7 * l + 6) 0;
}) f
    ≡ get_or ws (7 * l + word_number f) 0
unfolding word_number
row_read ws l (value_is true) = ap (λ x. get_or ws x 0) (let e : 7 * l ≡ 7 * l + 0 = omega arith in e)
row_read ws l (value_is false) = refl
row_read ws l (prior_is true) = refl
row_read ws l (prior_is false) = refl
row_read ws l kept_is_prior = refl
row_read ws l work_is_next = refl
row_read ws l work_is_prior = refl

-- a line read
pub loaded : (ws : List ℕ) (l : ℕ) → facts_of (record {
  t = get_or ws (7 * l) 0;
  f = get_or ws (7 * l + 1) 0;
  a = get_or ws (7 * l + 2) 0;
  b = get_or ws (7 * l + 3) 0;
  m = get_or ws (7 * l + 4) 0;
  w = get_or ws (7 * l + 5) 0;
  c = get_or ws (7 * l + 6) 0;
}) ≡ notes_at ws l
loaded ws l = fun_ext (λ f. ap set_of (row_read ws l f))

-- ---- both ways out of a line

pub way_where : (b : Bool) (m : ℕ) (o : Maybe ℕ) → o ≡ then_some b m → way_to o ≡ cond b (some m) none
way_where true m o e = rw e refl
way_where false m o e = rw e refl

pub way_has : (b : Bool) (m : ℕ) (o : Maybe ℕ) (P : ℕ → Type 0) → o ≡ then_some b m → (b ≡ true → P m) → IfSome o P
way_has true m o P e h = rw e (h refl)
way_has false m o P e h = rw e tt

-- both ways out of line l, whose flag went down first: line o keeps what is in Y, line p what is in N
pub record Spread (notes flags : List ℕ) (l : ℕ) (o p : Option ℕ) (Y N : Facts) (notes' flags' : List ℕ) (r : Bool) : Type 0 where
  pub lessens : Lessens notes flags notes' flags' r
  pub within : (m : ℕ) → notes_at notes' m ⊑ notes_at notes m
  pub at_target : (m : ℕ) → o ≡ some m → notes_at notes' m ⊑ Y
  pub at_next : (m : ℕ) → p ≡ some m → notes_at notes' m ⊑ N
  pub kept : (m : ℕ) (f : Fact) (k : ℕ) → notes_at notes m f k ≡ true → (o ≡ some m → Y f k ≡ true) → (p ≡ some m → N f k ≡ true)
      → notes_at notes' m f k ≡ true
  pub down : (m : ℕ) → flag_of flags' m ≡ false → (m ≡ l) ⊎ (flag_of flags m ≡ false)
  pub unmoved : (m : ℕ) → flag_of flags' m ≡ false → notes_at notes m ⊑ notes_at notes' m
  pub same : r ≡ false → (m : ℕ) → (m ≡ l) ⊎ (flag_of flags m ≡ false) → flag_of flags' m ≡ false

pub spread_by : (notes flags : List ℕ) (l : ℕ) (o p : Option ℕ) (Y N : Facts) (notes₁ notes₂ flags₀ flags₁ flags₂ : List ℕ) (a b : Bool)
    → FlagSet flags l false flags₀ → WayDone notes flags₀ o Y notes₁ flags₁ a → WayDone notes₁ flags₁ p N notes₂ flags₂ b
    → Spread notes flags l o p Y N notes₂ flags₂ (a || b)
spread_by notes flags l o p Y N notes₁ notes₂ flags₀ flags₁ flags₂ a b s d₁ d₂ = record {
  lessens = record {
    notes_size = d₂.lessens.notes_size ∙ d₁.lessens.notes_size;
    flags_size = d₂.lessens.flags_size ∙ d₁.lessens.flags_size ∙ s.size;
    no_more = omega (arith, d₁.lessens.no_more, d₂.lessens.no_more);
    less = λ e. elim (or_some a b e) [
      | inl u ↦ omega (arith, d₁.lessens.less u, d₂.lessens.no_more)
      | inr u ↦ omega (arith, d₁.lessens.no_more, d₂.lessens.less u)
    ];
  };
  within = λ m f k e. d₁.within m f k (d₂.within m f k e);
  at_target = λ m v f k e. d₁.inside m v f k (d₂.within m f k e);
  at_next = λ m v f k e. d₂.inside m v f k e;
  kept = λ m f k e u v. d₂.kept m f k (d₁.kept m f k e u) v;
  down = λ m e. elim (same_or_other m l) [ inl z ↦ inl z | inr z ↦ inr (sym (s.others m z) ∙ d₁.down m (d₂.down m e)) ];
  unmoved = λ m e f k u. d₂.unmoved m e f k (d₁.unmoved m (d₂.down m e) f k u);
  same = λ e m u.
      let (x, y) = or_none a b e in
      d₂.same y m ∙ d₁.same x m ∙ elim (same_or_other m l) [
        | inl z ↦ subst (λ j. flag_of flags₀ j ≡ false) (sym z) s.at_line
        | inr z ↦ s.others m z ∙ elim u [ inl v ↦ absurd (z v) | inr v ↦ v ]
      ];
}
