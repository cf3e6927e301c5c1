-- The laws of `specs/Reading.antt`, for any builder.
--     build              what a formula builds onto a value
--     read_append        tokens in two parts
--     read_spelled       tokens that spell a formula build what the formula does
--     formula_read       and the builder of formulas, the formula itself: so tokens spell at most one
-- Assumes nothing.
use mathlib.Core.Path.{◌≡◌, refl, sym, subst, ap, ap₂, ◌∙◌}
use mathlib.Core.List.{List, [], ◌∷◌, ◌++◌}
use Prim.Native.Nat.{ℕ, zero, suc, ◌≤◌, ◌<◌}
use native.Mathlib.Omega.{arith}
use borrow.Author.Tests.{le-leb, lt-leb}
use Rattle.grammar.specs.Typed.{Prefix, Operator, since_word, and_word, or_word, implies_word, TextFormula, constant, atom, prefixed, joined}
use Rattle.grammar.specs.Grammar.{prefix_word, operator_word, open_sign, close_sign, Token, word, sign, strength, left_level, right_level, by_equal, by_below, Spells, a_constant, an_atom, in_brackets, a_prefixed, a_joined, tighter}
use Rattle.grammar.specs.Reading.{Waiting, awaiting, with_left, level_of, rank, Builder, Entry, Built, Reading, unwound, waits, read, read_all, whole, nothing_read, formulas}

-- words of this level and less may follow a formula of level l without ending inside it
abbrev follow : ℕ → ℕ
follow zero = 0
follow (suc zero) = 2
follow (suc (suc zero)) = 3
follow (suc (suc (suc l))) = 4

follow_up : (l : ℕ) → follow l ≤ follow (suc l)
follow_up zero = omega arith
follow_up (suc zero) = omega arith
follow_up (suc (suc zero)) = omega arith
follow_up (suc (suc (suc l))) = omega arith

-- a word's left operand ends before it; its right operand is followed by what follows the whole, and then it ends itself
follow_left : (o : Operator) → suc (strength o) ≤ follow (left_level o)
follow_left since_word = omega arith
follow_left and_word = omega arith
follow_left or_word = omega arith
follow_left implies_word = omega arith

follow_right : (o : Operator) → (follow (strength o) ≤ follow (right_level o)) × (follow (strength o) ≤ right_level o) × (strength o ≤ left_level o)
follow_right since_word = (omega arith, omega arith, omega arith)
follow_right and_word = (omega arith, omega arith, omega arith)
follow_right or_word = (omega arith, omega arith, omega arith)
follow_right implies_word = (omega arith, omega arith, omega arith)

module _ {B N : Type 0} (b : Builder B N) where
  -- ---- what a formula builds

  abbrev pub ended : Waiting → (before operand : B) → B
  ended w before v = b.finish w (b.note before) v

  unfoldable pub build : TextFormula → B → B
  build (constant c) v = b.truth c v
  build (atom k r c) v = b.compare k r c v
  build (prefixed p φ) v = ended (awaiting p) (b.begin (awaiting p) v) (build φ (b.begin (awaiting p) v))
  build (joined o φ ψ) v = ended (with_left o) (b.begin (with_left o) (build φ v)) (build ψ (b.begin (with_left o) (build φ v)))

  -- ---- words that end

  pub unwound_ends : (limit : ℕ) (e : Entry N) (s : List (Entry N)) (v : B) → limit ≤ e.tight
      → unwound b limit (e ∷ s) v ≡ unwound b limit s (b.finish e.waiting e.noted v)
  unfolding unwound
  unwound_ends limit e s v h = rw (le-leb limit e.tight h, unwound)

  -- the word on top binds less tight
  abbrev pub Under : ℕ → List (Entry N) → Type 0
  Under limit [] = Unit {0}
  Under limit (e ∷ s) = e.tight < limit

  pub unwound_stays : (limit : ℕ) (s : List (Entry N)) (v : B) → Under limit s → unwound b limit s v ≡ record { stack = s; value = v }
  unfolding unwound
  unwound_stays limit [] v h = refl
  unwound_stays limit (e ∷ s) v h = rw (lt-leb limit e.tight h, unwound)

  under_up : {l m : ℕ} (s : List (Entry N)) → l ≤ m → Under l s → Under m s
  under_up [] h u = tt
  under_up (e ∷ s) h u = omega arith

  -- ---- tokens

  pub read_append : (r : Reading B N) (ts us : List Token) → read_all b r (ts ++ us) ≡ read_all b (read_all b r ts) us
  unfolding read_all
  read_append r [] us = refl
  read_append r (t ∷ ts) us = read_append (read b r t) ts us

  -- after tokens that spell φ at level l: at this depth, and with φ built as soon as a word comes that may follow
  pub record Spelled (r q : Reading B N) (l : ℕ) (φ : TextFormula) : Type 0 where
    pub deep : q.depth ≡ r.depth
    pub same : (m : ℕ) → m ≤ rank r.depth (follow l)
        → unwound b m q.built.stack q.built.value ≡ unwound b m r.built.stack (build φ r.built.value)

  -- a word that waits with its operand built, and ends
  waits_ends : (d m : ℕ) (w : Waiting) (x : Built B N) (ψ : TextFormula) → m ≤ rank d (level_of w)
      → unwound b m (waits b d w x).stack (build ψ (b.begin w x.value)) ≡ unwound b m x.stack (ended w (b.begin w x.value) (build ψ (b.begin w x.value)))
  waits_ends d m w x ψ h = unwound_ends m _ x.stack (build ψ (b.begin w x.value)) h

  in_brackets_lem : (r q : Reading B N) (φ : TextFormula) → Spelled (read b r (sign open_sign)) q 0 φ → Spelled r (read b q (sign close_sign)) 4 φ
  unfolding read
  in_brackets_lem r q φ x = record { deep = let z = x.deep in omega arith; same = λ m h. x.same m (omega arith) }

  prefixed_ends : (p : Prefix) (r q : Reading B N) (φ : TextFormula) → Spelled (read b r (word (prefix_word p))) q 4 φ → Spelled r q 4 (prefixed p φ)
  unfolding read build
  prefixed_ends p r q φ x = record { deep = x.deep; same = λ m h. x.same m h ∙ waits_ends r.depth m (awaiting p) r.built φ h }

  joined_ends : (o : Operator) (r q₁ q₂ : Reading B N) (φ ψ : TextFormula) → Under (rank r.depth (suc (strength o))) r.built.stack
      → Spelled r q₁ (left_level o) φ → Spelled (read b q₁ (word (operator_word o))) q₂ (right_level o) ψ → Spelled r q₂ (strength o) (joined o φ ψ)
  unfolding read build
  joined_ends o r q₁ q₂ φ ψ u x y = record { deep = y.deep ∙ x.deep; same = same_then }
    where
      left : unwound b (rank q₁.depth (suc (strength o))) q₁.built.stack q₁.built.value
          ≡ record { stack = r.built.stack; value = build φ r.built.value }
      left = ap (λ d. unwound b (rank d (suc (strength o))) q₁.built.stack q₁.built.value) x.deep
          ∙ x.same (rank r.depth (suc (strength o))) (let z = follow_left o in omega arith)
          ∙ unwound_stays (rank r.depth (suc (strength o))) r.built.stack (build φ r.built.value) u

      same_then : (m : ℕ) → m ≤ rank r.depth (follow (strength o))
          → unwound b m q₂.built.stack q₂.built.value ≡ unwound b m r.built.stack (build (joined o φ ψ) r.built.value)
      same_then m h =
          let (f, g, i) = follow_right o in
          let z = x.deep in
          y.same m (omega arith) ∙ waits_ends q₁.depth m (with_left o) _ ψ (omega arith)
          ∙ ap (λ v. unwound b m v.stack (ended (with_left o) (b.begin (with_left o) v.value) (build ψ (b.begin (with_left o) v.value)))) left

  pub spelled : {l : ℕ} {ts : List Token} {φ : TextFormula} → Spells l ts φ → (r : Reading B N) → Under (rank r.depth (suc l)) r.built.stack
      → Spelled r (read_all b r ts) l φ
  unfolding read_all read build
  spelled (a_constant c) r u = record { deep = refl; same = λ m h. refl }
  spelled (an_atom i c by_equal) r u = record { deep = refl; same = λ m h. refl }
  spelled (an_atom i c by_below) r u = record { deep = refl; same = λ m h. refl }
  spelled (in_brackets {ts = ts} {φ = φ} e) r u =
      subst (λ q. Spelled r q 4 φ) (sym (read_append (read b r (sign open_sign)) ts (sign close_sign ∷ [])))
      (in_brackets_lem r _ φ (spelled e (read b r (sign open_sign)) (under_up r.built.stack (omega arith) u)))
  spelled (a_prefixed p {φ = φ} e) r u = prefixed_ends p r _ φ (spelled e (read b r (word (prefix_word p))) (omega arith))
  spelled (a_joined o {ts = ts} {us = us} {φ = φ} {ψ = ψ} e f) r u =
      let (i, j, k) = follow_right o in
      subst (λ q. Spelled r q (strength o) (joined o φ ψ)) (sym (read_append r ts (word (operator_word o) ∷ us)))
      (joined_ends o r (read_all b r ts) _ φ ψ u (spelled e r (under_up r.built.stack (omega arith) u))
      (spelled f (read b (read_all b r ts) (word (operator_word o))) (omega arith)))
  spelled (tighter {l = l} e) r u =
      let x = spelled e r (under_up r.built.stack (omega arith) u) in
      record { deep = x.deep; same = λ m h. x.same m (let z = follow_up l in omega arith) }

  pub read_spelled : {ts : List Token} {φ : TextFormula} → Spells 0 ts φ → (v : B) → whole b (read_all b (nothing_read v) ts) ≡ build φ v
  unfolding whole unwound
  read_spelled e v = ap (λ x. x.value) ((spelled e (nothing_read v) tt).same 0 (omega arith))

-- ---- formulas

build_formula : (φ χ : TextFormula) → build formulas φ χ ≡ φ
unfolding build
build_formula (constant c) χ = refl
build_formula (atom k r c) χ = refl
build_formula (prefixed p φ) χ = ap (prefixed p) (build_formula φ χ)
build_formula (joined o φ ψ) χ = ap₂ (joined o) (build_formula φ χ) (build_formula ψ (build formulas φ χ))

pub formula_read : {ts : List Token} {φ : TextFormula} → Spells 0 ts φ → (χ : TextFormula) → whole formulas (read_all formulas (nothing_read χ) ts) ≡ φ
formula_read {ts} {φ} e χ = read_spelled formulas e χ ∙ build_formula φ χ
