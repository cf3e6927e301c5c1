-- Two scripts of either stored form put together in the place of the first, word by word (`specs/Union.antt` of crate union).
--     Uniting, uniting_start, uniting_next, uniting_end    the first i words are the union's, later ones the first script's
-- Assumes nothing.
use mathlib.Core.Path.{◌≡◌, refl, sym, ap, ap₂, ◌∙◌}
use mathlib.Core.Logic.{inl, inr}
use mathlib.Core.Bool.{Bool, true, false, cond}
use mathlib.Core.List.{List, [], ◌∷◌}
use Prim.Native.Nat.{ℕ, ◌+◌, ◌%◌, ◌≤◌, ◌<◌}
use native.Mathlib.Omega.{arith}
use lib.ListN.{length, get_or, set, length-set}
use lib.Seq.{get_or-set_same, get_or-set_other, ext_get_or}
use lib.Dec.{eqb}
use lib.Pow.{shl-shr}
use lib.Bits.{bit_or, or_shr}
use Rattle.spec.proofs.BoolLaws.{le_or_lt}
use Rattle.moves.specs.Moves.{widen_word, narrow_word}
use Rattle.moves.proofs.LineMoveLaws.{word_widen}
use Rattle.rule.specs.Nodes.{words_in, word_by, over_at}
use Rattle.rule.proofs.PutLaws.{set_at}
use Rattle.union.specs.Union.{union_word, union_words}
use Rattle.union.proofs.UnionLaws.{length_union, word_union}

-- of words with the stored one as their upper half, the upper half is what becomes of the stored ones
narrow_back : (i x y : ℕ) → narrow_word (union_word i (widen_word x) (widen_word y)) ≡ union_word i x y
narrow_back i x y = by (eqb (i % 8) 0)
  where
    by : (b : Bool) → narrow_word (cond b (widen_word x) (bit_or (widen_word x) (widen_word y))) ≡ cond b x (bit_or x y)
    by true = shl-shr x 32
    by false = or_shr (widen_word x) (widen_word y) 32 ∙ ap₂ bit_or (shl-shr x 32) (shl-shr y 32)

-- what is stored of word i is the union of what was stored in its place
word_put : (b : Bool) (script other : List ℕ) (i : ℕ)
    → word_by b (union_word i (get_or (words_in b script) i 0) (get_or (words_in b other) i 0)) ≡ union_word i (get_or script i 0) (get_or other i 0)
word_put true script other i = refl
word_put false script other i =
    ap₂ (λ x y. narrow_word (union_word i x y)) (word_widen script i) (word_widen other i) ∙ narrow_back i (get_or script i 0) (get_or other i 0)

module _ (b : Bool) (first other : List ℕ) where
  abbrev union : List ℕ
  union = union_words first other

  pub record Uniting (i : ℕ) (script : List ℕ) : Type 0 where
    pub size : length script ≡ length first
    pub done : (j : ℕ) → j < i → get_or script j 0 ≡ get_or union j 0
    pub rest : (j : ℕ) → i ≤ j → get_or script j 0 ≡ get_or first j 0

  pub uniting_start : Uniting 0 first
  uniting_start = record { size = refl; done = λ j h. absurd (omega arith); rest = λ j h. refl }

  module _ (same : length first ≡ length other) (i : ℕ) (script script' : List ℕ) (x y v : ℕ) (h : i < length first)
      (ex : x ≡ get_or (words_in b script) i 0) (ey : y ≡ get_or (words_in b other) i 0) (ev : v ≡ union_word i x y)
      (p : script' ≡ over_at i (word_by b v ∷ []) script) (m : Uniting i script) where
    inside : i < length script
    inside = omega (arith, m.size)

    stored_is : script' ≡ set script i (word_by b v)
    stored_is = p ∙ sym (set_at script i (word_by b v) inside)

    value_is_lem : word_by b v ≡ get_or union i 0
    value_is_lem =
        ap (word_by b) (ev ∙ ap₂ (union_word i) ex ey) ∙ word_put b script other i
        ∙ ap (λ u. union_word i u (get_or other i 0)) (m.rest i (omega arith)) ∙ sym (word_union first other same i)

    others : (j : ℕ) → (j ≡ i → ⊥) → get_or script' j 0 ≡ get_or script j 0
    others j z = ap (λ s. get_or s j 0) stored_is ∙ get_or-set_other script i j (word_by b v) 0 z

    pub uniting_next : Uniting (i + 1) script'
    uniting_next = record {
      size = ap length stored_is ∙ length-set script i (word_by b v) ∙ m.size;
      done = λ j k. elim (le_or_lt i j) [
        | inl a ↦
            let z : j ≡ i = omega arith in
            rw z (ap (λ s. get_or s i 0) stored_is ∙ get_or-set_same script i (word_by b v) 0 inside ∙ value_is_lem)
        | inr a ↦ others j (λ z. omega arith) ∙ m.done j a
      ];
      rest = λ j k. others j (λ z. omega arith) ∙ m.rest j (omega arith);
    }

  pub uniting_end : length first ≡ length other → (i : ℕ) (script : List ℕ) → length first ≤ i → Uniting i script → script ≡ union
  uniting_end same i script h m =
      let size = m.size in
      ext_get_or 0 script union (size ∙ sym (length_union first other same)) (λ j k. m.done j (omega arith))
