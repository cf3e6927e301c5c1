-- What may stand at a place of a text (`specs/Compiled.antt`).
--     Before, before_length, front_room, next_room, tried_length, tried_inside     the bytes before the place and then others, in a buffer
--     stands_passed, stands_refused                    what question 16 says of them
--     Begins, stands_begins, begins_stands             just these may stand: some text of the grammar begins so
-- Assumes nothing.
use mathlib.Core.Path.{◌≡◌, refl, sym, ap, subst, ◌∙◌}
use mathlib.Core.Logic.{◌⊎◌, inl, inr}
use mathlib.Core.Bool.{true}
use mathlib.Core.List.{List, [], ◌++◌, append-nil, append_assoc}
use Prim.Native.Nat.{ℕ, min, suc, ◌+◌, ◌≤◌, ◌<◌}
use native.Mathlib.Omega.{arith}
use lib.ListN.{length, take, drop, take-append-drop}
use lib.Seq.{length-take-le, take_all}
use lib.Dec.{leb}
use borrow.Author.Tests.{leb-true, le-leb}
use Rattle.spec.specs.Questions.{passed, refused, Checked}
use Rattle.spec.proofs.BoolLaws.{le_or_lt}
use Rattle.grammar.specs.Typed.{TextFormula}
use Rattle.grammar.specs.Grammar.{IsText, StuckAt}
use Rattle.grammar.specs.Scan.{question16}
use Rattle.grammar.proofs.ScanLaws.{passes_text}
use Rattle.grammar.proofs.StuckLaws.{stuck_at}
use Rattle.grammar.proofs.TextLaws.{refused_16}
use Rattle.print.specs.Written.{Added}
use Rattle.print.proofs.AddedLaws.{added_as, added_then, added_length, loaded, front_is}
use Rattle.report.specs.Compiled.{beyond, may_stand}

-- ---- in a buffer

-- the first n bytes are those before the place
abbrev pub Before : List ℕ → (place n : ℕ) → Type 0
Before text place n = n ≡ min place (length text)

before_take : (text : List ℕ) (place n : ℕ) → Before text place n → take n text ≡ take place text
before_take text place n b = go (le_or_lt place n)
  where
    go : (place ≤ n) ⊎ (n < place) → take n text ≡ take place text
    go (inl h) = let z : n ≡ place = omega arith in ap (λ m. take m text) z
    go (inr h) = take_all n text (omega arith) ∙ sym (take_all place text (omega arith))

module _ (text : List ℕ) (place n : ℕ) (b : Before text place n) where
  pub before_length : n ≡ length (take n text)
  before_length = sym (length-take-le n text (omega arith))

  pub front_room : (o : List ℕ) → length text ≤ 65000 → length o ≡ 65536 → 0 + length (take n text) ≤ length o
  front_room o small large = let l = before_length in omega arith

  -- then these
  module _ (bs : List ℕ) (start : ℕ) (o o1 : List ℕ) (small : length text ≤ 65000) (few : length bs ≤ 8) (large : length o ≡ 65536)
      (x : Added (take n text) 0 start o o1) where
    pub next_room : start + length bs ≤ length o1
    next_room =
        let l = before_length in
        let e = x.ends in
        let m = added_length (take n text) 0 start o o1 (front_room o small large) x in
        omega arith

    module _ (end : ℕ) (o2 : List ℕ) (y : Added bs start end o1 o2) where
      tried : Added (take place text ++ bs) 0 end o o2
      tried =
          added_as _ _ 0 end o o2 (ap (λ l. l ++ bs) (before_take text place n b)) (added_then (take n text) 0 start o o1 (front_room o small large) x bs end o2 y)

      tried_text : take end o2 ≡ take place text ++ bs
      tried_text = front_is (take place text ++ bs) end o o2 tried

      tried_end : end ≡ length (take place text ++ bs)
      tried_end = loaded (take place text ++ bs) end o o2 tried

      pub tried_length : end ≡ length (take end o2)
      tried_length = tried_end ∙ ap length (sym tried_text)

      pub tried_inside : end ≤ length o2
      tried_inside = let l = next_room in let e = y.ends in let m = added_length bs start end o1 o2 l y in omega arith

      pub stands_passed : passed tt ≡ question16 (take end o2) → true ≡ may_stand text place bs
      unfolding may_stand
      stands_passed e = ap (beyond (length (take place text ++ bs))) (e ∙ ap question16 tried_text)

      pub stands_refused : (q i : ℕ) → refused q i ≡ question16 (take end o2) → leb end i ≡ may_stand text place bs
      unfolding may_stand
      stands_refused q i e =
          ap (λ m. leb m i) tried_end ∙ ap (beyond (length (take place text ++ bs))) (e ∙ ap question16 tried_text)

-- ---- in the words of the grammar

-- some text of the grammar begins so
abbrev pub Begins : List ℕ → Type 0
Begins bs = (rest : List ℕ) × (φ : TextFormula) × IsText (bs ++ rest) φ

module _ (bs : List ℕ) where
  stuck : (q i : ℕ) → question16 bs ≡ refused q i → StuckAt bs i
  stuck q i e = stuck_at bs i (refused_16 bs q i e)

  beyond_begins : (a : Checked) → question16 bs ≡ a → beyond (length bs) a ≡ true → Begins bs
  beyond_begins (passed u) e h = let (φ, x) = passes_text bs e in ([], φ, subst (λ l. IsText l φ) (sym (append-nil bs)) x)
  beyond_begins (refused q i) e h =
      let (rest, φ, x) = (stuck q i e).begins in
      (rest, φ, subst (λ l. IsText (l ++ rest) φ) (take_all i bs (leb-true (length bs) i h)) x)

  begins_beyond : (a : Checked) → question16 bs ≡ a → Begins bs → beyond (length bs) a ≡ true
  begins_beyond (passed u) e b = refl
  begins_beyond (refused q i) e (rest, φ, x) =
      elim (stuck q i e).stops [
        | inl (inside, none-begins) ↦
            absurd
            (none-begins (drop (suc i) bs ++ rest) φ
            (subst (λ l. IsText l φ) (ap (λ l. l ++ rest) (sym (take-append-drop (suc i) bs)) ∙ append_assoc (take (suc i) bs) (drop (suc i) bs) rest) x))
        | inr (end, not-text) ↦ le-leb (length bs) i (omega arith)
      ]

pub stands_begins : (text : List ℕ) (place : ℕ) (bs : List ℕ) → may_stand text place bs ≡ true → Begins (take place text ++ bs)
unfolding may_stand
stands_begins text place bs h = beyond_begins (take place text ++ bs) _ refl h

pub begins_stands : (text : List ℕ) (place : ℕ) (bs : List ℕ) → Begins (take place text ++ bs) → may_stand text place bs ≡ true
unfolding may_stand
begins_stands text place bs b = begins_beyond (take place text ++ bs) _ refl b
