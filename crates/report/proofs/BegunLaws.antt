-- Words that have begun before a place (`specs/Compiled.antt`).
--     letters_last, letters_few, letters_out      how many letters stand just before the place: none beyond the end of the text
--     begun_all, begun_other, begun_is       whether a candidate has begun
--     begun_begins                           some text of the grammar goes on with the rest of one that has
-- Assumes nothing.
use mathlib.Core.Path.{◌≡◌, refl, sym, ap, subst, ◌∙◌}
use mathlib.Core.Logic.{◌≢◌}
use mathlib.Core.Bool.{Bool, true, false, cond, ◌&&◌}
use mathlib.Core.List.{List, [], ◌∷◌, ◌++◌, append_assoc}
use Prim.Native.Nat.{ℕ, zero, suc, ◌+◌, ◌≤◌, ◌<◌}
use native.Mathlib.Omega.{arith}
use lib.ListN.{length, get_or, take, drop, take-append-drop, get_or-eq_default}
use lib.Seq.{take-add, take-suc, length-take-le}
use Rattle.std.proofs.Common.{reverse, take_while}
use Rattle.std.proofs.lemmas.List.{reverse-append, length-reverse}
use Rattle.std.proofs.lemmas.List.Folds.{length-prefix_len}
use Rattle.std.proofs.lemmas.List.Sums.{prefix_len-le-length}
use Rattle.std.specs.List.{prefix_len}
use lib.Dec.{eqb, ltb}
use borrow.Author.Tests.{lt-ltb, le-ltb, eq-eqb, ne_eqb, eqb-true}
use Rattle.spec.proofs.BoolLaws.{and_both}
use Rattle.grammar.specs.Bytes.{agreeing}
use Rattle.grammar.proofs.StopLaws.{agreeing_same}
use Rattle.report.specs.Compiled.{may_stand, is_begun, is_letter, letters_before}
use Rattle.report.proofs.StandLaws.{Begins, stands_begins}

-- ---- letters just before a place

module _ (text : List ℕ) where
  letters_prefix : (n : ℕ) → n ≤ length text → prefix_len is_letter (reverse (take n text)) ≡ letters_before text n
  unfolding letters_before
  letters_prefix zero h = refl
  letters_prefix (suc n) h =
      let e = letters_prefix n (omega arith) in
      let m : 1 + prefix_len is_letter (reverse (take n text)) ≡ suc (letters_before text n) = omega arith in
      ap (λ l. prefix_len is_letter l) (ap reverse (take-suc text n 0 (omega arith)) ∙ reverse-append (take n text) (get_or text n 0 ∷ []))
      ∙ ap (λ k. cond (is_letter (get_or text n 0)) k 0) m

  pub letters_last : (place : ℕ) → place ≤ length text → length (take_while is_letter (reverse (take place text))) ≡ letters_before text place
  letters_last place h = length-prefix_len is_letter (reverse (take place text)) ∙ letters_prefix place h

  pub letters_few : (place : ℕ) → place ≤ length text → letters_before text place ≤ place
  letters_few place h =
      let e = letters_prefix place h in
      let f = prefix_len-le-length is_letter (reverse (take place text)) in
      omega (arith, length-reverse (take place text), length-take-le place text h)

  pub letters_out : (place : ℕ) → length text < place → 0 ≡ letters_before text place
  unfolding letters_before
  letters_out zero h = refl
  letters_out (suc i) h = sym (ap (λ b. cond (is_letter b) (suc (letters_before text i)) 0) (get_or-eq_default text 0 (omega arith)))

-- ---- candidates that have begun

module _ (text : List ℕ) (start typed : ℕ) (bs : List ℕ) where
  abbrev enough : Bool → Bool
  enough b = b && eqb (agreeing bs (drop start text)) typed && may_stand text start bs

  pub begun_all : length bs ≤ typed → false ≡ is_begun text start typed bs
  begun_all h = ap enough (sym (le-ltb typed (length bs) h))

  pub begun_other : typed < length bs → agreeing bs (drop start text) ≢ typed → false ≡ is_begun text start typed bs
  begun_other h n =
      ap (λ b. b && may_stand text start bs) (sym (ne_eqb (agreeing bs (drop start text)) typed n)) ∙ ap enough (sym (lt-ltb typed (length bs) h))

  pub begun_is : typed < length bs → agreeing bs (drop start text) ≡ typed → (b : Bool) → b ≡ may_stand text start bs → b ≡ is_begun text start typed bs
  begun_is h e b s =
      s ∙ ap (λ b. b && may_stand text start bs) (sym (eq-eqb (agreeing bs (drop start text)) typed e)) ∙ ap enough (sym (lt-ltb typed (length bs) h))

  joined : agreeing bs (drop start text) ≡ typed → take start text ++ bs ≡ take (start + typed) text ++ drop typed bs
  joined e =
      let same : take typed bs ≡ take typed (drop start text) = subst (λ n. take n bs ≡ take n (drop start text)) e (agreeing_same bs (drop start text)) in
      ap (λ l. take start text ++ l) (sym (take-append-drop typed bs))
      ∙ sym (append_assoc (take start text) (take typed bs) (drop typed bs))
      ∙ ap (λ l. l ++ drop typed bs) (ap (λ l. take start text ++ l) same ∙ sym (take-add start typed text))

  pub begun_begins : is_begun text start typed bs ≡ true → Begins (take (start + typed) text ++ drop typed bs)
  begun_begins h =
      let (typed-of, stands) = and_both (ltb typed (length bs) && eqb (agreeing bs (drop start text)) typed) (may_stand text start bs) h in
      let (_, e) = and_both (ltb typed (length bs)) (eqb (agreeing bs (drop start text)) typed) typed-of in
      subst Begins (joined (eqb-true (agreeing bs (drop start text)) typed e)) (stands_begins text start bs stands)
