-- Where the scan (`specs/Scan.antt`) stops between tokens.
--     NoToken, no_move, touching_none      no token begins with this byte here
--     word_stuck                  a word breaks off
--     register_stuck              r has no number
--     agreeing_first, agreeing_most, agreeing_within, agreeing_same, agreeing_all      a word's letters that stand there
-- Assumes nothing.
use mathlib.Core.Path.{◌≡◌, refl, sym, ap, ◌∙◌}
use mathlib.Core.Logic.{◌≢◌}
use mathlib.Core.Bool.{Bool, true, false, cond}
use mathlib.Core.Option.{none, some}
use mathlib.Core.List.{List, [], ◌∷◌, ◌++◌}
use Prim.Native.Nat.{ℕ, suc, ◌+◌, ◌≤◌, ◌<◌}
use native.Mathlib.Omega.{arith}
use lib.ListN.{length, take, drop}
use lib.Dec.{eqb}
use borrow.Author.Tests.{eqb-true, eq-eqb}
use Rattle.spec.proofs.BoolLaws.{clash}
use Rattle.grammar.specs.Grammar.{Word, Sign, letters_of, byte_of, space, letter_r, is_digit}
use Rattle.grammar.specs.Place.{Want, operand, comparison, constant_number, operator, Place, after_word, after_sign, after_register, after_number}
use Rattle.grammar.specs.Bytes.{agreeing}
use Rattle.grammar.specs.Scan.{Kind, is_space, is_sign, digit, letter, kind_of, between, within, after_r, words_for, starting_with, begun, between_at, or_register, on_letter, on_digit, on_kind, first_digit, move, stuck_from}
use Rattle.grammar.proofs.JumpLaws.{none_some, stuck_step, stuck_stop, stuck_end, first_of, second_of, others_of, letters_split, begin_move}
use Rattle.grammar.proofs.NumeralLaws.{KindIs, kind_is, leads, register_move}

-- ---- no token begins with this byte

pub record NoToken (touching : Bool) (p : Place) (b : ℕ) : Type 0 where
  pub no_space : b ≢ space
  pub no_sign : (s : Sign) → b ≡ byte_of s → after_sign p.want p.depth s ≡ none
  pub no_number : is_digit b ≡ true → after_number p.want p.depth ≡ none
  pub no_register : touching ≡ false → b ≡ letter_r → after_register p.want p.depth ≡ none
  pub no_word : touching ≡ false → starting_with b (words_for p.want) ≡ none

pub digit_none : (w : Want) (d n : ℕ) → after_number w d ≡ none → on_digit w d n ≡ none
digit_none operand d n e = refl
digit_none comparison d n e = refl
digit_none constant_number d n e = none_some (sym e)
digit_none operator d n e = refl

pub register_none : (w : Want) (d b : ℕ) → (b ≡ letter_r → after_register w d ≡ none) → or_register w d (eqb b letter_r) none ≡ none
register_none operand d b h = go (eqb b letter_r) refl
  where
    go : (x : Bool) → eqb b letter_r ≡ x → or_register operand d x none ≡ none
    go true e = none_some (sym (h (eqb-true b letter_r e)))
    go false e = refl
register_none comparison d b h = refl
register_none constant_number d b h = refl
register_none operator d b h = refl

letter_none : (t : Bool) (p : Place) (b : ℕ) → NoToken t p b → on_letter t p b ≡ none
letter_none true p b h = refl
letter_none false p b h =
    ap (λ o. or_register p.want p.depth (eqb b letter_r) (begun p o)) (h.no_word refl) ∙ register_none p.want p.depth b (h.no_register refl)

kind_none : (t : Bool) (p : Place) (b : ℕ) (k : Kind) → KindIs b k → NoToken t p b → on_kind t p b k ≡ none
kind_none t p b is_space k h = absurd (h.no_space k)
kind_none t p b (is_sign s) k h = ap (between_at false) (h.no_sign s k)
kind_none t p b (digit n) k h = digit_none p.want p.depth n (h.no_number k.0)
kind_none t p b letter k h = letter_none t p b h

pub no_move : (t : Bool) (p : Place) (b : ℕ) → NoToken t p b → move (between t p) b ≡ none
unfolding move
no_move t p b h = kind_none t p b (kind_of b) (kind_is b) h

-- a letter that touches a word
pub touching_none : (p : Place) (b : ℕ) → kind_of b ≡ letter → move (between true p) b ≡ none
unfolding move
touching_none p b k = ap (on_kind true p b) k

-- ---- an r without a number

no_first : (d b : ℕ) (k : Kind) → KindIs b k → is_digit b ≡ false → first_digit d k ≡ none
no_first d b is_space k h = refl
no_first d b (is_sign s) k h = refl
no_first d b (digit n) k h = clash k.0 h
no_first d b letter k h = refl

after_r_lem : (d i : ℕ) (bs : List ℕ) → leads bs ≡ false → stuck_from i (after_r d) bs ≡ some i
unfolding move
after_r_lem d i [] h = stuck_end i (after_r d)
after_r_lem d i (b ∷ bs) h = stuck_stop i (after_r d) b bs (no_first d b (kind_of b) (kind_is b) h)

pub register_stuck : (p q : Place) (i : ℕ) (bs : List ℕ) → after_register p.want p.depth ≡ some q → leads bs ≡ false
    → stuck_from i (between false p) (letter_r ∷ bs) ≡ some (suc i)
register_stuck p q i bs e h = stuck_step i (between false p) (after_r p.depth) letter_r bs (register_move p q e).0 ∙ after_r_lem p.depth (suc i) bs h

-- ---- a word that breaks off

pub agreeing_first : (x b : ℕ) (xs bs : List ℕ) → b ≡ x → agreeing (x ∷ xs) (b ∷ bs) ≡ suc (agreeing xs bs)
unfolding agreeing
agreeing_first x b xs bs e = rw (eq-eqb b x e, agreeing)

agreeing_none : (x b : ℕ) (xs bs : List ℕ) → eqb b x ≡ false → agreeing (x ∷ xs) (b ∷ bs) ≡ 0
unfolding agreeing
agreeing_none x b xs bs e = rw (e, agreeing)

pub agreeing_most : (xs bs : List ℕ) → agreeing xs bs ≤ length xs
unfolding agreeing
agreeing_most [] bs = omega arith
agreeing_most (x ∷ xs) [] = omega arith
agreeing_most (x ∷ xs) (b ∷ bs) = go (eqb b x) (agreeing_most xs bs)
  where
    go : (y : Bool) → agreeing xs bs ≤ length xs → cond y (suc (agreeing xs bs)) 0 ≤ length (x ∷ xs)
    go true h = omega arith
    go false h = omega arith

pub agreeing_within : (xs bs : List ℕ) → agreeing xs bs ≤ length bs
unfolding agreeing
agreeing_within [] bs = omega arith
agreeing_within (x ∷ xs) [] = omega arith
agreeing_within (x ∷ xs) (b ∷ bs) = go (eqb b x) (agreeing_within xs bs)
  where
    go : (y : Bool) → agreeing xs bs ≤ length bs → cond y (suc (agreeing xs bs)) 0 ≤ length (b ∷ bs)
    go true h = omega arith
    go false h = omega arith

-- all letters stand there
pub agreeing_same : (xs bs : List ℕ) → take (agreeing xs bs) xs ≡ take (agreeing xs bs) bs
unfolding agreeing
agreeing_same [] bs = refl
agreeing_same (x ∷ xs) [] = refl
agreeing_same (x ∷ xs) (b ∷ bs) = go (eqb b x) refl (agreeing_same xs bs)
  where
    go : (y : Bool) → eqb b x ≡ y → take (agreeing xs bs) xs ≡ take (agreeing xs bs) bs
        → take (cond y (suc (agreeing xs bs)) 0) (x ∷ xs) ≡ take (cond y (suc (agreeing xs bs)) 0) (b ∷ bs)
    go true e next = ap (λ z. z ∷ take (agreeing xs bs) xs) (sym (eqb-true b x e)) ∙ ap (λ l. b ∷ l) next
    go false e next = refl

pub agreeing_all : (xs bs : List ℕ) → agreeing xs bs ≡ length xs → bs ≡ xs ++ drop (length xs) bs
unfolding agreeing
agreeing_all [] bs e = refl
agreeing_all (x ∷ xs) [] e = absurd (omega arith)
agreeing_all (x ∷ xs) (b ∷ bs) e = go (eqb b x) refl (agreeing_all xs bs)
  where
    go : (y : Bool) → eqb b x ≡ y → (agreeing xs bs ≡ length xs → bs ≡ xs ++ drop (length xs) bs) → b ∷ bs ≡ x ∷ (xs ++ drop (length xs) bs)
    go true h next =
        let k = agreeing_first x b xs bs (eqb-true b x h) in
        let z : agreeing xs bs ≡ length xs = omega arith in
        ap (λ a. a ∷ bs) (eqb-true b x h) ∙ ap (λ l. x ∷ l) (next z)
    go false h next = let k = agreeing_none x b xs bs h in absurd (omega arith)

within_none : (x b : ℕ) (more : List ℕ) (w : Word) (q : Place) → eqb b x ≡ false → move (within x more w q) b ≡ none
unfolding move
within_none x b [] w q e = rw e
within_none x b (y ∷ more) w q e = rw e

within_next : (x y b : ℕ) (more : List ℕ) (w : Word) (q : Place) → eqb b x ≡ true → move (within x (y ∷ more) w q) b ≡ some (within y more w q)
unfolding move
within_next x y b more w q e = rw e

within_stuck : (more : List ℕ) (x i : ℕ) (w : Word) (q : Place) (bs : List ℕ) → agreeing (x ∷ more) bs < length (x ∷ more)
    → stuck_from i (within x more w q) bs ≡ some (i + agreeing (x ∷ more) bs)
unfolding agreeing
within_stuck more x i w q [] h = stuck_end i (within x more w q) ∙ ap some (let z : i ≡ i + 0 = omega arith in z)
within_stuck [] x i w q (b ∷ bs) h = go (eqb b x) refl
  where
    go : (y : Bool) → eqb b x ≡ y → stuck_from i (within x [] w q) (b ∷ bs) ≡ some (i + agreeing (x ∷ []) (b ∷ bs))
    go true e = let k = agreeing_first x b [] bs (eqb-true b x e) in absurd (omega arith)
    go false e =
        let k = agreeing_none x b [] bs e in
        stuck_stop i (within x [] w q) b bs (within_none x b [] w q e) ∙ ap some (let z : i ≡ i + agreeing (x ∷ []) (b ∷ bs) = omega arith in z)
within_stuck (y ∷ more) x i w q (b ∷ bs) h = go (eqb b x) refl (within_stuck more y (suc i) w q bs)
  where
    go : (z : Bool) → eqb b x ≡ z
        → (agreeing (y ∷ more) bs < length (y ∷ more) → stuck_from (suc i) (within y more w q) bs ≡ some (suc i + agreeing (y ∷ more) bs))
        → stuck_from i (within x (y ∷ more) w q) (b ∷ bs) ≡ some (i + agreeing (x ∷ y ∷ more) (b ∷ bs))
    go true e next =
        let k = agreeing_first x b (y ∷ more) bs (eqb-true b x e) in
        stuck_step i (within x (y ∷ more) w q) (within y more w q) b bs (within_next x y b more w q e)
        ∙ next (omega arith) ∙ ap some (let z : suc i + agreeing (y ∷ more) bs ≡ i + agreeing (x ∷ y ∷ more) (b ∷ bs) = omega arith in z)
    go false e next =
        let k = agreeing_none x b (y ∷ more) bs e in
        stuck_stop i (within x (y ∷ more) w q) b bs (within_none x b (y ∷ more) w q e)
        ∙ ap some (let z : i ≡ i + agreeing (x ∷ y ∷ more) (b ∷ bs) = omega arith in z)

pub word_stuck : (p q : Place) (w : Word) (i b : ℕ) (bs : List ℕ) → after_word p.want p.depth w ≡ some q → b ≡ first_of w
    → agreeing (letters_of w) (b ∷ bs) < length (letters_of w) → stuck_from i (between false p) (b ∷ bs) ≡ some (i + agreeing (letters_of w) (b ∷ bs))
word_stuck p q w i b bs e f h =
    let l = ap (λ ls. agreeing ls (b ∷ bs)) (letters_split w) ∙ agreeing_first (first_of w) b (second_of w ∷ others_of w) bs f in
    let n = ap length (letters_split w) in
    stuck_step i (between false p) (within (second_of w) (others_of w) w q) b bs (ap (move (between false p)) f ∙ begin_move p w q e)
    ∙ within_stuck (others_of w) (second_of w) (suc i) w q bs (omega arith)
    ∙ ap some (let z : suc i + agreeing (second_of w ∷ others_of w) bs ≡ i + agreeing (letters_of w) (b ∷ bs) = omega arith in z)
