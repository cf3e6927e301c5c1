-- What bytes begin with that the scan (`specs/Scan.antt`) goes through, from between two tokens.
--     First, first          nothing, a space, or a token that may stand there and that the bytes write
--     scan_writes           so they write the tokens that the scan finds, and these fit
-- Assumes nothing.
use mathlib.Core.Path.{◌≡◌, refl, sym, subst, ap, ◌∙◌}
use mathlib.Core.Logic.{◌⊎◌, inl, inr}
use mathlib.Core.Bool.{Bool, true, false, cond}
use mathlib.Core.Option.{Option, none, some}
use mathlib.Core.List.{List, [], ◌∷◌, ◌++◌}
use Prim.Native.Nat.{ℕ, zero, suc, ◌+◌, ◌-◌, ◌*◌, ◌≤◌, ◌<◌}
use native.Mathlib.Omega.{arith}
use lib.ListN.{length, take, drop, length-drop, take-append-drop}
use lib.Dec.{eqb}
use borrow.Author.Tests.{eqb-true, eqb-false}
use Rattle.spec.specs.Questions.{all}
use Rattle.spec.proofs.BoolLaws.{both_and, le_or_lt}
use Rattle.grammar.specs.Grammar.{Word, Sign, Token, word, register, number, sign, letters_of, byte_of, space, letter_r, is_digit, value_from, Writes, nothing, a_space, a_word, a_register, a_number, a_sign}
use Rattle.grammar.specs.Place.{Want, operand, comparison, constant_number, operator, Place, after_token, after_word, after_sign, after_register, after_number, may_end_at, fits}
use Rattle.grammar.specs.Bytes.{leading_from, digits_in, agreeing}
use Rattle.grammar.specs.Scan.{Kind, is_space, is_sign, digit, letter, kind_of, Scan, between, words_for, starting_with, within₁, begun, between_at, or_register, on_kind, move, stuck_from, tokens_from}
use Rattle.grammar.proofs.SpellLaws.{fits_step}
use Rattle.grammar.proofs.JumpLaws.{none_some, stuck_stop, stuck_end, tokens_end, Jump, space_jump, sign_kind, sign_jump, word_jump, first_of, letters_split}
use Rattle.grammar.proofs.NumeralLaws.{KindIs, kind_is, digit_kind, leading_on, leading_off, digits_on, digits_off, register_jump, number_jump}
use Rattle.grammar.proofs.StopLaws.{digit_none, register_stuck, word_stuck, agreeing_all, agreeing_most}

pub data First (t : Bool) (p : Place) : List ℕ → Type 0 where
  at_end : First t p []
  at_space : (bs : List ℕ) → First t p (space ∷ bs)
  at_token : {bs : List ℕ} (x : Token) (q : Place) (u : Bool) (k : ℕ) (rest : List ℕ) → after_token p x ≡ some q → Jump (between t p) bs k (x ∷ []) (between u q) rest
      → length rest < length bs → ((ts : List Token) → Writes u rest ts → Writes t bs (x ∷ ts)) → First t p bs

-- the scan does not stop here
moves : {X : Type 0} (i : ℕ) (s : Scan) (b : ℕ) (bs : List ℕ) → stuck_from i s (b ∷ bs) ≡ none → move s b ≡ none → X
moves i s b bs e m = none_some (sym e ∙ stuck_stop i s b bs m)

-- ---- digits

digits_taken : (bs : List ℕ) (n : ℕ) → (all is_digit (take (digits_in bs) bs) ≡ true) × (leading_from n bs ≡ value_from n (take (digits_in bs) bs))
unfolding digits_in leading_from
digits_taken [] n = (refl, refl)
digits_taken (b ∷ bs) n = go (is_digit b) refl (digits_taken bs (10 * n + (b - 48)))
  where
    go : (x : Bool) → is_digit b ≡ x
        → (all is_digit (take (digits_in bs) bs) ≡ true) × (leading_from (10 * n + (b - 48)) bs ≡ value_from (10 * n + (b - 48)) (take (digits_in bs) bs))
        → (all is_digit (take (digits_in (b ∷ bs)) (b ∷ bs)) ≡ true) × (leading_from n (b ∷ bs) ≡ value_from n (take (digits_in (b ∷ bs)) (b ∷ bs)))
    go true e (h, v) = rw (digits_on b bs e, leading_on n b bs e) (both_and e h, v)
    go false e x = rw (digits_off b bs e, leading_off n b bs e) (refl, refl)

-- a first digit and those after it: how they are written
module _ (b : ℕ) (bs : List ℕ) (h : is_digit b ≡ true) where
  abbrev others : List ℕ
  others = take (digits_in bs) bs

  abbrev rest : List ℕ
  rest = drop (digits_in (b ∷ bs)) (b ∷ bs)

  all_digits : all is_digit (b ∷ others) ≡ true
  all_digits = both_and h (digits_taken bs 0).0

  rest_is : rest ≡ drop (digits_in bs) bs
  rest_is = ap (λ n. drop n (b ∷ bs)) (digits_on b bs h)

  bytes_are : b ∷ others ++ rest ≡ b ∷ bs
  bytes_are = ap (λ r. b ∷ others ++ r) rest_is ∙ ap (λ l. b ∷ l) (take-append-drop (digits_in bs) bs)

  value_is_lem : value_from 0 (b ∷ others) ≡ leading_from 0 (b ∷ bs)
  value_is_lem = sym (digits_taken bs (10 * 0 + (b - 48))).1 ∙ sym (leading_on 0 b bs h)

  rest_shorter : length rest < length (b ∷ bs)
  rest_shorter = let z = length-drop (digits_in bs) bs in let y = ap length rest_is in omega arith

  number_written : (t : Bool) (ts : List Token) → Writes false rest ts → Writes t (b ∷ bs) (number (leading_from 0 (b ∷ bs)) ∷ ts)
  number_written t ts w = rw (bytes_are, value_is_lem) at (a_number {touching = t} b others {bs = rest} {ts = ts} all_digits w)

  register_written : (ts : List Token) → Writes true rest ts → Writes false (letter_r ∷ b ∷ bs) (register (leading_from 0 (b ∷ bs)) ∷ ts)
  register_written ts w = rw (bytes_are, value_is_lem) at (a_register b others {bs = rest} {ts = ts} all_digits w)

-- ---- a token of each sort

first_sign : (t : Bool) (p : Place) (s : Sign) (bs : List ℕ) (i : ℕ) → stuck_from i (between t p) (byte_of s ∷ bs) ≡ none → First t p (byte_of s ∷ bs)
unfolding move
first_sign t p s bs i e = go (after_sign p.want p.depth s) refl
  where
    go : (o : Option Place) → after_sign p.want p.depth s ≡ o → First t p (byte_of s ∷ bs)
    go none d = moves i (between t p) (byte_of s) bs e (ap (on_kind t p (byte_of s)) (sign_kind s) ∙ ap (between_at false) d)
    go (some q) d = at_token (sign s) q false 1 bs d (sign_jump t p q s bs d) (omega arith) (λ ts w. a_sign s w)

first_number : (t : Bool) (p : Place) (b : ℕ) (bs : List ℕ) (i : ℕ) → is_digit b ≡ true → stuck_from i (between t p) (b ∷ bs) ≡ none → First t p (b ∷ bs)
unfolding move
first_number t p b bs i h e = go (after_number p.want p.depth) refl
  where
    go : (o : Option Place) → after_number p.want p.depth ≡ o → First t p (b ∷ bs)
    go none d = moves i (between t p) b bs e (ap (on_kind t p b) (digit_kind b h) ∙ digit_none p.want p.depth (b - 48) d)
    go (some q) d =
        at_token (number (leading_from 0 (b ∷ bs))) q false (digits_in (b ∷ bs)) (rest b bs h) d (number_jump t p q (b ∷ bs) d h) (rest_shorter b bs h)
        (number_written b bs h t)

first_register : (p q : Place) (bs : List ℕ) (i : ℕ) → after_register p.want p.depth ≡ some q → stuck_from i (between false p) (letter_r ∷ bs) ≡ none
    → First false p (letter_r ∷ bs)
first_register p q [] i a e = none_some (sym e ∙ register_stuck p q i [] a refl)
first_register p q (b ∷ bs) i a e = go (is_digit b) refl
  where
    go : (x : Bool) → is_digit b ≡ x → First false p (letter_r ∷ b ∷ bs)
    go false h = none_some (sym e ∙ register_stuck p q i (b ∷ bs) a h)
    go true h =
        at_token (register (leading_from 0 (b ∷ bs))) q true (suc (digits_in (b ∷ bs))) (rest b bs h) a (register_jump p q (b ∷ bs) a h)
        (let z = rest_shorter b bs h in omega arith) (register_written b bs h)

first_word : (p q : Place) (w : Word) (b : ℕ) (bs : List ℕ) (i : ℕ) → after_word p.want p.depth w ≡ some q → b ≡ first_of w
    → stuck_from i (between false p) (b ∷ bs) ≡ none → First false p (b ∷ bs)
first_word p q w b bs i a f e = go (le_or_lt (length (letters_of w)) (agreeing (letters_of w) (b ∷ bs)))
  where
    rest : List ℕ
    rest = drop (length (letters_of w)) (b ∷ bs)

    go : (length (letters_of w) ≤ agreeing (letters_of w) (b ∷ bs)) ⊎ (agreeing (letters_of w) (b ∷ bs) < length (letters_of w)) → First false p (b ∷ bs)
    go (inl l) =
        let m = agreeing_most (letters_of w) (b ∷ bs) in
        let z = agreeing_all (letters_of w) (b ∷ bs) (omega arith) in
        let n = ap length (letters_split w) in
        let y = length-drop (length (letters_of w)) (b ∷ bs) in
        at_token (word w) q true (length (letters_of w)) rest a
        (subst (λ l. Jump (between false p) l (length (letters_of w)) (word w ∷ []) (between true q) rest) (sym z) (word_jump p q w rest a))
        (omega arith)
        (λ ts x. subst (λ l. Writes false l (word w ∷ ts)) (sym z) (a_word w x))
    go (inr l) = none_some (sym e ∙ word_stuck p q w i b bs a f l)

starting_first : (ws : List Word) (b : ℕ) (w : Word) → starting_with b ws ≡ some w → b ≡ first_of w
unfolding starting_with
starting_first [] b w e = none_some e
starting_first (v ∷ ws) b w e = go (eqb b (first_of v)) refl e (starting_first ws b w)
  where
    go : (x : Bool) → eqb b (first_of v) ≡ x → (elim x as (λ y. Option Word) [ true ↦ some v | false ↦ starting_with b ws ]) ≡ some w
        → (starting_with b ws ≡ some w → b ≡ first_of w) → b ≡ first_of w
    go true d e next = let z : v ≡ w = cc in subst (λ u. b ≡ first_of u) z (eqb-true b _ d)
    go false d e next = next e

-- a letter that starts no register
not_register : (w : Want) (d b : ℕ) (o : Option Scan) → (b ≡ letter_r → after_register w d ≡ none) → or_register w d (eqb b letter_r) o ≡ o
not_register operand d b o h = go (eqb b letter_r) refl
  where
    go : (x : Bool) → eqb b letter_r ≡ x → or_register operand d x o ≡ o
    go true e = none_some (sym (h (eqb-true b letter_r e)))
    go false e = refl
not_register comparison d b o h = refl
not_register constant_number d b o h = refl
not_register operator d b o h = refl

first_letters : (p : Place) (b : ℕ) (bs : List ℕ) (i : ℕ) → kind_of b ≡ letter → (b ≡ letter_r → after_register p.want p.depth ≡ none)
    → stuck_from i (between false p) (b ∷ bs) ≡ none → First false p (b ∷ bs)
unfolding move
first_letters p b bs i k r e = go (starting_with b (words_for p.want)) refl
  where
    goes : move (between false p) b ≡ begun p (starting_with b (words_for p.want))
    goes = ap (on_kind false p b) k ∙ not_register p.want p.depth b _ r

    stands : (w : Word) (o : Option Place) → starting_with b (words_for p.want) ≡ some w → after_word p.want p.depth w ≡ o → First false p (b ∷ bs)
    stands w none s a = moves i (between false p) b bs e (goes ∙ ap (begun p) s ∙ ap (within₁ w) a)
    stands w (some q) s a = first_word p q w b bs i a (starting_first (words_for p.want) b w s) e

    go : (o : Option Word) → starting_with b (words_for p.want) ≡ o → First false p (b ∷ bs)
    go none s = moves i (between false p) b bs e (goes ∙ ap (begun p) s)
    go (some w) s = stands w (after_word p.want p.depth w) s refl

first_letter : (t : Bool) (p : Place) (b : ℕ) (bs : List ℕ) (i : ℕ) → kind_of b ≡ letter → stuck_from i (between t p) (b ∷ bs) ≡ none → First t p (b ∷ bs)
unfolding move
first_letter true p b bs i k e = moves i (between true p) b bs e (ap (on_kind true p b) k)
first_letter false p b bs i k e = go (eqb b letter_r) (after_register p.want p.depth) refl refl
  where
    go : (x : Bool) (o : Option Place) → eqb b letter_r ≡ x → after_register p.want p.depth ≡ o → First false p (b ∷ bs)
    go true (some q) h a =
        let z = eqb-true b letter_r h in
        subst (λ c. First false p (c ∷ bs)) (sym z) (first_register p q bs i a (subst (λ c. stuck_from i (between false p) (c ∷ bs) ≡ none) z e))
    go true none h a = first_letters p b bs i k (λ z. a) e
    go false o h a = first_letters p b bs i k (λ z. absurd (eqb-false b letter_r h z)) e

pub first : (t : Bool) (p : Place) (bs : List ℕ) (i : ℕ) → stuck_from i (between t p) bs ≡ none → First t p bs
first t p [] i e = at_end
first t p (b ∷ bs) i e = go (kind_of b) refl (kind_is b)
  where
    go : (k : Kind) → kind_of b ≡ k → KindIs b (kind_of b) → First t p (b ∷ bs)
    go is_space h x = let z : b ≡ space = subst (KindIs b) h x in subst (λ c. First t p (c ∷ bs)) (sym z) (at_space bs)
    go (is_sign s) h x =
        let z : b ≡ byte_of s = subst (KindIs b) h x in
        subst (λ c. First t p (c ∷ bs)) (sym z) (first_sign t p s bs i (subst (λ c. stuck_from i (between t p) (c ∷ bs) ≡ none) z e))
    go (digit n) h x = first_number t p b bs i (subst (KindIs b) h x).0 e
    go letter h x = first_letter t p b bs i h e

-- ---- all tokens

abbrev WritesFitting : Bool → Place → List ℕ → Type 0
WritesFitting t p bs = Writes t bs (tokens_from (between t p) bs) × (fits p (tokens_from (between t p) bs) ≡ true)

pub none_cond : (x : Bool) (i : ℕ) → cond x none (some i) ≡ none → x ≡ true
none_cond true i e = refl
none_cond false i e = none_some (sym e)

abbrev Shorter : ℕ → Type 0
Shorter n = (t : Bool) (p : Place) (bs : List ℕ) (i : ℕ) → length bs < n → stuck_from i (between t p) bs ≡ none → WritesFitting t p bs

one_more : (n : ℕ) → Shorter n → (t : Bool) (p : Place) (bs : List ℕ) (i : ℕ) → length bs < suc n → stuck_from i (between t p) bs ≡ none → First t p bs
    → WritesFitting t p bs
unfolding fits
one_more n next t p bs i l e at_end =
    rw (tokens_end (between t p)) (nothing, none_cond (may_end_at p.want p.depth) i (sym (stuck_end i (between t p)) ∙ e))
one_more n next t p bs i l e (at_space cs) =
    let x = space_jump t p cs in
    let (w, f) = next false p cs (i + 1) (omega arith) (sym (x.stuck i) ∙ e) in
    rw x.tokens (a_space w, f)
one_more n next t p bs i l e (at_token y q u k rest a x s w) =
    let (v, f) = next u q rest (i + k) (omega arith) (sym (x.stuck i) ∙ e) in
    rw x.tokens (w (tokens_from (between u q) rest) v, fits_step p q y (tokens_from (between u q) rest) a ∙ f)

writes_from : (n : ℕ) → Shorter n
writes_from zero t p bs i l e = absurd (omega arith)
writes_from (suc n) t p bs i l e = one_more n (writes_from n) t p bs i l e (first t p bs i e)

pub scan_writes : (t : Bool) (p : Place) (bs : List ℕ) (i : ℕ) → stuck_from i (between t p) bs ≡ none
    → Writes t bs (tokens_from (between t p) bs) × (fits p (tokens_from (between t p) bs) ≡ true)
scan_writes t p bs i e = writes_from (suc (length bs)) t p bs i (omega arith) e
