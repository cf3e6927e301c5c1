-- Question 17 (`specs/Texting.antt`) in the words of the grammar.
--     failing, failing_is       the lowest place of a number out of range, byte by byte
--     ranged                    bytes that write tokens: either these are all in range, or the place is the first digit of the first that is not
--     spells_range, ranges_agree, range_tokens     question 17 lets a text pass just where its formula, and its tokens, are in range
--     range_at                  and refuses it at the first number that is not
-- Assumes nothing.
use mathlib.Core.Path.{◌≡◌, refl, sym, subst, ap, ◌∙◌}
use mathlib.Core.Logic.{◌⊎◌, inl, inr, ◌↔◌}
use mathlib.Core.Bool.{Bool, true, false, cond, not, ◌&&◌, ◌||◌}
use mathlib.Core.Option.{Option, none, some}
use mathlib.Core.List.{List, [], ◌∷◌, ◌++◌, append_assoc}
use Prim.Native.Nat.{ℕ, zero, suc, ◌+◌, ◌≤◌, ◌<◌}
use native.Mathlib.Omega.{arith}
use lib.ListN.{length, get_or, drop, length-append}
use lib.Dec.{eqb, leb}
use borrow.Author.Tests.{le-leb, lt-leb}
use Rattle.spec.specs.Logic.{largest_value}
use Rattle.spec.specs.Questions.{all, passed, refused, first_failing, no_at, ask}
use Rattle.spec.proofs.BoolLaws.{clash, and_both, le_or_lt}
use Rattle.grammar.specs.Typed.{TextFormula}
use Rattle.grammar.specs.Grammar.{Word, constant_word, prefix_word, operator_word, Sign, open_sign, close_sign, equal_sign, below_sign, Token, word, register, number, sign, Spells, a_constant, an_atom, in_brackets, a_prefixed, a_joined, tighter, letters_of, byte_of, space, letter_r, is_digit, value_from, Writes, nothing, a_space, a_word, a_register, a_number, a_sign, IsText}
use Rattle.grammar.specs.Place.{Want, operand, comparison, constant_number, operator, Place, at, after_word, after_number, fits}
use Rattle.grammar.specs.Bytes.{leading_from}
use Rattle.grammar.specs.Texting.{most_after, question17}
use Rattle.grammar.specs.TextPromise.{InRange, TokenInRange, AllInRange, first_digit_of, OutOfRangeAt}
use Rattle.grammar.proofs.SpellLaws.{fits_out, spells_fits}
use Rattle.grammar.proofs.JumpLaws.{none_some, by_word}
use Rattle.grammar.proofs.NumeralLaws.{leads, leading_value}
use Rattle.grammar.proofs.ScanLaws.{sign_no_digit, no_digit_next, after_register_lem, after_number_lem}

-- ---- byte by byte

-- no number out of range starts at place i, after the byte `before`
abbrev ok_at : (before : ℕ) → List ℕ → ℕ → Bool
ok_at before bs i =
    not (is_digit (get_or bs i 0) && not (is_digit (get_or (before ∷ bs) i 0))) || leb (leading_from 0 (drop i bs)) (most_after (get_or (before ∷ bs) i 0))

abbrev next : Option ℕ → Option ℕ
next none = none
next (some i) = some (suc i)

unfoldable pub failing : (before : ℕ) → List ℕ → Option ℕ
failing a [] = none
failing a (b ∷ bs) = elim (ok_at a (b ∷ bs) 0) [ true ↦ next (failing b bs) | false ↦ some 0 ]

-- places one further on
first_shift : (n i : ℕ) (ok : ℕ → Bool) → first_failing n (suc i) ok ≡ next (first_failing n i (λ j. ok (suc j)))
unfolding first_failing
first_shift zero i ok = refl
first_shift (suc n) i ok = go (ok (suc i)) (first_shift n (suc i) ok)
  where
    go : (b : Bool) → first_failing n (suc (suc i)) ok ≡ next (first_failing n (suc i) (λ j. ok (suc j)))
        → (elim b as (λ x. Option ℕ) [ true ↦ first_failing n (suc (suc i)) ok | false ↦ some (suc i) ])
        ≡ next (elim b as (λ x. Option ℕ) [ true ↦ first_failing n (suc i) (λ j. ok (suc j)) | false ↦ some i ])
    go true e = e
    go false e = refl

pub failing_is : (bs : List ℕ) (a : ℕ) → first_failing (length bs) 0 (ok_at a bs) ≡ failing a bs
unfolding first_failing failing
failing_is [] a = refl
failing_is (b ∷ bs) a = go (ok_at a (b ∷ bs) 0) (first_shift (length bs) 0 (ok_at a (b ∷ bs)) ∙ ap next (failing_is bs b))
  where
    go : (x : Bool) → first_failing (length bs) 1 (ok_at a (b ∷ bs)) ≡ next (failing b bs)
        → ◌≡◌ {A = Option ℕ} (elim x as (λ y. Option ℕ) [ true ↦ first_failing (length bs) 1 (ok_at a (b ∷ bs)) | false ↦ some 0 ])
        (elim x as (λ y. Option ℕ) [ true ↦ next (failing b bs) | false ↦ some 0 ])
    go true e = e
    go false e = refl

failing_on : (a b : ℕ) (bs : List ℕ) → ok_at a (b ∷ bs) 0 ≡ true → failing a (b ∷ bs) ≡ next (failing b bs)
unfolding failing
failing_on a b bs e = rw (e, failing)

failing_here : (a b : ℕ) (bs : List ℕ) → ok_at a (b ∷ bs) 0 ≡ false → failing a (b ∷ bs) ≡ some 0
unfolding failing
failing_here a b bs e = rw (e, failing)

-- ---- bytes at which no number starts

-- a byte that is no digit, or a digit after a digit
pub quiet : (x y z : Bool) → (x ≡ false) ⊎ (y ≡ true) → (not (x && not y) || z) ≡ true
quiet true y z (inl e) = clash refl e
quiet true true z (inr e) = refl
quiet true false z (inr e) = clash e refl
quiet false y z e = refl

pub started : (x y z : Bool) → x ≡ true → y ≡ false → (not (x && not y) || z) ≡ z
started true true z e f = clash refl f
started true false z e f = refl
started false y z e f = clash e refl

abbrev last_of : ℕ → List ℕ → ℕ
last_of a [] = a
last_of a (b ∷ bs) = last_of b bs

abbrev moved : ℕ → Option ℕ → Option ℕ
moved zero o = o
moved (suc k) o = next (moved k o)

letters_failing : (xs : List ℕ) (a : ℕ) (bs : List ℕ) → all (λ b. not (is_digit b)) xs ≡ true → failing a (xs ++ bs) ≡ moved (length xs) (failing (last_of a xs) bs)
letters_failing [] a bs e = refl
letters_failing (x ∷ xs) a bs e =
    let (p, q) = and_both (not (is_digit x)) (all (λ b. not (is_digit b)) xs) e in
    failing_on a x (xs ++ bs) (quiet (is_digit x) (is_digit a) _ (inl (not_true (is_digit x) p))) ∙ ap next (letters_failing xs x bs q)
  where
    not_true : (b : Bool) → not b ≡ true → b ≡ false
    not_true true e = sym e
    not_true false e = refl

digits_failing : (ds : List ℕ) (a : ℕ) (bs : List ℕ) → is_digit a ≡ true → all is_digit ds ≡ true → failing a (ds ++ bs) ≡ moved (length ds) (failing (last_of a ds) bs)
digits_failing [] a bs h e = refl
digits_failing (d ∷ ds) a bs h e =
    let (p, q) = and_both (is_digit d) (all is_digit ds) e in
    failing_on a d (ds ++ bs) (quiet (is_digit d) (is_digit a) _ (inr h)) ∙ ap next (digits_failing ds d bs p q)

-- ---- a number

number_ok : (a d : ℕ) (ds bs : List ℕ) → is_digit a ≡ false → all is_digit (d ∷ ds) ≡ true → leads bs ≡ false
    → ok_at a (d ∷ ds ++ bs) 0 ≡ leb (value_from 0 (d ∷ ds)) (most_after a)
number_ok a d ds bs h k l =
    started (is_digit d) (is_digit a) (leb (leading_from 0 (d ∷ ds ++ bs)) (most_after a)) (and_both (is_digit d) (all is_digit ds) k).0 h
    ∙ ap (λ v. leb v (most_after a)) (leading_value (d ∷ ds) 0 bs k l)

number_failing : (a d : ℕ) (ds bs : List ℕ) → is_digit a ≡ false → all is_digit (d ∷ ds) ≡ true → leads bs ≡ false → value_from 0 (d ∷ ds) ≤ most_after a
    → failing a (d ∷ ds ++ bs) ≡ moved (length (d ∷ ds)) (failing (last_of a (d ∷ ds)) bs)
number_failing a d ds bs h k l v =
    let (p, q) = and_both (is_digit d) (all is_digit ds) k in
    failing_on a d (ds ++ bs) (number_ok a d ds bs h k l ∙ le-leb (value_from 0 (d ∷ ds)) (most_after a) v) ∙ ap next (digits_failing ds d bs p q)

number_fails : (a d : ℕ) (ds bs : List ℕ) → is_digit a ≡ false → all is_digit (d ∷ ds) ≡ true → leads bs ≡ false → most_after a < value_from 0 (d ∷ ds)
    → failing a (d ∷ ds ++ bs) ≡ some 0
number_fails a d ds bs h k l v = failing_here a d (ds ++ bs) (number_ok a d ds bs h k l ∙ lt-leb (value_from 0 (d ∷ ds)) (most_after a) v)

-- ---- tokens

-- among these tokens
abbrev pub OutAt : Bool → List ℕ → List Token → ℕ → Type 0
OutAt t bs ts i = (x : OutOfRangeAt t bs i) × (ts ≡ x.lower ++ x.numeral ∷ x.higher)

abbrev Outcome : Bool → ℕ → List ℕ → List Token → Type 0
Outcome t a bs ts = ((failing a bs ≡ none) × AllInRange ts) ⊎ ((i : ℕ) × (failing a bs ≡ some i) × OutAt t bs ts i)

moved_none : (k : ℕ) → moved k none ≡ none
moved_none zero = refl
moved_none (suc k) = ap next (moved_none k)

moved_some : (k i : ℕ) → moved k (some i) ≡ some (k + i)
moved_some zero i = ap some (let z : i ≡ 0 + i = omega arith in z)
moved_some (suc k) i = ap next (moved_some k i) ∙ ap some (let z : suc (k + i) ≡ suc k + i = omega arith in z)

digit_moved : (t : Token) (k n : ℕ) → k + first_digit_of t n ≡ first_digit_of t (k + n)
digit_moved (word w) k n = refl
digit_moved (register m) k n = omega arith
digit_moved (number m) k n = refl
digit_moved (sign s) k n = refl

-- bytes xs before, at which no number fails, and which write the tokens us
module _ (t u : Bool) (a b : ℕ) (xs bs : List ℕ) (us ts : List Token) (wrap : (cs : List ℕ) (vs : List Token) → Writes u cs vs → Writes t (xs ++ cs) (us ++ vs))
    (fit : (vs : List Token) → AllInRange vs → AllInRange (us ++ vs)) (same : failing a (xs ++ bs) ≡ moved (length xs) (failing b bs)) where
  out_later : (i : ℕ) → OutAt u bs ts i → OutAt t (xs ++ bs) (us ++ ts) (length xs + i)
  out_later i (x, e) = (
    record {
      before = xs ++ x.before;
      after = x.after;
      bytes = ap (λ l. xs ++ l) x.bytes ∙ sym (append_assoc xs x.before x.after);
      lower = us ++ x.lower;
      lower_written = wrap x.before x.lower x.lower_written;
      lower_fit = fit x.lower x.lower_fit;
      numeral = x.numeral;
      higher = x.higher;
      beside = x.beside;
      rest_written = x.rest_written;
      out = x.out;
      place = ap (λ n. length xs + n) x.place ∙ digit_moved x.numeral (length xs) (length x.before)
          ∙ ap (first_digit_of x.numeral) (sym (length-append xs x.before));
    },
    ap (λ l. us ++ l) e ∙ sym (append_assoc us x.lower (x.numeral ∷ x.higher)),
  )

  later : Outcome u b bs ts → Outcome t a (xs ++ bs) (us ++ ts)
  later (inl (e, f)) = inl (same ∙ ap (moved (length xs)) e ∙ moved_none (length xs), fit ts f)
  later (inr (i, e, x)) = inr (length xs + i, same ∙ ap (moved (length xs)) e ∙ moved_some (length xs) i, out_later i x)

-- the first token is the one
out_here : {t : Bool} {bs : List ℕ} {ts : List Token} (n : Token) → Writes t bs (n ∷ ts) → (TokenInRange n → ⊥) → OutAt t bs (n ∷ ts) (first_digit_of n 0)
out_here {t} {bs} {ts} n w o = (
  record {
    before = [];
    after = bs;
    bytes = refl;
    lower = [];
    lower_written = nothing;
    lower_fit = tt;
    numeral = n;
    higher = ts;
    beside = t;
    rest_written = w;
    out = o;
    place = refl;
  },
  refl,
)

-- what stands before a number
abbrev Before : Want → ℕ → Type 0
Before operand a = Unit {0}
Before comparison a = Unit {0}
Before constant_number a = (is_digit a ≡ false) × (eqb a letter_r ≡ false)
Before operator a = Unit {0}

before_other : (w : Want) (a : ℕ) → is_digit a ≡ false → eqb a letter_r ≡ false → Before w a
before_other operand a p q = tt
before_other comparison a p q = tt
before_other constant_number a p q = (p, q)
before_other operator a p q = tt

before_none : (w : Want) (d a : ℕ) → after_number w d ≡ none → Before w a
before_none operand d a e = tt
before_none comparison d a e = tt
before_none constant_number d a e = none_some (sym e)
before_none operator d a e = tt

after_word_lem : (w : Want) (d : ℕ) (x : Word) (q : Place) → after_word w d x ≡ some q → after_number q.want q.depth ≡ none
after_word_lem operand d (constant_word c) q e = let z : at operator d ≡ q = cc in subst (λ p. after_number p.want p.depth ≡ none) z refl
after_word_lem operand d (prefix_word p) q e = let z : at operand d ≡ q = cc in subst (λ p. after_number p.want p.depth ≡ none) z refl
after_word_lem operand d (operator_word o) q e = none_some e
after_word_lem comparison d x q e = none_some e
after_word_lem constant_number d x q e = none_some e
after_word_lem operator d (constant_word c) q e = none_some e
after_word_lem operator d (prefix_word p) q e = none_some e
after_word_lem operator d (operator_word o) q e = let z : at operand d ≡ q = cc in subst (λ p. after_number p.want p.depth ≡ none) z refl

-- where a number may stand
number_before : (w : Want) (d a : ℕ) (q : Place) → after_number w d ≡ some q → Before w a → (is_digit a ≡ false) × (most_after a ≡ largest_value)
number_before operand d a q e b = none_some e
number_before comparison d a q e b = none_some e
number_before constant_number d a q e b = (b.0, ap (λ c. cond c 15 largest_value) b.1)
number_before operator d a q e b = none_some e

sign_no_r : (s : Sign) → eqb (byte_of s) letter_r ≡ false
sign_no_r open_sign = refl
sign_no_r close_sign = refl
sign_no_r equal_sign = refl
sign_no_r below_sign = refl

no_digits : (w : Word) → all (λ b. not (is_digit b)) (letters_of w) ≡ true
no_digits = by_word (λ w. all (λ b. not (is_digit b)) (letters_of w) ≡ true) refl refl refl refl refl refl refl refl refl refl refl

pub ranged : {t : Bool} {bs : List ℕ} {ts : List Token} → Writes t bs ts → (p : Place) (a : ℕ) → fits p ts ≡ true → Before p.want a → Outcome t a bs ts
unfolding failing
ranged nothing p a f b = inl (refl, tt)
ranged (a_space {touching = t} {bs = bs} {ts = ts} e) p a f b =
    later t false a space (space ∷ []) bs [] ts (λ cs vs w. a_space w) (λ vs v. v) (letters_failing (space ∷ []) a bs refl)
    (ranged e p space f (before_other p.want space refl refl))
ranged (a_word w {bs = bs} {ts = ts} e) p a f b =
    let (q, c, g) = fits_out p (word w) ts f in
    later false true a (last_of a (letters_of w)) (letters_of w) bs (word w ∷ []) ts (λ cs vs x. a_word w x) (λ vs v. (tt, v)) (letters_failing (letters_of w) a bs (no_digits w))
    (ranged e q (last_of a (letters_of w)) g (before_none q.want q.depth _ (after_word_lem p.want p.depth w q c)))
ranged (a_register d ds {bs = bs} {ts = ts} h e) p a f b =
    let n = value_from 0 (d ∷ ds) in
    let (q, c, g) = fits_out p (register n) ts f in
    let k = after_register_lem p.want p.depth q c in
    let l = no_digit_next e q g k in
    let r = letters_failing (letter_r ∷ []) a (d ∷ ds ++ bs) refl in
    elim (le_or_lt n 15) [
      | inl v ↦ later false true a (last_of d ds) (letter_r ∷ d ∷ ds) bs (register n ∷ []) ts (λ cs vs x. a_register d ds h x) (λ vs x. (v, x))
          (r ∙ ap next (number_failing letter_r d ds bs refl h l v)) (ranged e q (last_of d ds) g (before_none q.want q.depth _ k))
      | inr v ↦ inr (1, r ∙ ap next (number_fails letter_r d ds bs refl h l v), out_here (register n) (a_register d ds h e) (λ x. (omega arith)))
    ]
ranged (a_number {touching = t} d ds {bs = bs} {ts = ts} h e) p a f b =
    let n = value_from 0 (d ∷ ds) in
    let (q, c, g) = fits_out p (number n) ts f in
    let k = after_number_lem p.want p.depth q c in
    let l = no_digit_next e q g k in
    let (x, y) = number_before p.want p.depth a q c b in
    elim (le_or_lt n largest_value) [
      | inl v ↦ later t false a (last_of d ds) (d ∷ ds) bs (number n ∷ []) ts (λ cs vs w. a_number d ds h w) (λ vs w. (v, w))
          (number_failing a d ds bs x h l (subst (λ m. n ≤ m) (sym y) v)) (ranged e q (last_of d ds) g (before_none q.want q.depth _ k))
      | inr v ↦ inr (0, number_fails a d ds bs x h l (subst (λ m. m < n) (sym y) v), out_here (number n) (a_number d ds h e) (λ w. (omega arith)))
    ]
ranged (a_sign {touching = t} s {bs = bs} {ts = ts} e) p a f b =
    let (q, c, g) = fits_out p (sign s) ts f in
    let k : all (λ b. not (is_digit b)) (byte_of s ∷ []) ≡ true = ap (λ x. not x && true) (sign_no_digit s) in
    later t false a (byte_of s) (byte_of s ∷ []) bs (sign s ∷ []) ts (λ cs vs w. a_sign s w) (λ vs v. (tt, v)) (letters_failing (byte_of s ∷ []) a bs k)
    (ranged e q (byte_of s) g (before_other q.want (byte_of s) (sign_no_digit s) (sign_no_r s)))

-- ---- a formula's atoms

pub fit_append : (ts us : List Token) → AllInRange (ts ++ us) ↔ (AllInRange ts × AllInRange us)
fit_append [] us = (λ a. (tt, a), λ a. a.1)
fit_append (t ∷ ts) us = (
  λ a. let (b, c) = (fit_append ts us).0 a.1 in ((a.0, b), c),
  λ a. (a.0.0, (fit_append ts us).1 (a.0.1, a.1)),
)

pub spells_range : {l : ℕ} {ts : List Token} {φ : TextFormula} → Spells l ts φ → AllInRange ts ↔ InRange φ
spells_range (a_constant c) = (λ a. tt, λ a. (tt, tt))
spells_range (an_atom r c g) = (λ a. (a.0, a.1.1.0), λ a. (a.0, (tt, (a.1, tt))))
spells_range (in_brackets {ts = ts} e) = (
  λ a. (spells_range e).0 ((fit_append ts (sign close_sign ∷ [])).0 a.1).0,
  λ a. (tt, (fit_append ts (sign close_sign ∷ [])).1 ((spells_range e).1 a, (tt, tt))),
)
spells_range (a_prefixed p e) = (λ a. (spells_range e).0 a.1, λ a. (tt, (spells_range e).1 a))
spells_range (a_joined o {ts = ts} {us = us} e f) = (
  λ a. let (b, c) = (fit_append ts (word (operator_word o) ∷ us)).0 a in ((spells_range e).0 b, (spells_range f).0 c.1),
  λ a. (fit_append ts (word (operator_word o) ∷ us)).1 ((spells_range e).1 a.0, (tt, (spells_range f).1 a.1)),
)
spells_range (tighter e) = spells_range e

-- ---- question 17

module _ (bs : List ℕ) (φ : TextFormula) (x : IsText bs φ) where
  outcome : Outcome false 0 bs x.tokens
  outcome = ranged x.writes (at operand 0) 0 (spells_fits x.spells) tt

  asked : question17 bs ≡ no_at 17 (failing 0 bs)
  asked = unfold question17 ask in ap (no_at 17) (failing_is bs 0)

  not_all : (i : ℕ) → OutAt false bs x.tokens i → AllInRange x.tokens → ⊥
  not_all i (o, e) r = o.out ((fit_append o.lower (o.numeral ∷ o.higher)).0 (subst AllInRange e r)).1.0

  pub range_tokens : question17 bs ≡ passed tt → AllInRange x.tokens
  range_tokens e =
      elim outcome [
        | inl r ↦ r.1
        | inr o ↦ let z : refused 17 o.0 ≡ passed tt = sym (asked ∙ ap (no_at 17) o.1) ∙ e in let y : ◌≡◌ {A = ℕ} 0 1 = cc in absurd (omega arith)
      ]

  pub ranges_agree : (question17 bs ≡ passed tt) ↔ InRange φ
  ranges_agree = (
    λ e. (spells_range x.spells).0 (range_tokens e),
    λ r. elim outcome [
      | inl o ↦ asked ∙ ap (no_at 17) o.0
      | inr o ↦ absurd (not_all o.0 o.2 ((spells_range x.spells).1 r))
    ],
  )

  pub range_at : (i : ℕ) → question17 bs ≡ refused 17 i → OutOfRangeAt false bs i
  range_at i e =
      elim outcome [
        | inl o ↦ let z : passed tt ≡ refused 17 i = sym (asked ∙ ap (no_at 17) o.0) ∙ e in let y : ◌≡◌ {A = ℕ} 0 1 = cc in absurd (omega arith)
        | inr (j, f, o) ↦ let z : refused 17 j ≡ refused 17 i = sym (asked ∙ ap (no_at 17) f) ∙ e in
            let y : j ≡ i = cc in subst (OutOfRangeAt false bs) y o.0
      ]
