-- Tokens that fit (`specs/Place.antt`) are those that spell a formula (`specs/Grammar.antt`).
--     at_level, right_small, left_small       what binds tighter stands also where less is wanted
--     fits_step, fits_stop, fits_out          one token, where it may stand and where not
--     AnOperand, AFormula                     an operand, and a formula, at the beginning of tokens that fit
--     fits_spells                             tokens that fit spell a formula
--     spells_fits                             tokens that spell one fit
-- Assumes nothing.
use mathlib.Core.Path.{◌≡◌, refl, sym, subst, ap, ◌∙◌}
use mathlib.Core.Logic.{◌⊎◌, inl, inr}
use mathlib.Core.Bool.{true, false}
use mathlib.Core.Option.{Option, none, some}
use mathlib.Core.List.{List, [], ◌∷◌, ◌++◌, append_assoc, append-nil}
use Prim.Native.Nat.{ℕ, zero, suc, ◌+◌, ◌-◌, ◌*◌, ◌≤◌, ◌<◌}
use native.Mathlib.Nat.{le_refl, le_trans}
use native.Mathlib.Omega.{arith}
use lib.ListN.{length, length-append}
use lib.Dec.{eqb, eqb-suc-zero}
use Rattle.spec.proofs.BoolLaws.{clash, le_or_lt}
use Rattle.grammar.specs.Typed.{Prefix, Operator, since_word, and_word, or_word, implies_word, Comparison, TextFormula, constant, atom, prefixed, joined}
use Rattle.grammar.specs.Grammar.{constant_word, prefix_word, operator_word, Sign, open_sign, close_sign, equal_sign, below_sign, Token, word, register, number, sign, strength, left_level, right_level, Compares, by_equal, by_below, Spells, a_constant, an_atom, in_brackets, a_prefixed, a_joined, tighter}
use Rattle.grammar.specs.Place.{operand, comparison, constant_number, operator, Place, at, after_token, fits}

-- ---- levels

lower : (k : ℕ) {l : ℕ} {ts : List Token} {φ : TextFormula} → Spells (k + l) ts φ → Spells l ts φ
lower zero {l} {ts} {φ} e = let z : zero + l ≡ l = omega arith in subst (λ n. Spells n ts φ) z e
lower (suc k) {l} {ts} {φ} e = let z : suc k + l ≡ suc (k + l) = omega arith in lower k (tighter (subst (λ n. Spells n ts φ) z e))

pub at_level : (l : ℕ) {m : ℕ} {ts : List Token} {φ : TextFormula} → l ≤ m → Spells m ts φ → Spells l ts φ
at_level l {m} {ts} {φ} h e = let z : m ≡ (m - l) + l = omega arith in lower (m - l) (subst (λ n. Spells n ts φ) z e)

pub right_small : (o : Operator) → right_level o ≤ 4
right_small since_word = omega arith
right_small and_word = omega arith
right_small or_word = omega arith
right_small implies_word = omega arith

pub left_small : (o : Operator) → left_level o ≤ 4
left_small since_word = omega arith
left_small and_word = omega arith
left_small or_word = omega arith
left_small implies_word = omega arith

-- right_level is one above strength, but for implies, where both are 0
right_next : (o : Operator) → (right_level o ≤ suc (strength o)) × (right_level o ≤ 4 * strength o)
right_next since_word = (omega arith, omega arith)
right_next and_word = (omega arith, omega arith)
right_next or_word = (omega arith, omega arith)
right_next implies_word = (omega arith, omega arith)

-- a word q that may not stand in the right operand of o may have o in its left operand
loose : (o q : Operator) → strength q < right_level o → left_level q ≤ strength o
loose o since_word h = let (r, s) = right_next o in omega arith
loose o and_word h = let (r, s) = right_next o in omega arith
loose o or_word h = let (r, s) = right_next o in omega arith
loose o implies_word h = let (r, s) = right_next o in omega arith

-- ---- an operand and a word before a formula

abbrev Spelled : ℕ → List Token → Type 0
Spelled l ts = (φ : TextFormula) × Spells l ts φ

module _ (o : Operator) {xs : List Token} {χ : TextFormula} (x : Spells 4 xs χ) where
  onto : {l : ℕ} {us : List Token} {ψ : TextFormula} → Spells l us ψ → right_level o ≤ l → (m : ℕ) → m ≤ strength o
      → Spelled m (xs ++ word (operator_word o) ∷ us)
  onto {ψ = ψ} e h m k = (joined o χ ψ, at_level m k (a_joined o (at_level (left_level o) (left_small o) x) (at_level (right_level o) h e)))

  before : {l : ℕ} {us : List Token} {ψ : TextFormula} → Spells l us ψ → (m : ℕ) → m ≤ l → m ≤ strength o
      → Spelled m (xs ++ word (operator_word o) ∷ us)
  before (a_constant c) m h k = onto (a_constant c) (right_small o) m k
  before (an_atom r c g) m h k = onto (an_atom r c g) (right_small o) m k
  before (in_brackets e) m h k = onto (in_brackets e) (right_small o) m k
  before (a_prefixed p e) m h k = onto (a_prefixed p e) (right_small o) m k
  before (a_joined q {ts = ts} {us = us} {ψ = ψ} e f) m h k = go (le_or_lt (right_level o) (strength q)) (λ a. before e (left_level q) (le_refl (left_level q)) a)
    where
      go : (right_level o ≤ strength q) ⊎ (strength q < right_level o)
          → (left_level q ≤ strength o → Spelled (left_level q) (xs ++ word (operator_word o) ∷ ts))
          → Spelled m (xs ++ word (operator_word o) ∷ (ts ++ word (operator_word q) ∷ us))
      go (inl a) inside = onto (a_joined q e f) a m k
      go (inr a) inside =
          let (φ, s) = inside (loose o q a) in (
            joined q φ ψ,
            subst (λ v. Spells m v (joined q φ ψ)) (append_assoc xs (word (operator_word o) ∷ ts) (word (operator_word q) ∷ us)) (at_level m h (a_joined q s f)),
          )
  before (tighter {l = l} e) m h k = before e m (le_trans h (let z : l ≤ suc l = omega arith in z)) k

-- ---- one token

pub fits_step : (p q : Place) (t : Token) (ts : List Token) → after_token p t ≡ some q → fits p (t ∷ ts) ≡ fits q ts
unfolding fits
fits_step p q t ts e = rw (e, fits)

pub fits_stop : (p : Place) (t : Token) (ts : List Token) → after_token p t ≡ none → fits p (t ∷ ts) ≡ false
unfolding fits
fits_stop p t ts e = rw (e, fits)

pub fits_out : (p : Place) (t : Token) (ts : List Token) → fits p (t ∷ ts) ≡ true → (q : Place) × (after_token p t ≡ some q) × (fits q ts ≡ true)
fits_out p t ts e = go (after_token p t) refl
  where
    go : (o : Option Place) → after_token p t ≡ o → (q : Place) × (after_token p t ≡ some q) × (fits q ts ≡ true)
    go none d = clash e (fits_stop p t ts d)
    go (some q) d = (q, d, sym (fits_step p q t ts d) ∙ e)

-- ---- tokens that fit: an operand, and what follows it

pub record AnOperand (d : ℕ) (ts : List Token) : Type 0 where
  pub formula : TextFormula
  pub first : List Token
  pub rest : List Token
  pub split : ts ≡ first ++ rest
  pub spells : Spells 4 first formula
  pub goes_on : fits (at operator d) rest ≡ true

-- a formula ends with the text, or before a closing bracket
abbrev Ends : ℕ → List Token → Type 0
Ends zero ts = ts ≡ []
Ends (suc d) ts = (us : List Token) × (ts ≡ sign close_sign ∷ us) × (fits (at operator d) us ≡ true)

pub record AFormula (d : ℕ) (ts : List Token) : Type 0 where
  pub formula : TextFormula
  pub first : List Token
  pub rest : List Token
  pub split : ts ≡ first ++ rest
  pub spells : Spells 0 first formula
  pub ends : Ends d rest

abbrev Operands : ℕ → Type 0
Operands n = (d : ℕ) (ts : List Token) → length ts ≤ n → fits (at operand d) ts ≡ true → AnOperand d ts

abbrev Formulas : ℕ → Type 0
Formulas n = (d : ℕ) (ts : List Token) → length ts ≤ n → fits (at operand d) ts ≡ true → AFormula d ts

with_prefix : (p : Prefix) {d : ℕ} {ts : List Token} → AnOperand d ts → AnOperand d (word (prefix_word p) ∷ ts)
with_prefix p x = record {
  formula = prefixed p x.formula;
  first = word (prefix_word p) ∷ x.first;
  rest = x.rest;
  split = ap (λ l. word (prefix_word p) ∷ l) x.split;
  spells = a_prefixed p x.spells;
  goes_on = x.goes_on;
}

bracketed : {d : ℕ} {ts : List Token} → AFormula (suc d) ts → AnOperand d (sign open_sign ∷ ts)
bracketed {d} {ts} x =
    let (us, e, f) = x.ends in
    record {
      formula = x.formula;
      first = sign open_sign ∷ (x.first ++ sign close_sign ∷ []);
      rest = us;
      split = ap (λ l. sign open_sign ∷ l) (x.split ∙ ap (λ l. x.first ++ l) e ∙ sym (append_assoc x.first (sign close_sign ∷ []) us));
      spells = in_brackets x.spells;
      goes_on = f;
    }

numbered : {s : Sign} {k : Comparison} (r d : ℕ) → Compares s k → (ts : List Token) → fits (at constant_number d) ts ≡ true
    → AnOperand d (register r ∷ sign s ∷ ts)
unfolding fits
numbered r d g [] f = clash f refl
numbered r d g (word w ∷ ts) f = clash f refl
numbered r d g (register n ∷ ts) f = clash f refl
numbered {s} {k} r d g (number c ∷ ts) f = record {
  formula = atom k r c;
  first = register r ∷ sign s ∷ number c ∷ [];
  rest = ts;
  split = refl;
  spells = an_atom r c g;
  goes_on = f;
}
numbered r d g (sign s ∷ ts) f = clash f refl

compared : (r d : ℕ) (ts : List Token) → fits (at comparison d) ts ≡ true → AnOperand d (register r ∷ ts)
unfolding fits
compared r d [] f = clash f refl
compared r d (word w ∷ ts) f = clash f refl
compared r d (register n ∷ ts) f = clash f refl
compared r d (number n ∷ ts) f = clash f refl
compared r d (sign open_sign ∷ ts) f = clash f refl
compared r d (sign close_sign ∷ ts) f = clash f refl
compared r d (sign equal_sign ∷ ts) f = numbered r d by_equal ts f
compared r d (sign below_sign ∷ ts) f = numbered r d by_below ts f

operand_next : (n : ℕ) → Operands n → Formulas n → Operands (suc n)
unfolding fits
operand_next n os fs d [] l f = clash f refl
operand_next n os fs d (word (constant_word c) ∷ ts) l f =
    record { formula = constant c; first = word (constant_word c) ∷ []; rest = ts; split = refl; spells = a_constant c; goes_on = f }
operand_next n os fs d (word (prefix_word p) ∷ ts) l f = with_prefix p (os d ts (omega arith) f)
operand_next n os fs d (word (operator_word o) ∷ ts) l f = clash f refl
operand_next n os fs d (register r ∷ ts) l f = compared r d ts f
operand_next n os fs d (number c ∷ ts) l f = clash f refl
operand_next n os fs d (sign open_sign ∷ ts) l f = bracketed (fs (suc d) ts (omega arith) f)
operand_next n os fs d (sign close_sign ∷ ts) l f = clash f refl
operand_next n os fs d (sign equal_sign ∷ ts) l f = clash f refl
operand_next n os fs d (sign below_sign ∷ ts) l f = clash f refl

-- an operand alone, or before a closing bracket
alone : {d : ℕ} {ts : List Token} (x : AnOperand d ts) → Ends d x.rest → AFormula d ts
alone x e = record {
  formula = x.formula;
  first = x.first;
  rest = x.rest;
  split = x.split;
  spells = at_level 0 (omega arith) x.spells;
  ends = e;
}

-- an operand, a word and a formula
followed : {d : ℕ} {ts us : List Token} (x : AnOperand d ts) (o : Operator) → x.rest ≡ word (operator_word o) ∷ us → AFormula d us → AFormula d ts
followed {d} {ts} {us} x o e y =
    let (φ, s) = before o x.spells y.spells 0 (omega arith) (omega arith) in
    record {
      formula = φ;
      first = x.first ++ word (operator_word o) ∷ y.first;
      rest = y.rest;
      split = x.split ∙ ap (λ l. x.first ++ l) (e ∙ ap (λ l. word (operator_word o) ∷ l) y.split)
          ∙ sym (append_assoc x.first (word (operator_word o) ∷ y.first) y.rest);
      spells = s;
      ends = y.ends;
    }

ends_none : (d : ℕ) → eqb d 0 ≡ true → Ends d []
ends_none zero e = refl
ends_none (suc d) e = clash e (eqb-suc-zero d)

closes : {d : ℕ} {ts us : List Token} (e : ℕ) → e ≡ d → (x : AnOperand d ts) → x.rest ≡ sign close_sign ∷ us → fits (at operator e) (sign close_sign ∷ us) ≡ true
    → AFormula d ts
unfolding fits
closes zero z x e f = clash f refl
closes {us = us} (suc d) z x e f = alone x (subst (λ n. Ends n x.rest) z (us, e, f))

formula_from_lem : (n : ℕ) → Formulas n → (d : ℕ) (ts us : List Token) (x : AnOperand d ts) → x.rest ≡ us → length us ≤ suc n → fits (at operator d) us ≡ true
    → AFormula d ts
unfolding fits
formula_from_lem n fs d ts [] x e l f = alone x (subst (λ v. Ends d v) (sym e) (ends_none d f))
formula_from_lem n fs d ts (word (constant_word c) ∷ us) x e l f = clash f refl
formula_from_lem n fs d ts (word (prefix_word p) ∷ us) x e l f = clash f refl
formula_from_lem n fs d ts (word (operator_word o) ∷ us) x e l f = followed x o e (fs d us (omega arith) f)
formula_from_lem n fs d ts (register r ∷ us) x e l f = clash f refl
formula_from_lem n fs d ts (number c ∷ us) x e l f = clash f refl
formula_from_lem n fs d ts (sign open_sign ∷ us) x e l f = clash f refl
formula_from_lem n fs d ts (sign close_sign ∷ us) x e l f = closes d refl x e f
formula_from_lem n fs d ts (sign equal_sign ∷ us) x e l f = clash f refl
formula_from_lem n fs d ts (sign below_sign ∷ us) x e l f = clash f refl

formula_next : (n : ℕ) → Operands (suc n) → Formulas n → Formulas (suc n)
formula_next n os fs d ts l f =
    let x = os d ts l f in
    let z = length-append x.first x.rest in
    let y = ap length x.split in
    formula_from_lem n fs d ts x.rest x refl (omega arith) x.goes_on

no_tokens : (d : ℕ) (ts : List Token) → length ts ≤ 0 → fits (at operand d) ts ≡ true → ⊥
unfolding fits
no_tokens d [] l f = clash f refl
no_tokens d (t ∷ ts) l f = omega arith

both : (n : ℕ) → Operands n × Formulas n
both zero = (λ d ts l f. absurd (no_tokens d ts l f), λ d ts l f. absurd (no_tokens d ts l f))
both (suc n) =
    let (os, fs) = both n in
    let o = operand_next n os fs in
    (o, formula_next n o fs)

pub fits_spells : (ts : List Token) → fits (at operand 0) ts ≡ true → (φ : TextFormula) × Spells 0 ts φ
fits_spells ts f =
    let x = (both (length ts)).1 0 ts (le_refl (length ts)) f in
    (x.formula, subst (λ v. Spells 0 v x.formula) (sym (x.split ∙ ap (λ v. x.first ++ v) x.ends ∙ append-nil x.first)) x.spells)

-- ---- tokens that spell a formula fit

pub spelled_fits : {l : ℕ} {ts : List Token} {φ : TextFormula} → Spells l ts φ → (d : ℕ) (us : List Token) → fits (at operator d) us ≡ true
    → fits (at operand d) (ts ++ us) ≡ true
unfolding fits
spelled_fits (a_constant c) d us f = f
spelled_fits (an_atom r c by_equal) d us f = f
spelled_fits (an_atom r c by_below) d us f = f
spelled_fits (in_brackets {ts = ts} e) d us f =
    subst (λ v. fits (at operand (suc d)) v ≡ true) (sym (append_assoc ts (sign close_sign ∷ []) us)) (spelled_fits e (suc d) (sign close_sign ∷ us) f)
spelled_fits (a_prefixed p e) d us f = spelled_fits e d us f
spelled_fits (a_joined o {ts = ts} {us = vs} e g) d us f =
    subst (λ v. fits (at operand d) v ≡ true) (sym (append_assoc ts (word (operator_word o) ∷ vs) us))
    (spelled_fits e d (word (operator_word o) ∷ (vs ++ us)) (spelled_fits g d us f))
spelled_fits (tighter e) d us f = spelled_fits e d us f

pub spells_fits : {ts : List Token} {φ : TextFormula} → Spells 0 ts φ → fits (at operand 0) ts ≡ true
unfolding fits
spells_fits {ts} e = subst (λ v. fits (at operand 0) v ≡ true) (append-nil ts) (spelled_fits e 0 [] refl)
