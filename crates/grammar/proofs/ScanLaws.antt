-- The scan (`specs/Scan.antt`) goes through just the texts of the grammar (`specs/Grammar.antt`), and finds their tokens.
--     Accepts, accepts_jump       it goes through, and finds these tokens
--     no_digit_next               where no number may stand no digit does
--     writes_scan                 it accepts bytes that write tokens which fit
--     text_accepts, accepts_text, text_passes, passes_text      so question 16 lets just the texts pass
--     text_tokens, text_formula, text_one       a text's tokens, and its one formula
-- Not here: that bytes which it goes through write the tokens that it finds (`proofs/FirstLaws.antt`). Assumes nothing.
use mathlib.Core.Path.{◌≡◌, refl, sym, subst, ap, ◌∙◌}
use mathlib.Core.Bool.{Bool, true, false, cond}
use mathlib.Core.Option.{Option, none, some}
use mathlib.Core.List.{List, [], ◌∷◌, ◌++◌}
use Prim.Native.Nat.{ℕ, suc, ◌+◌}
use native.Mathlib.Omega.{arith}
use lib.ListN.{length, drop}
use lib.Seq.{drop_at}
use Rattle.spec.specs.Questions.{passed, all, no_at}
use Rattle.spec.proofs.BoolLaws.{clash, and_both}
use Rattle.grammar.specs.Typed.{TextFormula, constant}
use Rattle.grammar.specs.Grammar.{Word, Sign, open_sign, close_sign, equal_sign, below_sign, Token, word, register, number, sign, letters_of, byte_of, letter_r, is_digit, value_from, Writes, nothing, a_space, a_word, a_register, a_number, a_sign, IsText}
use Rattle.grammar.specs.Place.{Want, operand, comparison, constant_number, operator, Place, at, after_register, after_number, fits}
use Rattle.grammar.specs.Bytes.{leading_from, digits_in}
use Rattle.grammar.specs.Scan.{Scan, between, stuck_from, tokens_from, start, question16, tokens_of}
use Rattle.grammar.specs.Reading.{formulas, read_all, whole, nothing_read, formula_of}
use Rattle.grammar.proofs.SpellLaws.{fits_stop, fits_out, fits_spells, spells_fits}
use Rattle.grammar.proofs.ReadingLaws.{formula_read}
use Rattle.grammar.proofs.JumpLaws.{none_some, stuck_end, tokens_end, Jump, space_jump, sign_jump, word_jump, by_word}
use Rattle.grammar.proofs.NumeralLaws.{leads, register_jump, number_jump, leading_value, digits_count}
use Rattle.grammar.proofs.FirstLaws.{scan_writes}

pub record Accepts (s : Scan) (bs : List ℕ) (ts : List Token) : Type 0 where
  pub through : (i : ℕ) → stuck_from i s bs ≡ none
  pub found : tokens_from s bs ≡ ts

pub accepts_jump : {s q : Scan} {bs rest : List ℕ} {k : ℕ} {ts us : List Token} → Jump s bs k ts q rest → Accepts q rest us → Accepts s bs (ts ++ us)
accepts_jump {k = k} {ts = ts} x a = record { through = λ i. x.stuck i ∙ a.through (i + k); found = x.tokens ∙ ap (λ l. ts ++ l) a.found }

-- ---- what is written is gone through

word_leads : (w : Word) (bs : List ℕ) → leads (letters_of w ++ bs) ≡ false
word_leads w bs = by_word (λ w. leads (letters_of w ++ bs) ≡ false) refl refl refl refl refl refl refl refl refl refl refl w

pub sign_no_digit : (s : Sign) → is_digit (byte_of s) ≡ false
sign_no_digit open_sign = refl
sign_no_digit close_sign = refl
sign_no_digit equal_sign = refl
sign_no_digit below_sign = refl

pub no_digit_next : {t : Bool} {bs : List ℕ} {ts : List Token} → Writes t bs ts → (p : Place) → fits p ts ≡ true → after_number p.want p.depth ≡ none
    → leads bs ≡ false
no_digit_next nothing p f n = refl
no_digit_next (a_space e) p f n = refl
no_digit_next (a_word w {bs = bs} e) p f n = word_leads w bs
no_digit_next (a_register d ds h e) p f n = refl
no_digit_next (a_number d ds {ts = ts} h e) p f n = clash f (fits_stop p (number (value_from 0 (d ∷ ds))) ts n)
no_digit_next (a_sign s e) p f n = sign_no_digit s

-- no number may stand after a number, or after a register
pub after_register_lem : (w : Want) (d : ℕ) (q : Place) → after_register w d ≡ some q → after_number q.want q.depth ≡ none
after_register_lem operand d q e = let z : at comparison d ≡ q = cc in subst (λ p. after_number p.want p.depth ≡ none) z refl
after_register_lem comparison d q e = none_some e
after_register_lem constant_number d q e = none_some e
after_register_lem operator d q e = none_some e

pub after_number_lem : (w : Want) (d : ℕ) (q : Place) → after_number w d ≡ some q → after_number q.want q.depth ≡ none
after_number_lem operand d q e = none_some e
after_number_lem comparison d q e = none_some e
after_number_lem constant_number d q e = let z : at operator d ≡ q = cc in subst (λ p. after_number p.want p.depth ≡ none) z refl
after_number_lem operator d q e = none_some e

-- a jump over digits that are written
digits_written : (s q : Scan) (ds bs : List ℕ) (k : ℕ → ℕ) (t : ℕ → Token) (all-bytes : List ℕ) → all is_digit ds ≡ true → leads bs ≡ false
    → Jump s all-bytes (k (digits_in (ds ++ bs))) (t (leading_from 0 (ds ++ bs)) ∷ []) q (drop (digits_in (ds ++ bs)) (ds ++ bs))
    → Jump s all-bytes (k (length ds)) (t (value_from 0 ds) ∷ []) q bs
digits_written s q ds bs k t all-bytes h l x =
    subst (λ r. Jump s all-bytes (k (length ds)) (t (value_from 0 ds) ∷ []) q r) (drop_at ds bs (length ds) refl)
    (rw (digits_count ds bs h l, leading_value ds 0 bs h l) at x)

pub writes_scan : {t : Bool} {bs : List ℕ} {ts : List Token} → Writes t bs ts → (p : Place) → fits p ts ≡ true → Accepts (between t p) bs ts
unfolding fits
writes_scan (nothing {touching = t}) p f = record {
  through = λ i. stuck_end i (between t p) ∙ ap (λ x. cond x none (some i)) f;
  found = tokens_end (between t p);
}
writes_scan (a_space {touching = t} {bs = bs} e) p f = accepts_jump (space_jump t p bs) (writes_scan e p f)
writes_scan (a_word w {bs = bs} {ts = ts} e) p f =
    let (q, a, g) = fits_out p (word w) ts f in accepts_jump (word_jump p q w bs a) (writes_scan e q g)
writes_scan (a_register d ds {bs = bs} {ts = ts} h e) p f =
    let (q, a, g) = fits_out p (register (value_from 0 (d ∷ ds))) ts f in
    let l = no_digit_next e q g (after_register_lem p.want p.depth q a) in
    accepts_jump
    (digits_written (between false p) (between true q) (d ∷ ds) bs suc register (letter_r ∷ d ∷ ds ++ bs) h l
    (register_jump p q (d ∷ ds ++ bs) a (and_both (is_digit d) (all is_digit ds) h).0))
    (writes_scan e q g)
writes_scan (a_number {touching = t} d ds {bs = bs} {ts = ts} h e) p f =
    let (q, a, g) = fits_out p (number (value_from 0 (d ∷ ds))) ts f in
    let l = no_digit_next e q g (after_number_lem p.want p.depth q a) in
    accepts_jump
    (digits_written (between t p) (between false q) (d ∷ ds) bs (λ n. n) number (d ∷ ds ++ bs) h l
    (number_jump t p q (d ∷ ds ++ bs) a (and_both (is_digit d) (all is_digit ds) h).0))
    (writes_scan e q g)
writes_scan (a_sign {touching = t} s {bs = bs} {ts = ts} e) p f =
    let (q, a, g) = fits_out p (sign s) ts f in accepts_jump (sign_jump t p q s bs a) (writes_scan e q g)

-- ---- the texts of the grammar

pub text_accepts : (bs : List ℕ) (φ : TextFormula) (x : IsText bs φ) → Accepts start bs x.tokens
text_accepts bs φ x = writes_scan x.writes (at operand 0) (spells_fits x.spells)

pub accepts_text : (bs : List ℕ) (i : ℕ) → stuck_from i start bs ≡ none → (φ : TextFormula) × IsText bs φ
accepts_text bs i e =
    let (w, f) = scan_writes false (at operand 0) bs i e in
    let (φ, s) = fits_spells (tokens_from start bs) f in
    (φ, record { tokens = tokens_from start bs; writes = w; spells = s })

no_stuck : (o : Option ℕ) → no_at 16 o ≡ passed tt → o ≡ none
no_stuck none e = refl
no_stuck (some i) e = let z : ◌≡◌ {A = ℕ} 0 1 = cc in absurd (omega arith)

pub passes_through : (bs : List ℕ) → question16 bs ≡ passed tt → stuck_from 0 start bs ≡ none
unfolding question16
passes_through bs e = no_stuck (stuck_from 0 start bs) e

pub text_passes : (bs : List ℕ) (φ : TextFormula) → IsText bs φ → question16 bs ≡ passed tt
unfolding question16
text_passes bs φ x = ap (no_at 16) ((text_accepts bs φ x).through 0)

pub passes_text : (bs : List ℕ) → question16 bs ≡ passed tt → (φ : TextFormula) × IsText bs φ
passes_text bs e = accepts_text bs 0 (passes_through bs e)

pub text_tokens : (bs : List ℕ) (φ : TextFormula) (x : IsText bs φ) → tokens_of bs ≡ x.tokens
unfolding tokens_of
text_tokens bs φ x = (text_accepts bs φ x).found

pub text_formula : (bs : List ℕ) (φ : TextFormula) → IsText bs φ → formula_of bs ≡ φ
unfolding formula_of
text_formula bs φ x = ap (λ ts. whole formulas (read_all formulas (nothing_read (constant false)) ts)) (text_tokens bs φ x) ∙ formula_read x.spells (constant false)

-- one text has one formula
pub text_one : (bs : List ℕ) (φ ψ : TextFormula) → IsText bs φ → IsText bs ψ → φ ≡ ψ
text_one bs φ ψ x y = sym (text_formula bs φ x) ∙ text_formula bs ψ y
