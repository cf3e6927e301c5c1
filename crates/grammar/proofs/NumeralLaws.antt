-- Numbers in the scan (`specs/Scan.antt`), and the digits at the beginning of bytes (`specs/Bytes.antt`).
--     KindIs, kind_is, digit_kind       what a byte's kind says of it
--     digits_jump                       from within a number over all digits that stand there
--     register_jump, number_jump        a register with its r, an atom's number
--     leads, leads_some, leads_none, digits_within, leading_value, digits_count      digits, and then none
-- Assumes nothing.
use mathlib.Core.Path.{◌≡◌, refl, sym, ap, ap₂, ◌∙◌}
use mathlib.Core.Logic.{inl, inr}
use mathlib.Core.Bool.{Bool, true, false, cond}
use mathlib.Core.Option.{Option, none, some}
use mathlib.Core.List.{List, [], ◌∷◌, ◌++◌}
use Prim.Native.Nat.{ℕ, suc, ◌+◌, ◌-◌, ◌*◌, ◌≤◌, ◌<◌}
use native.Mathlib.Omega.{arith}
use lib.ListN.{length, drop}
use lib.Dec.{eqb}
use borrow.Author.Tests.{eqb-true, ne_eqb}
use Rattle.spec.specs.Questions.{all}
use Rattle.spec.proofs.BoolLaws.{clash, and_both, decided}
use Rattle.grammar.specs.Grammar.{open_sign, close_sign, equal_sign, below_sign, Token, register, number, byte_of, space, letter_r, is_digit, value_from}
use Rattle.grammar.specs.Place.{Want, operand, comparison, constant_number, operator, Place, at, after_register, after_number}
use Rattle.grammar.specs.Bytes.{leading_from, digits_in}
use Rattle.grammar.specs.Scan.{Kind, is_space, is_sign, digit, letter, kind_of, Scan, between, after_r, digits, on_digit, on_kind, after_numeral, onwards, first_digit, move, may_end, stuck_from, numeral, sign_token, ended_numeral, ended, tokens_from}
use Rattle.grammar.proofs.JumpLaws.{none_some, stuck_end, tokens_end, Jump, jump_one, jump_then, jump_count}

-- ---- kinds of bytes

abbrev pub KindIs : ℕ → Kind → Type 0
KindIs b is_space = b ≡ space
KindIs b (is_sign s) = b ≡ byte_of s
KindIs b (digit n) = (is_digit b ≡ true) × (n ≡ b - 48)
KindIs b letter = Unit {0}

pub kind_is : (b : ℕ) → KindIs b (kind_of b)
unfolding kind_of
kind_is b = go (eqb b 32) (eqb b 40) (eqb b 41) (eqb b 61) (eqb b 60) (is_digit b) refl refl refl refl refl refl
  where
    go : (p q r s t d : Bool) → eqb b 32 ≡ p → eqb b 40 ≡ q → eqb b 41 ≡ r → eqb b 61 ≡ s → eqb b 60 ≡ t → is_digit b ≡ d
        → KindIs b (cond p is_space (cond q (is_sign open_sign) (cond r (is_sign close_sign) (cond s (is_sign equal_sign) (cond t (is_sign below_sign) (cond d (digit (b - 48)) letter))))))
    go true q r s t d e f g h i j = eqb-true b 32 e
    go false true r s t d e f g h i j = eqb-true b 40 f
    go false false true s t d e f g h i j = eqb-true b 41 g
    go false false false true t d e f g h i j = eqb-true b 61 h
    go false false false false true d e f g h i j = eqb-true b 60 i
    go false false false false false true e f g h i j = (j, refl)
    go false false false false false false e f g h i j = tt

-- a digit is none of the others
pub digit_kind : (b : ℕ) → is_digit b ≡ true → kind_of b ≡ digit (b - 48)
unfolding kind_of
digit_kind b e =
    rw (ne_eqb b 32 (other 32 refl), ne_eqb b 40 (other 40 refl), ne_eqb b 41 (other 41 refl), ne_eqb b 61 (other 61 refl), ne_eqb b 60 (other 60 refl), e)
  where
    other : (n : ℕ) → is_digit n ≡ false → b ≡ n → ⊥
    other n f z = clash (ap is_digit (sym z) ∙ e) f

-- ---- digits

abbrev pub leads : List ℕ → Bool
leads [] = false
leads (b ∷ bs) = is_digit b

pub leading_on : (n b : ℕ) (bs : List ℕ) → is_digit b ≡ true → leading_from n (b ∷ bs) ≡ leading_from (10 * n + (b - 48)) bs
unfolding leading_from
leading_on n b bs e = rw (e, leading_from)

pub leading_off : (n b : ℕ) (bs : List ℕ) → is_digit b ≡ false → leading_from n (b ∷ bs) ≡ n
unfolding leading_from
leading_off n b bs e = rw (e, leading_from)

pub digits_on : (b : ℕ) (bs : List ℕ) → is_digit b ≡ true → digits_in (b ∷ bs) ≡ suc (digits_in bs)
unfolding digits_in
digits_on b bs e = rw (e, digits_in)

pub digits_off : (b : ℕ) (bs : List ℕ) → is_digit b ≡ false → digits_in (b ∷ bs) ≡ 0
unfolding digits_in
digits_off b bs e = rw (e, digits_in)

pub digits_within : (bs : List ℕ) → digits_in bs ≤ length bs
unfolding digits_in
digits_within [] = omega arith
digits_within (b ∷ bs) = go (is_digit b) (digits_within bs)
  where
    go : (x : Bool) → digits_in bs ≤ length bs → (elim x as (λ y. ℕ) [ true ↦ suc (digits_in bs) | false ↦ 0 ]) ≤ suc (length bs)
    go true h = omega arith
    go false h = omega arith

pub leads_some : (bs : List ℕ) → 0 < digits_in bs → leads bs ≡ true
unfolding digits_in
leads_some [] h = absurd (omega arith)
leads_some (b ∷ bs) h = elim (decided (is_digit b)) [ inl e ↦ e | inr e ↦ let z = digits_off b bs e in absurd (omega arith) ]

pub leads_none : (bs : List ℕ) → digits_in bs ≡ 0 → leads bs ≡ false
leads_none [] h = refl
leads_none (b ∷ bs) h = elim (decided (is_digit b)) [ inl e ↦ let z = digits_on b bs e in absurd (omega arith) | inr e ↦ e ]

-- ---- from within a number

digit_move : (r : Bool) (n d b : ℕ) → is_digit b ≡ true
    → (move (digits r n d) b ≡ some (digits r (10 * n + (b - 48)) d)) × (ended (digits r n d) b ≡ [])
unfolding move ended
digit_move r n d b e = (ap (onwards r n d b) (digit_kind b e), ap (ended_numeral r n) (digit_kind b e))

-- a byte that is no digit goes on as after the number
other_kind : (r : Bool) (n d b : ℕ) (k : Kind) → KindIs b k → is_digit b ≡ false
    → (onwards r n d b k ≡ on_kind r (after_numeral r d) b k) × (ended_numeral r n k ≡ numeral r n ∷ sign_token k)
other_kind r n d b is_space h e = (refl, refl)
other_kind r n d b (is_sign s) h e = (refl, refl)
other_kind r n d b (digit m) h e = clash h.0 e
other_kind r n d b letter h e = (refl, refl)

other_move : (r : Bool) (n d b : ℕ) → is_digit b ≡ false
    → (move (digits r n d) b ≡ move (between r (after_numeral r d)) b) × (ended (digits r n d) b ≡ numeral r n ∷ ended (between r (after_numeral r d)) b)
unfolding move ended
other_move r n d b e = other_kind r n d b (kind_of b) (kind_is b) e

stuck_alike : (i : ℕ) (s q : Scan) (b : ℕ) (bs : List ℕ) → move s b ≡ move q b → stuck_from i s (b ∷ bs) ≡ stuck_from i q (b ∷ bs)
unfolding stuck_from
stuck_alike i s q b bs e = ap (λ (m : Option Scan). elim m [ none ↦ some i | some x ↦ stuck_from (suc i) x bs ]) e

tokens_alike : (s q : Scan) (b : ℕ) (bs : List ℕ) (t : Token) → move s b ≡ move q b → ended s b ≡ t ∷ ended q b → tokens_from s (b ∷ bs) ≡ t ∷ tokens_from q (b ∷ bs)
unfolding tokens_from
tokens_alike s q b bs t e f = ap₂ (λ (m : Option Scan) (l : List Token). l ++ elim m [ none ↦ [] | some x ↦ tokens_from x bs ]) e f

end_same : (r : Bool) (n d : ℕ) → may_end (digits r n d) ≡ may_end (between r (after_numeral r d))
end_same true n d = refl
end_same false n d = refl

-- the number ends here
pub number_ends : (r : Bool) (n d : ℕ) (bs : List ℕ) → leads bs ≡ false → Jump (digits r n d) bs 0 (numeral r n ∷ []) (between r (after_numeral r d)) bs
number_ends r n d [] e = record {
  stuck = λ i. stuck_end i (digits r n d) ∙ ap (λ x. cond x none (some i)) (end_same r n d) ∙ sym (stuck_end i (between r (after_numeral r d)))
      ∙ ap (λ j. stuck_from j (between r (after_numeral r d)) []) (let z : i ≡ i + 0 = omega arith in z);
  tokens = tokens_end (digits r n d) ∙ ap (λ l. numeral r n ∷ l) (sym (tokens_end (between r (after_numeral r d))));
}
number_ends r n d (b ∷ bs) e =
    let (m, z) = other_move r n d b e in
    record {
      stuck = λ i. stuck_alike i (digits r n d) (between r (after_numeral r d)) b bs m
          ∙ ap (λ j. stuck_from j (between r (after_numeral r d)) (b ∷ bs)) (let z : i ≡ i + 0 = omega arith in z);
      tokens = tokens_alike (digits r n d) (between r (after_numeral r d)) b bs (numeral r n) m z;
    }

pub digits_jump : (bs : List ℕ) (r : Bool) (n d : ℕ)
    → Jump (digits r n d) bs (digits_in bs) (numeral r (leading_from n bs) ∷ []) (between r (after_numeral r d)) (drop (digits_in bs) bs)
unfolding digits_in leading_from
digits_jump [] r n d = number_ends r n d [] refl
digits_jump (b ∷ bs) r n d = go (is_digit b) refl (digits_jump bs r (10 * n + (b - 48)) d)
  where
    go : (x : Bool) → is_digit b ≡ x
        → Jump (digits r (10 * n + (b - 48)) d) bs (digits_in bs) (numeral r (leading_from (10 * n + (b - 48)) bs) ∷ []) (between r (after_numeral r d)) (drop (digits_in bs) bs)
        → Jump (digits r n d) (b ∷ bs) (digits_in (b ∷ bs)) (numeral r (leading_from n (b ∷ bs)) ∷ []) (between r (after_numeral r d)) (drop (digits_in (b ∷ bs)) (b ∷ bs))
    go true e x =
        let (m, z) = digit_move r n d b e in
        rw (digits_on b bs e, leading_on n b bs e)
        (jump_count (omega arith) (jump_then (jump_one (digits r n d) (digits r (10 * n + (b - 48)) d) b bs [] m z) x))
    go false e x = rw (digits_off b bs e, leading_off n b bs e) (number_ends r n d (b ∷ bs) e)

-- ---- from the first digit

numeral_jump : (s : Scan) (r : Bool) (d b : ℕ) (bs : List ℕ) → move s b ≡ some (digits r (b - 48) d) → ended s b ≡ [] → is_digit b ≡ true
    → Jump s (b ∷ bs) (digits_in (b ∷ bs)) (numeral r (leading_from 0 (b ∷ bs)) ∷ []) (between r (after_numeral r d)) (drop (digits_in (b ∷ bs)) (b ∷ bs))
numeral_jump s r d b bs m z e =
    let v : 10 * 0 + (b - 48) ≡ b - 48 = omega arith in
    rw (digits_on b bs e, leading_on 0 b bs e, v)
    (jump_count (omega arith) (jump_then (jump_one s (digits r (b - 48) d) b bs [] m z) (digits_jump bs r (b - 48) d)))

pub first_move : (d b : ℕ) → is_digit b ≡ true → (move (after_r d) b ≡ some (digits true (b - 48) d)) × (ended (after_r d) b ≡ [])
unfolding move ended
first_move d b e = (ap (first_digit d) (digit_kind b e), refl)

pub register_move : (p q : Place) → after_register p.want p.depth ≡ some q
    → (move (between false p) letter_r ≡ some (after_r p.depth)) × (ended (between false p) letter_r ≡ []) × (q ≡ after_numeral true p.depth)
unfolding move ended kind_of
register_move p q e = go p.want e
  where
    go : (w : Want) → after_register w p.depth ≡ some q
        → (on_kind false (at w p.depth) letter_r (kind_of letter_r) ≡ some (after_r p.depth)) × (sign_token (kind_of letter_r) ≡ []) × (q ≡ after_numeral true p.depth)
    go operand e = (refl, refl, cc)
    go comparison e = none_some e
    go constant_number e = none_some e
    go operator e = none_some e

pub register_jump : (p q : Place) (bs : List ℕ) → after_register p.want p.depth ≡ some q → leads bs ≡ true
    → Jump (between false p) (letter_r ∷ bs) (suc (digits_in bs)) (register (leading_from 0 bs) ∷ []) (between true q) (drop (digits_in bs) bs)
register_jump p q [] e h = clash h refl
register_jump p q (b ∷ bs) e h =
    let (m, z, y) = register_move p q e in
    let (m₂, z₂) = first_move p.depth b h in
    rw y
    (jump_count (omega arith)
    (jump_then (jump_one (between false p) (after_r p.depth) letter_r (b ∷ bs) [] m z) (numeral_jump (after_r p.depth) true p.depth b bs m₂ z₂ h)))

number_move : (t : Bool) (p q : Place) (b : ℕ) → is_digit b ≡ true → after_number p.want p.depth ≡ some q
    → (move (between t p) b ≡ some (digits false (b - 48) p.depth)) × (ended (between t p) b ≡ []) × (q ≡ after_numeral false p.depth)
unfolding move ended
number_move t p q b h e = (ap (on_kind t p b) (digit_kind b h) ∙ (go p.want e).0, ap sign_token (digit_kind b h), (go p.want e).1)
  where
    go : (w : Want) → after_number w p.depth ≡ some q
        → (on_digit w p.depth (b - 48) ≡ some (digits false (b - 48) p.depth)) × (q ≡ after_numeral false p.depth)
    go operand e = none_some e
    go comparison e = none_some e
    go constant_number e = (refl, cc)
    go operator e = none_some e

pub number_jump : (t : Bool) (p q : Place) (bs : List ℕ) → after_number p.want p.depth ≡ some q → leads bs ≡ true
    → Jump (between t p) bs (digits_in bs) (number (leading_from 0 bs) ∷ []) (between false q) (drop (digits_in bs) bs)
number_jump t p q [] e h = clash h refl
number_jump t p q (b ∷ bs) e h =
    let (m, z, y) = number_move t p q b h e in
    rw y (numeral_jump (between t p) false p.depth b bs m z h)

-- ---- digits, and then none

pub leading_value : (ds : List ℕ) (n : ℕ) (bs : List ℕ) → all is_digit ds ≡ true → leads bs ≡ false → leading_from n (ds ++ bs) ≡ value_from n ds
leading_value [] n [] e h = unfold leading_from in refl
leading_value [] n (b ∷ bs) e h = leading_off n b bs h
leading_value (d ∷ ds) n bs e h =
    let (p, q) = and_both (is_digit d) (all is_digit ds) e in leading_on n d (ds ++ bs) p ∙ leading_value ds (10 * n + (d - 48)) bs q h

pub digits_count : (ds bs : List ℕ) → all is_digit ds ≡ true → leads bs ≡ false → digits_in (ds ++ bs) ≡ length ds
digits_count [] [] e h = unfold digits_in in refl
digits_count [] (b ∷ bs) e h = digits_off b bs h
digits_count (d ∷ ds) bs e h =
    let (p, q) = and_both (is_digit d) (all is_digit ds) e in digits_on d (ds ++ bs) p ∙ ap suc (digits_count ds bs q h)
