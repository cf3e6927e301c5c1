-- From place to place of a text over one token (`specs/Places.antt`), by the jumps of crate grammar.
--     space_over, sign_over, close_reads, close_some      a space, a sign, a closing bracket
--     word_reads                     a word, where it begins with this byte
--     number_over, register_over, register_breaks, no_number     digits, and none
--     stuck_here, comparison_none, operand_none, operator_none, starts_none     no token begins with this byte
-- Assumes nothing.
use mathlib.Core.Path.{◌≡◌, refl, sym, subst, ap, ◌∙◌}
use mathlib.Core.Logic.{inl, inr, ◌≢◌}
use mathlib.Core.Bool.{Bool, true, false, cond}
use mathlib.Core.Option.{none, some}
use mathlib.Core.List.{List, [], ◌∷◌, ◌++◌, map}
use Prim.Native.Nat.{ℕ, zero, suc, ◌+◌, ◌-◌, ◌≤◌, ◌<◌}
use native.Mathlib.Numerals.{add-one}
use native.Mathlib.Omega.{arith}
use lib.ListN.{length, get_or, drop, length-drop}
use lib.Seq.{drop-cons, drop-drop}
use lib.Dec.{ltb}
use borrow.Author.Tests.{ltb-true, ltb-false, ne_eqb}
use Rattle.spec.proofs.BoolLaws.{clash, decided}
use Rattle.grammar.specs.Grammar as grammar
use Rattle.grammar.specs.Grammar.{Word, Sign, open_sign, close_sign, equal_sign, below_sign, word, register, number, sign, letters_of, byte_of, space, letter_r, is_digit}
use Rattle.grammar.specs.Place.{Place, at, operand, comparison, constant_number, operator, after_word, after_sign}
use Rattle.grammar.specs.Bytes.{leading_from, digits_in, agreeing}
use Rattle.grammar.specs.Scan.{kind_of, Scan, between, stuck_from, tokens_from, words_for, starting_with}
use Rattle.grammar.proofs.JumpLaws.{Jump, space_jump, sign_jump, word_jump, first_of, letters_split, letter_kind, stuck_stop}
use Rattle.grammar.proofs.NumeralLaws.{leads, leads_some, leads_none, digits_within, register_jump, number_jump}
use Rattle.grammar.proofs.StopLaws.{NoToken, no_move, touching_none, word_stuck, register_stuck, agreeing_most, agreeing_all, agreeing_within}
use Rattle.text.specs.Tokens.{found, broken_at, Lexed, tokens_in, capped, capped_token, spelled, word_at}
use Rattle.text.specs.Places.{want_of, scan_at, scan_after, Over, Reads, close_at}
use Rattle.text.specs.declared.token.Token.{Token}
use Rattle.text.specs.declared.token.Token.TheVariants as token
use Rattle.text.specs.declared.scan.Want.{Want}
use Rattle.text.specs.declared.scan.Want.TheVariants as want

no_close : (s : Sign) → after_sign operator 0 s ≡ none
no_close open_sign = refl
no_close close_sign = refl
no_close equal_sign = refl
no_close below_sign = refl

pub close_some : (d i : ℕ) → d ≢ 0 → found token.Close (i + 1) ≡ close_at d i
close_some zero i h = absurd (h refl)
close_some (suc d) i h = refl

word_some : (w : Word) → 0 < length (letters_of w)
word_some w = let n = ap length (letters_split w) in omega arith

-- ---- a jump from a place of the text

module _ (text : List ℕ) (i : ℕ) where
  over_jump : (k : ℕ) (s q : Scan) (x : Token) (exact : List grammar.Token) → 0 < k → i + k ≤ length text → map capped_token exact ≡ tokens_in x
      → Jump s (drop i text) k exact q (drop k (drop i text)) → Over text i s x (i + k) q
  over_jump k s q x exact p l e j =
      let z = drop-drop k i text in
      record {
        stuck = j.stuck i ∙ ap (stuck_from (i + k) q) z;
        exact = exact;
        capped = e;
        tokens = j.tokens ∙ ap (λ bs. exact ++ tokens_from q bs) z;
        further = omega arith;
        inside = l;
      }

  module _ (h : i < length text) where
    here : drop i text ≡ get_or text i 0 ∷ drop (i + 1) text
    here = drop-cons text i 0 h ∙ ap (λ n. get_or text i 0 ∷ drop n text) (sym (add-one i))

    -- a jump over one byte
    over_byte : (s q : Scan) (x : Token) (exact : List grammar.Token) (b : ℕ) → get_or text i 0 ≡ b → map capped_token exact ≡ tokens_in x
        → Jump s (b ∷ drop (i + 1) text) 1 exact q (drop (i + 1) text) → Over text i s x (i + 1) q
    over_byte s q x exact b e f j =
        over_jump 1 s q x exact (omega arith) (omega arith) f
        (subst (λ bs. Jump s bs 1 exact q (drop 1 bs)) (sym (here ∙ ap (λ c. c ∷ drop (i + 1) text) e)) j)

    pub space_over : (t : Bool) (p : Place) → get_or text i 0 ≡ space → Over text i (between t p) token.Space (i + 1) (between false p)
    space_over t p e = over_byte (between t p) (between false p) token.Space [] space e refl (space_jump t p (drop (i + 1) text))

    pub sign_over : (t : Bool) (p q : Place) (s : Sign) (x : Token) → get_or text i 0 ≡ byte_of s → sign s ∷ [] ≡ tokens_in x → after_sign p.want p.depth s ≡ some q
        → Over text i (between t p) x (i + 1) (between false q)
    sign_over t p q s x e f a = over_byte (between t p) (between false q) x (sign s ∷ []) (byte_of s) e f (sign_jump t p q s (drop (i + 1) text) a)

    pub stuck_here : (t : Bool) (p : Place) → NoToken t p (get_or text i 0) → stuck_from i (between t p) (drop i text) ≡ some i
    stuck_here t p n = ap (stuck_from i (between t p)) here ∙ stuck_stop i (between t p) (get_or text i 0) (drop (i + 1) text) (no_move t p (get_or text i 0) n)

    pub close_reads : (t : Bool) (d : ℕ) → get_or text i 0 ≡ byte_of close_sign → Reads text i want.Operator d t (close_at d i)
    unfolding starting_with
    close_reads t zero e =
        stuck_here t (at operator 0)
        (record {
          no_space = λ z. (let y = e in omega arith);
          no_sign = λ s z. no_close s;
          no_number = λ z. refl;
          no_register = λ y z. refl;
          no_word = λ z. ap (λ b. starting_with b (words_for operator)) e;
        })
    close_reads t (suc d) e =
        let z : d ≡ suc d - 1 = omega arith in
        subst (λ n. Over text i (between t (at operator (suc d))) token.Close (i + 1) (between false (at operator n))) z
        (sign_over t (at operator (suc d)) (at operator d) close_sign token.Close e refl refl)

    -- ---- words

    module _ (w : Word) (want : Want) (d : ℕ) (x : Token) (q : Place) (e : get_or text i 0 ≡ first_of w) (f : word w ∷ [] ≡ tokens_in x)
        (a : after_word (want_of want) d w ≡ some q) (s : between true q ≡ scan_after want d x) where
      abbrev n : ℕ
      n = agreeing (letters_of w) (drop i text)

      stands : length (letters_of w) ≤ n → Over text i (scan_at want d false) x (i + n) (scan_after want d x)
      stands l =
          let m = agreeing_most (letters_of w) (drop i text) in
          let k : n ≡ length (letters_of w) = omega arith in
          let y = agreeing_within (letters_of w) (drop i text) in
          let z = length-drop i text in
          let some : 0 < length (letters_of w) = word_some w in
          let All-there = agreeing_all (letters_of w) (drop i text) k in
          over_jump n (scan_at want d false) (scan_after want d x) x (word w ∷ []) (omega arith) (omega arith) f
          (rw (k, ← s)
          (subst (λ bs. Jump (scan_at want d false) bs (length (letters_of w)) (word w ∷ []) (between true q) (drop (length (letters_of w)) (drop i text))) (sym All-there)
          (word_jump (at (want_of want) d) q w (drop (length (letters_of w)) (drop i text)) a)))

      breaks : n < length (letters_of w) → stuck_from i (scan_at want d false) (drop i text) ≡ some (i + n)
      breaks l =
          ap (stuck_from i (scan_at want d false)) here
          ∙ word_stuck (at (want_of want) d) q w i (get_or text i 0) (drop (i + 1) text) a e (subst (λ bs. agreeing (letters_of w) bs < length (letters_of w)) here l)
          ∙ ap (λ bs. some (i + agreeing (letters_of w) bs)) (sym here)

      spelled_reads : Reads text i want d false (spelled x i n (length (letters_of w)))
      spelled_reads =
          elim (decided (ltb n (length (letters_of w)))) [
            | inl l ↦ subst (λ b. Reads text i want d false (cond b (broken_at (i + n)) (found x (i + n)))) (sym l) (breaks (ltb-true n (length (letters_of w)) l))
            | inr l ↦ subst (λ b. Reads text i want d false (cond b (broken_at (i + n)) (found x (i + n)))) (sym l) (stands (ltb-false n (length (letters_of w)) l))
          ]

      touches : stuck_from i (scan_at want d true) (drop i text) ≡ some i
      touches =
          ap (stuck_from i (scan_at want d true)) here
          ∙ stuck_stop i (scan_at want d true) (get_or text i 0) (drop (i + 1) text)
          (touching_none (at (want_of want) d) (get_or text i 0) (ap kind_of e ∙ letter_kind w))

      pub word_reads : (t : Bool) (r : Lexed) → r ≡ word_at x t (letters_of w) i text → Reads text i want d t r
      word_reads true r z = subst (Reads text i want d true) (sym z) touches
      word_reads false r z = subst (Reads text i want d false) (sym z) spelled_reads

    -- ---- numbers

    module _ (t : Bool) (d value next : ℕ) (v : value ≡ capped (leading_from 0 (drop i text))) (e : next ≡ i + digits_in (drop i text)) where
      pub number_over : next ≢ i → Over text i (between t (at constant_number d)) (token.Number value) next (between false (at operator d))
      number_over f =
          let z = digits_within (drop i text) in
          let y = length-drop i text in
          let some : 0 < digits_in (drop i text) = omega arith in
          subst (λ n. Over text i (between t (at constant_number d)) (token.Number value) n (between false (at operator d))) (sym e)
          (over_jump (digits_in (drop i text)) (between t (at constant_number d)) (between false (at operator d)) (token.Number value)
          (number (leading_from 0 (drop i text)) ∷ []) some (omega arith) (ap (λ n. number n ∷ []) (sym v))
          (number_jump t (at constant_number d) (at operator d) (drop i text) refl (leads_some (drop i text) some)))

      pub no_number : get_or text i 0 ≢ space → next ≡ i → stuck_from i (between t (at constant_number d)) (drop i text) ≡ some i
      unfolding starting_with
      no_number s f =
          let l : is_digit (get_or text i 0) ≡ false = ap leads (sym here) ∙ leads_none (drop i text) (let z = e in omega arith) in
          stuck_here t (at constant_number d)
          (record { no_space = s; no_sign = λ s z. refl; no_number = λ z. clash z l; no_register = λ y z. refl; no_word = λ z. refl })

    module _ (d value next : ℕ) (b : get_or text i 0 ≡ letter_r) (v : value ≡ capped (leading_from 0 (drop (i + 1) text)))
        (e : next ≡ i + 1 + digits_in (drop (i + 1) text)) where
      bytes : drop i text ≡ letter_r ∷ drop (i + 1) text
      bytes = here ∙ ap (λ c. c ∷ drop (i + 1) text) b

      pub register_over : next ≢ i + 1 → Over text i (between false (at operand d)) (token.Register value) next (between true (at comparison d))
      register_over f =
          let z = digits_within (drop (i + 1) text) in
          let y = length-drop (i + 1) text in
          let some : 0 < digits_in (drop (i + 1) text) = omega arith in
          let k : next ≡ i + suc (digits_in (drop (i + 1) text)) = omega arith in
          subst (λ n. Over text i (between false (at operand d)) (token.Register value) n (between true (at comparison d))) (sym k)
          (over_jump (suc (digits_in (drop (i + 1) text))) (between false (at operand d)) (between true (at comparison d)) (token.Register value)
          (register (leading_from 0 (drop (i + 1) text)) ∷ []) (omega arith) (omega arith) (ap (λ n. register n ∷ []) (sym v))
          (subst (λ bs. Jump (between false (at operand d)) bs (suc (digits_in (drop (i + 1) text))) (register (leading_from 0 (drop (i + 1) text)) ∷ [])
          (between true (at comparison d)) (drop (suc (digits_in (drop (i + 1) text))) bs)) (sym bytes)
          (register_jump (at operand d) (at comparison d) (drop (i + 1) text) refl (leads_some (drop (i + 1) text) some))))

      pub register_breaks : next ≡ i + 1 → stuck_from i (between false (at operand d)) (drop i text) ≡ some (i + 1)
      register_breaks f =
          ap (stuck_from i (between false (at operand d))) bytes
          ∙ register_stuck (at operand d) (at comparison d) i (drop (i + 1) text) refl (leads_none (drop (i + 1) text) (omega arith))
          ∙ ap some (sym (add-one i))

    pub register_touches : (d : ℕ) → get_or text i 0 ≡ letter_r → stuck_from i (between true (at operand d)) (drop i text) ≡ some i
    unfolding kind_of
    register_touches d b =
        ap (stuck_from i (between true (at operand d))) here
        ∙ stuck_stop i (between true (at operand d)) (get_or text i 0) (drop (i + 1) text) (touching_none (at operand d) (get_or text i 0) (ap kind_of b))

-- ---- no token begins with this byte

other : {X : Type 0} {b n : ℕ} → b ≢ n → b ≡ n → X
other f e = absurd (f e)

pub comparison_none : (t : Bool) (d b : ℕ) → b ≢ space → b ≢ byte_of equal_sign → b ≢ byte_of below_sign → NoToken t (at comparison d) b
unfolding starting_with
comparison_none t d b s e l = record { no_space = s; no_sign = signs; no_number = λ z. refl; no_register = λ y z. refl; no_word = λ z. refl }
  where
    signs : (x : Sign) → b ≡ byte_of x → after_sign comparison d x ≡ none
    signs open_sign z = refl
    signs close_sign z = refl
    signs equal_sign z = other e z
    signs below_sign z = other l z

pub operand_none : (t : Bool) (d b : ℕ) → b ≢ space → b ≢ byte_of open_sign → b ≢ letter_r → starting_with b (words_for operand) ≡ none → NoToken t (at operand d) b
operand_none t d b s o r w = record { no_space = s; no_sign = signs; no_number = λ z. refl; no_register = λ y z. other r z; no_word = λ z. w }
  where
    signs : (x : Sign) → b ≡ byte_of x → after_sign operand d x ≡ none
    signs open_sign z = other o z
    signs close_sign z = refl
    signs equal_sign z = refl
    signs below_sign z = refl

pub operator_none : (t : Bool) (d b : ℕ) → b ≢ space → b ≢ byte_of close_sign → starting_with b (words_for operator) ≡ none → NoToken t (at operator d) b
operator_none t d b s c w = record { no_space = s; no_sign = signs; no_number = λ z. refl; no_register = λ y z. refl; no_word = λ z. w }
  where
    signs : (x : Sign) → b ≡ byte_of x → after_sign operator d x ≡ none
    signs open_sign z = refl
    signs close_sign z = other c z
    signs equal_sign z = refl
    signs below_sign z = refl

-- no word begins with this byte
abbrev OtherLetters : ℕ → List Word → Type 0
OtherLetters b [] = Unit {0}
OtherLetters b (w ∷ ws) = (b ≢ first_of w) × OtherLetters b ws

pub starts_none : (ws : List Word) (b : ℕ) → OtherLetters b ws → starting_with b ws ≡ none
unfolding starting_with
starts_none [] b h = refl
starts_none (w ∷ ws) b h = rw (ne_eqb b (first_of w) h.0, starting_with) (starts_none ws b h.1)
