-- The scan (`specs/Scan.antt`) a token at a time.
--     stuck_step, stuck_stop, stuck_end, tokens_step, tokens_end      one byte
--     Jump, jump_one, jump_then, jump_count     from a state to another over bytes that write these tokens; it composes
--     space_jump, sign_jump, word_jump          a space, a sign, a word; within-jump: the rest of a word
--     by_word, first_of, second_of, others_of, letters_split, letter_kind, begin_move     words and their letters
-- Not here: numbers (`proofs/NumeralLaws.antt`), and where the scan stops (`proofs/StopLaws.antt`). Assumes nothing.
use mathlib.Core.Path.{◌≡◌, refl, sym, subst, ap, ◌∙◌}
use mathlib.Core.Bool.{Bool, true, false, cond}
use mathlib.Core.Option.{none, some}
use mathlib.Core.List.{List, [], ◌∷◌, ◌++◌, append_assoc}
use Prim.Native.Nat.{ℕ, suc, ◌+◌}
use native.Mathlib.Omega.{arith}
use lib.ListN.{length, get_or, drop}
use borrow.Author.Tests.{eq-eqb}
use Rattle.grammar.specs.Typed.{not, wprev, prev, once, sofar, since_word, and_word, or_word, implies_word}
use Rattle.grammar.specs.Grammar.{Word, constant_word, prefix_word, operator_word, Sign, open_sign, close_sign, equal_sign, below_sign, Token, word, sign, letters_of, byte_of, space}
use Rattle.grammar.specs.Place.{Want, operand, comparison, constant_number, operator, Place, at, after_word, after_sign}
use Rattle.grammar.specs.Scan.{is_sign, letter, kind_of, Scan, between, within, starting_with, within₁, between_at, on_letter, on_kind, move, may_end, stuck_from, sign_token, ended, pending, tokens_from}

pub none_some : {A X : Type 0} {a : A} → none ≡ some a → X
none_some e = let z : ◌≡◌ {A = ℕ} 0 1 = cc in absurd (omega arith)

-- ---- one byte

pub stuck_step : (i : ℕ) (s q : Scan) (b : ℕ) (bs : List ℕ) → move s b ≡ some q → stuck_from i s (b ∷ bs) ≡ stuck_from (suc i) q bs
unfolding stuck_from
stuck_step i s q b bs e = rw (e, stuck_from)

pub stuck_stop : (i : ℕ) (s : Scan) (b : ℕ) (bs : List ℕ) → move s b ≡ none → stuck_from i s (b ∷ bs) ≡ some i
unfolding stuck_from
stuck_stop i s b bs e = rw (e, stuck_from)

pub stuck_end : (i : ℕ) (s : Scan) → stuck_from i s [] ≡ cond (may_end s) none (some i)
unfolding stuck_from
stuck_end i s = refl

pub tokens_step : (s q : Scan) (b : ℕ) (bs : List ℕ) → move s b ≡ some q → tokens_from s (b ∷ bs) ≡ ended s b ++ tokens_from q bs
unfolding tokens_from
tokens_step s q b bs e = rw (e, tokens_from)

pub tokens_end : (s : Scan) → tokens_from s [] ≡ pending s
unfolding tokens_from
tokens_end s = refl

-- ---- jumps

pub record Jump (s : Scan) (bs : List ℕ) (k : ℕ) (ts : List Token) (q : Scan) (rest : List ℕ) : Type 0 where
  pub stuck : (i : ℕ) → stuck_from i s bs ≡ stuck_from (i + k) q rest
  pub tokens : tokens_from s bs ≡ ts ++ tokens_from q rest

pub jump_one : (s q : Scan) (b : ℕ) (bs : List ℕ) (ts : List Token) → move s b ≡ some q → ended s b ≡ ts → Jump s (b ∷ bs) 1 ts q bs
jump_one s q b bs ts m e = record {
  stuck = λ i. stuck_step i s q b bs m ∙ ap (λ n. stuck_from n q bs) (let z : suc i ≡ i + 1 = omega arith in z);
  tokens = tokens_step s q b bs m ∙ ap (λ l. l ++ tokens_from q bs) e;
}

pub jump_then : {s q r : Scan} {bs cs ds : List ℕ} {k m : ℕ} {ts us : List Token} → Jump s bs k ts q cs → Jump q cs m us r ds
    → Jump s bs (k + m) (ts ++ us) r ds
jump_then {r = r} {ds = ds} {k = k} {m = m} {ts = ts} {us = us} x y = record {
  stuck = λ i. x.stuck i ∙ y.stuck (i + k) ∙ ap (λ n. stuck_from n r ds) (let z : i + k + m ≡ i + (k + m) = omega arith in z);
  tokens = x.tokens ∙ ap (λ l. ts ++ l) y.tokens ∙ sym (append_assoc ts us (tokens_from r ds));
}

pub jump_count : {s q : Scan} {bs cs : List ℕ} {k m : ℕ} {ts : List Token} → k ≡ m → Jump s bs k ts q cs → Jump s bs m ts q cs
jump_count {s} {q} {bs} {cs} {k} {m} {ts} e x = subst (λ n. Jump s bs n ts q cs) e x

-- ---- spaces and signs

pub space_jump : (t : Bool) (p : Place) (bs : List ℕ) → Jump (between t p) (space ∷ bs) 1 [] (between false p) bs
unfolding move ended kind_of
space_jump t p bs = jump_one (between t p) (between false p) space bs [] refl refl

pub sign_kind : (s : Sign) → kind_of (byte_of s) ≡ is_sign s
unfolding kind_of
sign_kind open_sign = refl
sign_kind close_sign = refl
sign_kind equal_sign = refl
sign_kind below_sign = refl

pub sign_jump : (t : Bool) (p q : Place) (s : Sign) (bs : List ℕ) → after_sign p.want p.depth s ≡ some q
    → Jump (between t p) (byte_of s ∷ bs) 1 (sign s ∷ []) (between false q) bs
unfolding move ended
sign_jump t p q s bs e =
    jump_one (between t p) (between false q) (byte_of s) bs (sign s ∷ []) (ap (on_kind t p (byte_of s)) (sign_kind s) ∙ ap (between_at false) e)
    (ap sign_token (sign_kind s))

-- ---- words

-- a property of each of the eleven
pub by_word {ℓ} : (P : Word → Type ℓ) → P (constant_word true) → P (constant_word false) → P (prefix_word not) → P (prefix_word wprev) → P (prefix_word prev)
    → P (prefix_word once) → P (prefix_word sofar) → P (operator_word since_word) → P (operator_word and_word) → P (operator_word or_word)
    → P (operator_word implies_word) → (w : Word) → P w
by_word P a b c d e f g h i j k (constant_word true) = a
by_word P a b c d e f g h i j k (constant_word false) = b
by_word P a b c d e f g h i j k (prefix_word not) = c
by_word P a b c d e f g h i j k (prefix_word wprev) = d
by_word P a b c d e f g h i j k (prefix_word prev) = e
by_word P a b c d e f g h i j k (prefix_word once) = f
by_word P a b c d e f g h i j k (prefix_word sofar) = g
by_word P a b c d e f g h i j k (operator_word since_word) = h
by_word P a b c d e f g h i j k (operator_word and_word) = i
by_word P a b c d e f g h i j k (operator_word or_word) = j
by_word P a b c d e f g h i j k (operator_word implies_word) = k

abbrev pub first_of : Word → ℕ
first_of w = get_or (letters_of w) 0 0

abbrev pub second_of : Word → ℕ
second_of w = get_or (letters_of w) 1 0

abbrev pub others_of : Word → List ℕ
others_of w = drop 2 (letters_of w)

pub letters_split : (w : Word) → letters_of w ≡ first_of w ∷ second_of w ∷ others_of w
letters_split =
    by_word (λ w. letters_of w ≡ first_of w ∷ second_of w ∷ others_of w) refl refl refl refl refl refl refl refl refl refl refl

pub letter_kind : (w : Word) → kind_of (first_of w) ≡ letter
unfolding kind_of
letter_kind = by_word (λ w. kind_of (first_of w) ≡ letter) refl refl refl refl refl refl refl refl refl refl refl

begin_letter : (want : Want) (d : ℕ) (w : Word) (q : Place) → after_word want d w ≡ some q
    → on_letter false (at want d) (first_of w) ≡ within₁ w (after_word want d w)
unfolding starting_with
begin_letter operand d (constant_word true) q e = refl
begin_letter operand d (constant_word false) q e = refl
begin_letter operand d (prefix_word not) q e = refl
begin_letter operand d (prefix_word wprev) q e = refl
begin_letter operand d (prefix_word prev) q e = refl
begin_letter operand d (prefix_word once) q e = refl
begin_letter operand d (prefix_word sofar) q e = refl
begin_letter operand d (operator_word o) q e = none_some e
begin_letter comparison d w q e = none_some e
begin_letter constant_number d w q e = none_some e
begin_letter operator d (constant_word c) q e = none_some e
begin_letter operator d (prefix_word p) q e = none_some e
begin_letter operator d (operator_word since_word) q e = refl
begin_letter operator d (operator_word and_word) q e = refl
begin_letter operator d (operator_word or_word) q e = refl
begin_letter operator d (operator_word implies_word) q e = refl

pub begin_move : (p : Place) (w : Word) (q : Place) → after_word p.want p.depth w ≡ some q
    → move (between false p) (first_of w) ≡ some (within (second_of w) (others_of w) w q)
unfolding move
begin_move p w q e = ap (on_kind false p (first_of w)) (letter_kind w) ∙ begin_letter p.want p.depth w q e ∙ ap (within₁ w) e

begin_ended : (p : Place) (w : Word) → ended (between false p) (first_of w) ≡ []
unfolding ended
begin_ended p w = ap sign_token (letter_kind w)

last_move : (x : ℕ) (w : Word) (q : Place) → move (within x [] w q) x ≡ some (between true q)
unfolding move
last_move x w q = rw (eq-eqb x x refl)

next_move : (x y : ℕ) (more : List ℕ) (w : Word) (q : Place) → move (within x (y ∷ more) w q) x ≡ some (within y more w q)
unfolding move
next_move x y more w q = rw (eq-eqb x x refl)

last_ended : (x b : ℕ) (w : Word) (q : Place) → ended (within x [] w q) b ≡ word w ∷ []
unfolding ended
last_ended x b w q = refl

next_ended : (x y : ℕ) (more : List ℕ) (b : ℕ) (w : Word) (q : Place) → ended (within x (y ∷ more) w q) b ≡ []
unfolding ended
next_ended x y more b w q = refl

pub within_jump : (more : List ℕ) (x : ℕ) (w : Word) (q : Place) (bs : List ℕ)
    → Jump (within x more w q) (x ∷ more ++ bs) (length (x ∷ more)) (word w ∷ []) (between true q) bs
within_jump [] x w q bs = jump_one (within x [] w q) (between true q) x bs (word w ∷ []) (last_move x w q) (last_ended x x w q)
within_jump (y ∷ more) x w q bs =
    jump_count (omega arith)
    (jump_then (jump_one (within x (y ∷ more) w q) (within y more w q) x (y ∷ more ++ bs) [] (next_move x y more w q) (next_ended x y more x w q))
    (within_jump more y w q bs))

pub word_jump : (p q : Place) (w : Word) (bs : List ℕ) → after_word p.want p.depth w ≡ some q
    → Jump (between false p) (letters_of w ++ bs) (length (letters_of w)) (word w ∷ []) (between true q) bs
word_jump p q w bs e =
    subst (λ ls. Jump (between false p) (ls ++ bs) (length ls) (word w ∷ []) (between true q) bs) (sym (letters_split w))
    (jump_count (omega arith)
    (jump_then (jump_one (between false p) (within (second_of w) (others_of w) w q) (first_of w) (second_of w ∷ others_of w ++ bs) [] (begin_move p w q e) (begin_ended p w))
    (within_jump (others_of w) (second_of w) w q bs)))
