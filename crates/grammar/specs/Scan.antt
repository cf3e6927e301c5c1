-- Question 16: a text's bytes in turn, with constant state: what is wanted, the part of a word or number read so far, a count of open
-- brackets. `proofs/ScanLaws.antt` shows that just the texts of the grammar pass, `proofs/StuckLaws.antt` that a 16 stands where no text
-- goes on.
use Rattle.std.specs.Prelude.{Bool, true, false, cond, List, [], ◌∷◌, ◌++◌, ℕ, suc, ◌+◌, ◌*◌, get_or, drop, eqb}
use Rattle.std.proofs.Math.Option.{Option, none, some}
use Rattle.spec.specs.Questions.{Checked, no_at}
use Rattle.grammar.specs.Typed.{not, wprev, prev, once, sofar, since_word, and_word, or_word, implies_word}
use Rattle.grammar.specs.Grammar.{Word, constant_word, prefix_word, operator_word, Sign, open_sign, close_sign, equal_sign, below_sign, Token, word, register, number, sign, letters_of, byte_of, space, letter_r, is_digit, digit_value}
use Rattle.grammar.specs.Place.{Want, operand, comparison, constant_number, operator, Place, at, after_word, after_sign, may_end_at}

-- a byte by its kind: anything but a space, a sign or a digit is taken for a letter, and then compared with the words
pub data Kind : Type 0 where
  is_space : Kind
  is_sign : Sign → Kind
  digit : ℕ → Kind
  letter : Kind

unfoldable pub kind_of : ℕ → Kind
kind_of b =
    cond (eqb b space) is_space
    (cond (eqb b (byte_of open_sign)) (is_sign open_sign)
    (cond (eqb b (byte_of close_sign)) (is_sign close_sign)
    (cond (eqb b (byte_of equal_sign)) (is_sign equal_sign)
    (cond (eqb b (byte_of below_sign)) (is_sign below_sign)
    (cond (is_digit b) (digit (digit_value b)) letter)))))

pub data Scan : Type 0 where
  -- between tokens; touching: a word ends just before
  between : (touching : Bool) → Place → Scan
  -- within a word: the letters still to come, at least one, and the place after it
  within : (next : ℕ) (more : List ℕ) → Word → Place → Scan
  -- after r, before its number
  after_r : (depth : ℕ) → Scan
  -- within a number, a register's or an atom's, that has this value so far
  digits : (of_register : Bool) (value depth : ℕ) → Scan

-- ---- one byte

-- the words that may stand here: their first letters differ
abbrev pub words_for : Want → List Word
words_for operand =
    constant_word true ∷ constant_word false ∷ prefix_word not ∷ prefix_word wprev ∷ prefix_word prev ∷ prefix_word once ∷ prefix_word sofar ∷ []
words_for comparison = []
words_for constant_number = []
words_for operator = operator_word since_word ∷ operator_word and_word ∷ operator_word or_word ∷ operator_word implies_word ∷ []

unfoldable pub starting_with : ℕ → List Word → Option Word
starting_with b [] = none
starting_with b (w ∷ ws) = elim (eqb b (get_or (letters_of w) 0 0)) [ true ↦ some w | false ↦ starting_with b ws ]

-- after the first letter of a word
abbrev pub within₁ : Word → Option Place → Option Scan
within₁ w none = none
within₁ w (some q) = some (within (get_or (letters_of w) 1 0) (drop 2 (letters_of w)) w q)

abbrev pub begun : Place → Option Word → Option Scan
begun p none = none
begun p (some w) = within₁ w (after_word p.want p.depth w)

abbrev pub between_at : (touching : Bool) → Option Place → Option Scan
between_at touching none = none
between_at touching (some p) = some (between touching p)

abbrev pub or_register : Want → (depth : ℕ) (is_r : Bool) → Option Scan → Option Scan
or_register operand d true other = some (after_r d)
or_register operand d false other = other
or_register comparison d is_r other = other
or_register constant_number d is_r other = other
or_register operator d is_r other = other

-- a letter may not touch a word
abbrev pub on_letter : (touching : Bool) → Place → ℕ → Option Scan
on_letter true p b = none
on_letter false p b = or_register p.want p.depth (eqb b letter_r) (begun p (starting_with b (words_for p.want)))

abbrev pub on_digit : Want → (depth digit : ℕ) → Option Scan
on_digit operand d n = none
on_digit comparison d n = none
on_digit constant_number d n = some (digits false n d)
on_digit operator d n = none

abbrev pub on_kind : (touching : Bool) → Place → ℕ → Kind → Option Scan
on_kind touching p b is_space = some (between false p)
on_kind touching p b (is_sign s) = between_at false (after_sign p.want p.depth s)
on_kind touching p b (digit n) = on_digit p.want p.depth n
on_kind touching p b letter = on_letter touching p b

-- the digits end
abbrev pub after_numeral : (of_register : Bool) → ℕ → Place
after_numeral true d = at comparison d
after_numeral false d = at operator d

abbrev pub onwards : (of_register : Bool) (value depth byte : ℕ) → Kind → Option Scan
onwards r n d b (digit k) = some (digits r (10 * n + k) d)
onwards r n d b is_space = on_kind r (after_numeral r d) b is_space
onwards r n d b (is_sign s) = on_kind r (after_numeral r d) b (is_sign s)
onwards r n d b letter = on_kind r (after_numeral r d) b letter

abbrev pub first_digit : ℕ → Kind → Option Scan
first_digit d (digit k) = some (digits true k d)
first_digit d is_space = none
first_digit d (is_sign s) = none
first_digit d letter = none

-- none where no text of the grammar goes on so
unfoldable pub move : Scan → ℕ → Option Scan
move (between touching p) b = on_kind touching p b (kind_of b)
move (within x [] w q) b = cond (eqb b x) (some (between true q)) none
move (within x (y ∷ more) w q) b = cond (eqb b x) (some (within y more w q)) none
move (after_r d) b = first_digit d (kind_of b)
move (digits r n d) b = onwards r n d b (kind_of b)

-- ---- all bytes

-- the text may end here
abbrev pub may_end : Scan → Bool
may_end (between touching p) = may_end_at p.want p.depth
may_end (within x more w q) = false
may_end (after_r d) = false
may_end (digits true n d) = false
may_end (digits false n d) = eqb d 0

abbrev pub start : Scan
start = between false (at operand 0)

-- 16: the first byte without a move, or the length where the text ends too soon
unfoldable pub stuck_from : ℕ → Scan → List ℕ → Option ℕ
stuck_from i s [] = cond (may_end s) none (some i)
stuck_from i s (b ∷ bs) = elim (move s b) [ none ↦ some i | some q ↦ stuck_from (suc i) q bs ]

unfoldable pub question16 : List ℕ → Checked
question16 bs = no_at 16 (stuck_from 0 start bs)

-- ---- the tokens of a text

abbrev pub numeral : (of_register : Bool) → ℕ → Token
numeral true n = register n
numeral false n = number n

abbrev pub sign_token : Kind → List Token
sign_token is_space = []
sign_token (is_sign s) = sign s ∷ []
sign_token (digit k) = []
sign_token letter = []

abbrev pub ended_numeral : (of_register : Bool) → ℕ → Kind → List Token
ended_numeral r n (digit k) = []
ended_numeral r n is_space = numeral r n ∷ []
ended_numeral r n (is_sign s) = numeral r n ∷ sign s ∷ []
ended_numeral r n letter = numeral r n ∷ []

-- the tokens that end with this byte, or just before it
unfoldable pub ended : Scan → ℕ → List Token
ended (between touching p) b = sign_token (kind_of b)
ended (within x [] w q) b = word w ∷ []
ended (within x (y ∷ more) w q) b = []
ended (after_r d) b = []
ended (digits r n d) b = ended_numeral r n (kind_of b)

-- and with the end of the text
abbrev pub pending : Scan → List Token
pending (between touching p) = []
pending (within x more w q) = []
pending (after_r d) = []
pending (digits r n d) = numeral r n ∷ []

unfoldable pub tokens_from : Scan → List ℕ → List Token
tokens_from s [] = pending s
tokens_from s (b ∷ bs) = ended s b ++ elim (move s b) [ none ↦ [] | some q ↦ tokens_from q bs ]

unfoldable pub tokens_of : List ℕ → List Token
tokens_of bs = tokens_from start bs
