-- The grammar of rules typed as text (document 02, 2026-04), as two relations: tokens that spell a formula, bytes that write tokens.
use Rattle.std.specs.Prelude.{◌≡◌, Bool, true, false, ◌&&◌, List, [], ◌∷◌, ◌++◌, ℕ, suc, ◌+◌, ◌-◌, ◌*◌, ◌<◌, ◌⊎◌, length, take, leb}
use Prim.Native.Char.{code}
use Rattle.spec.specs.Ascii.{ascii}
use Rattle.spec.specs.Questions.{all}
use Rattle.grammar.specs.Typed.{Prefix, not, wprev, prev, once, sofar, Operator, since_word, and_word, or_word, implies_word, Comparison, equal_to, less_than, TextFormula, constant, atom, prefixed, joined}

-- ---- tokens: words, numbers and signs

-- the constants, the prefix words, the words between two formulas
pub data Word : Type 0 where
  constant_word : Bool → Word
  prefix_word : Prefix → Word
  operator_word : Operator → Word

pub data Sign : Type 0 where
  open_sign close_sign equal_sign below_sign : Sign

pub data Token : Type 0 where
  word : Word → Token
  -- r and its number, which count as a word
  register : ℕ → Token
  number : ℕ → Token
  sign : Sign → Token

-- ---- tokens that spell a formula

-- how tight a word binds: implies 0, or 1, and 2, since 3; prefix words bind tightest, 4
abbrev pub strength : Operator → ℕ
strength since_word = 3
strength and_word = 2
strength or_word = 1
strength implies_word = 0

-- the levels at which the two operands are read: since, and and or group to the left, implies to the right
abbrev pub left_level : Operator → ℕ
left_level since_word = 3
left_level and_word = 2
left_level or_word = 1
left_level implies_word = 1

abbrev pub right_level : Operator → ℕ
right_level since_word = 4
right_level and_word = 3
right_level or_word = 2
right_level implies_word = 0

-- = and <
pub data Compares : Sign → Comparison → Type 0 where
  by_equal : Compares equal_sign equal_to
  by_below : Compares below_sign less_than

-- `Spells l ts φ`: the tokens spell φ, and all words of strength below l stand in brackets
pub data Spells : ℕ → List Token → TextFormula → Type 0 where
  -- the constants are true and false
  a_constant : (c : Bool) → Spells 4 (word (constant_word c) ∷ []) (constant c)
  -- atoms are r, a register number, = or <, and a decimal number
  an_atom : (r c : ℕ) {s : Sign} {k : Comparison} → Compares s k → Spells 4 (register r ∷ sign s ∷ number c ∷ []) (atom k r c)
  -- round brackets override
  in_brackets : {ts : List Token} {φ : TextFormula} → Spells 0 ts φ → Spells 4 (sign open_sign ∷ ts ++ sign close_sign ∷ []) φ
  -- prefix words bind tightest
  a_prefixed : (p : Prefix) {ts : List Token} {φ : TextFormula} → Spells 4 ts φ → Spells 4 (word (prefix_word p) ∷ ts) (prefixed p φ)
  a_joined : (o : Operator) {ts us : List Token} {φ ψ : TextFormula} → Spells (left_level o) ts φ → Spells (right_level o) us ψ
      → Spells (strength o) (ts ++ word (operator_word o) ∷ us) (joined o φ ψ)
  -- what binds tighter stands also where less is wanted
  tighter : {l : ℕ} {ts : List Token} {φ : TextFormula} → Spells (suc l) ts φ → Spells l ts φ

-- ---- bytes that write tokens

-- the letters of a word, small
abbrev pub letters_of : Word → List ℕ
letters_of (constant_word true) = ascii "true"
letters_of (constant_word false) = ascii "false"
letters_of (prefix_word not) = ascii "not"
letters_of (prefix_word wprev) = ascii "wprev"
letters_of (prefix_word prev) = ascii "prev"
letters_of (prefix_word once) = ascii "once"
letters_of (prefix_word sofar) = ascii "sofar"
letters_of (operator_word since_word) = ascii "since"
letters_of (operator_word and_word) = ascii "and"
letters_of (operator_word or_word) = ascii "or"
letters_of (operator_word implies_word) = ascii "implies"

abbrev pub byte_of : Sign → ℕ
byte_of open_sign = code "("
byte_of close_sign = code ")"
byte_of equal_sign = code "="
byte_of below_sign = code "<"

abbrev pub space : ℕ
space = code " "

abbrev pub letter_r : ℕ
letter_r = code "r"

-- decimal digits, and the number they write: leading zeros are allowed, and there may be any number of digits
abbrev pub is_digit : ℕ → Bool
is_digit b = leb (code "0") b && leb b (code "9")

abbrev pub digit_value : ℕ → ℕ
digit_value b = b - code "0"

abbrev pub value_from : ℕ → List ℕ → ℕ
value_from n [] = n
value_from n (b ∷ bs) = value_from (10 * n + digit_value b) bs

-- `Writes touching bs ts`: the bytes write the tokens. `touching` says that a word ends just before them.
pub data Writes : Bool → List ℕ → List Token → Type 0 where
  nothing : {touching : Bool} → Writes touching [] []
  -- spaces may stand between words, numbers and signs and at either end
  a_space : {touching : Bool} {bs : List ℕ} {ts : List Token} → Writes false bs ts → Writes touching (space ∷ bs) ts
  -- and must between two words
  a_word : (w : Word) {bs : List ℕ} {ts : List Token} → Writes true bs ts → Writes false (letters_of w ++ bs) (word w ∷ ts)
  -- r and its number touch and count as a word
  a_register : (d : ℕ) (ds : List ℕ) {bs : List ℕ} {ts : List Token} → all is_digit (d ∷ ds) ≡ true → Writes true bs ts
      → Writes false (letter_r ∷ d ∷ ds ++ bs) (register (value_from 0 (d ∷ ds)) ∷ ts)
  a_number : {touching : Bool} (d : ℕ) (ds : List ℕ) {bs : List ℕ} {ts : List Token} → all is_digit (d ∷ ds) ≡ true → Writes false bs ts
      → Writes touching (d ∷ ds ++ bs) (number (value_from 0 (d ∷ ds)) ∷ ts)
  a_sign : {touching : Bool} (s : Sign) {bs : List ℕ} {ts : List Token} → Writes false bs ts
      → Writes touching (byte_of s ∷ bs) (sign s ∷ ts)

-- ---- the texts of the grammar

pub record IsText (bs : List ℕ) (φ : TextFormula) : Type 0 where
  pub tokens : List Token
  pub writes : Writes false bs tokens
  pub spells : Spells 0 tokens φ

-- 16: at the first byte that no continuation could follow, or at the length where the text ends too soon. Bytes 0 to i - 1 begin a text
-- of the grammar; bytes 0 to i begin none, or the text ends at i and is none itself.
pub record StuckAt (bs : List ℕ) (i : ℕ) : Type 0 where
  pub begins : (rest : List ℕ) × (φ : TextFormula) × IsText (take i bs ++ rest) φ
  pub stops : ((i < length bs) × ((rest : List ℕ) (φ : TextFormula) → IsText (take (suc i) bs ++ rest) φ → ⊥))
      ⊎ ((i ≡ length bs) × ((φ : TextFormula) → IsText bs φ → ⊥))
