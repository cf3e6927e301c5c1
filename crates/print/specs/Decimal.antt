-- Numbers in decimal, and a refusal, as the bytes of their letters (ASCII).
use Rattle.std.specs.Prelude.{cond, List, [], ◌∷◌, ◌++◌, ℕ, zero, suc, ◌+◌, ◌/◌, ◌%◌, ltb}
use Prim.Native.Char.{code}
use Rattle.spec.specs.Ascii.{ascii}

-- the digit of a number below ten
abbrev pub digit : ℕ → ℕ
digit n = code "0" + n

-- A number in decimal: a number below ten is its digit; otherwise the last digit stands after the digits of the tenth. At most `most` digits
-- are written, and n + 1 are enough: `proofs/DecimalLaws.antt` has the equations that a reader expects, `decimal_small` and `decimal_more`.
unfoldable pub digits_for : (most n : ℕ) → List ℕ
digits_for zero n = []
digits_for (suc most) n = cond (ltb n 10) (digit n ∷ []) (digits_for most (n / 10) ++ (digit (n % 10) ∷ []))

unfoldable pub decimal : ℕ → List ℕ
decimal n = digits_for (suc n) n

abbrev pub space : ℕ
space = code " "

abbrev pub newline : ℕ
newline = code "\n"

-- a number and what ends it
abbrev pub number : (n end : ℕ) → List ℕ
number n end = decimal n ++ (end ∷ [])

-- "refused", number, place
unfoldable pub refused_text : (question place : ℕ) → List ℕ
refused_text q i = ascii "refused " ++ number q space ++ number i newline
