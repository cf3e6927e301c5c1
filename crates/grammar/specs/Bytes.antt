-- What stands at the beginning of bytes: the digits of a number, the letters of a word.
use Rattle.std.specs.Prelude.{true, false, cond, List, [], ◌∷◌, ℕ, suc, ◌+◌, ◌*◌, eqb}
use Rattle.grammar.specs.Grammar.{is_digit, digit_value}

-- the value of the digits, after digits with the value n
unfoldable pub leading_from : ℕ → List ℕ → ℕ
leading_from n [] = n
leading_from n (b ∷ bs) = elim (is_digit b) [ true ↦ leading_from (10 * n + digit_value b) bs | false ↦ n ]

-- how many digits
unfoldable pub digits_in : List ℕ → ℕ
digits_in [] = 0
digits_in (b ∷ bs) = elim (is_digit b) [ true ↦ suc (digits_in bs) | false ↦ 0 ]

-- how many of these letters
unfoldable pub agreeing : (letters : List ℕ) → List ℕ → ℕ
agreeing [] bs = 0
agreeing (x ∷ xs) [] = 0
agreeing (x ∷ xs) (b ∷ bs) = cond (eqb b x) (suc (agreeing xs bs)) 0
