-- One line an index, with the answer and, for a breach or an open one, the registers it depends on.
use Rattle.std.specs.Prelude.{Bool, cond, List, [], ◌∷◌, ◌++◌, ℕ, eqb}
use Rattle.spec.specs.Ascii.{ascii}
use Rattle.spec.specs.Logic.{register_count}
use Rattle.print.specs.Decimal.{space, newline, decimal, number}
use Rattle.print.specs.Written.{each_of}

-- an answer, a byte of 0, 1 or 2, as a word
abbrev pub answer_word : (answer : ℕ) → List ℕ
answer_word b = cond (eqb b 0) (ascii "false") (cond (eqb b 1) (ascii "true") (ascii "open"))

-- r and its number, after a space, for each register of a set, rising
abbrev pub register_text : (ℕ → Bool) → (r : ℕ) → List ℕ
register_text on r = cond (on r) (ascii " r" ++ decimal r) []

unfoldable pub registers_text : (ℕ → Bool) → List ℕ
registers_text on = each_of (register_text on) register_count

-- a true answer has none
abbrev pub reason_text : (answer : ℕ) → (ℕ → Bool) → List ℕ
reason_text b on = cond (eqb b 1) [] (registers_text on)

unfoldable pub index_text : (i answer : ℕ) → (ℕ → Bool) → List ℕ
index_text i b on = number i space ++ answer_word b ++ reason_text b on ++ newline ∷ []

-- a header with the count, then the lines
unfoldable pub lines_text : (n : ℕ) → (answer : ℕ → ℕ) → (on : ℕ → ℕ → Bool) → List ℕ
lines_text n answer on = ascii "indices " ++ number n newline ++ each_of (λ i. index_text i (answer i) (on i)) n
