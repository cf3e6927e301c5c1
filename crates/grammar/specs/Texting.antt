-- A rule typed as text, made a table (document 02, 2026-04): questions 16, 17, 18 and 13, in that order, and the words written.
use Rattle.std.specs.Prelude.{Bool, cond, not, ◌&&◌, ◌||◌, List, ◌∷◌, ◌++◌, ℕ, length, get_or, drop, eqb, leb}
use Rattle.spec.specs.Logic.{largest_value, Formula}
use Rattle.spec.specs.Questions.{Answer, passed, refused, Checked, ◌then◌, ask, ask_once}
use Rattle.spec.specs.Rule.{Form}
use Rattle.grammar.specs.Typed.{opened}
use Rattle.grammar.specs.Grammar.{letter_r, is_digit}
use Rattle.grammar.specs.Bytes.{leading_from}
use Rattle.grammar.specs.Scan.{question16}
use Rattle.grammar.specs.Reading.{formula_of}
use Rattle.grammar.specs.Nodes.{size, rule_words}

-- ---- 17: numbers out of range

-- the byte before place i; 0 where there is none
abbrev pub byte_before : List ℕ → ℕ → ℕ
byte_before bs i = get_or (0 ∷ bs) i 0

-- a number starts at place i
abbrev pub number_at : List ℕ → ℕ → Bool
number_at bs i = is_digit (get_or bs i 0) && not (is_digit (byte_before bs i))

-- after r it is a register's, at most 15; else at most 16,383
abbrev pub most_after : ℕ → ℕ
most_after before = cond (eqb before letter_r) 15 largest_value

abbrev pub in_range_at : List ℕ → ℕ → Bool
in_range_at bs i = not (number_at bs i) || leb (leading_from 0 (drop i bs)) (most_after (byte_before bs i))

-- 17: is each number in range? (the place of its first digit)
unfoldable pub question17 : List ℕ → Checked
question17 bs = ask 17 (length bs) (in_range_at bs)

-- ---- 18 and 13, and the words

-- 18: not more nodes than the rule's stored form allows? 13: as many words in the output?
unfoldable pub writing : Form → (lent : ℕ) → Formula → Answer (List ℕ)
writing form lent φ =
    ask_once 18 (leb (size φ) form.width) then ask_once 13 (leb (size φ) lent) then passed (rule_words form φ)

unfoldable pub texting : Form → (lent : ℕ) → (text : List ℕ) → Answer (List ℕ)
texting form lent bs = question16 bs then question17 bs then writing form lent (opened (formula_of bs))

-- it answers the count of the nodes
abbrev pub count_of : Answer (List ℕ) → Answer ℕ
count_of (passed ws) = passed (length ws)
count_of (refused q i) = refused q i

-- the output after it: the words, and later words stay; as it was on refusal
abbrev pub output_of : Answer (List ℕ) → List ℕ → List ℕ
output_of (passed ws) out = ws ++ drop (length ws) out
output_of (refused q i) out = out
