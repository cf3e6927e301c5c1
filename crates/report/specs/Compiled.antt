-- What the compile program prints for the bytes of its input: the nodes of a rule typed as text, or where the text went wrong and what may stand
-- there (document 02, 2026-04).
use Rattle.std.specs.Prelude.{Bool, true, cond, ◌&&◌, List, [], ◌∷◌, ◌++◌, map, ℕ, zero, suc, ◌-◌, length, get_or, take, drop, replicate, eqb, ltb, leb}
use Rattle.std.specs.Borrow.{Bor}
use Prim.Native.Char.{code}
use Rattle.io.specs.Digits.{last_digits}
use Rattle.spec.specs.Ascii.{ascii}
use Rattle.spec.specs.Questions.{Answer, passed, refused, Checked}
use Rattle.spec.specs.Rule.{form32}
use Rattle.grammar.specs.Bytes.{agreeing}
use Rattle.grammar.specs.Scan.{question16}
use Rattle.grammar.specs.Texting.{texting}
use Rattle.print.specs.Decimal.{space, newline, refused_text}
use Rattle.print.specs.Written.{each_of}

-- ---- the text of an input: its bytes without the end of the line

abbrev pub without_last : (byte : ℕ) → List ℕ → List ℕ
without_last b bs = cond (eqb (get_or bs (length bs - 1) 0) b) (take (length bs - 1) bs) bs

-- a newline, or a carriage return and a newline
unfoldable pub text_in : List ℕ → List ℕ
text_in bytes = without_last (code "\r") (without_last newline bytes)

-- ---- the nodes

-- a word as eight hexadecimal digits
unfoldable pub hex_text : ℕ → List ℕ
hex_text w = last_digits 16 8 w

abbrev pub node_text : ℕ → List ℕ
node_text w = hex_text w ++ newline ∷ []

unfoldable pub nodes_text : List ℕ → List ℕ
nodes_text ws = each_of (λ k. node_text (get_or ws k 0)) (length ws)

-- ---- the text, and a mark under the byte

-- a byte as a terminal shows it, in one column
abbrev pub visible : ℕ → ℕ
visible b = cond (leb (code " ") b && leb b (code "~")) b (code "?")

-- the text is shown from at most 60 bytes before the place on, and at most 72 bytes of it
abbrev pub shown_from : ℕ → ℕ
shown_from i = i - 60

unfoldable pub shown_text : List ℕ → (place : ℕ) → List ℕ
shown_text text i = map visible (take 72 (drop (shown_from i) text)) ++ newline ∷ []

unfoldable pub pointer_text : (place : ℕ) → List ℕ
pointer_text i = replicate (i - shown_from i) space ++ ascii "^\n"

unfoldable pub mark_text : List ℕ → (place : ℕ) → List ℕ
mark_text text i = shown_text text i ++ pointer_text i

-- ---- what may stand at the place

-- some text of the grammar goes on so (`proofs/StandLaws.antt`): 16, if any, is not before the end
abbrev pub beyond : (end : ℕ) → Checked → Bool
beyond end (passed u) = true
beyond end (refused q i) = leb end i

unfoldable pub may_stand : List ℕ → (place : ℕ) → (bytes : List ℕ) → Bool
may_stand text i bs = beyond (length (take i text ++ bs)) (question16 (take i text ++ bs))

-- what is tried, and the word for it
pub record Candidate : Type 0 where
  pub tried : List ℕ
  pub shown : List ℕ

-- as the code has it
abbrev pub candidate_of : Bor (List ℕ) × Bor (List ℕ) → Candidate
candidate_of p = record { tried = p.0.now; shown = p.1.now }

-- none has more than 8 bytes
abbrev pub all_short : List Candidate → Bool
all_short [] = true
all_short (c ∷ cs) = (leb (length c.tried) 8 && leb (length c.shown) 8) && all_short cs

abbrev pub itself : List ℕ → Candidate
itself bs = record { tried = bs; shown = bs }

unfoldable pub candidates : List Candidate
candidates =
    itself (ascii "true") ∷ itself (ascii "false") ∷ record { tried = ascii "r"; shown = ascii "register" } ∷ itself (ascii "not")
    ∷ itself (ascii "wprev") ∷ itself (ascii "prev") ∷ itself (ascii "once") ∷ itself (ascii "sofar") ∷ itself (ascii "since")
    ∷ itself (ascii "and") ∷ itself (ascii "or") ∷ itself (ascii "implies") ∷ itself (ascii "(") ∷ itself (ascii ")") ∷ itself (ascii "=")
    ∷ itself (ascii "<") ∷ record { tried = ascii "0"; shown = ascii "digit" } ∷ record { tried = ascii " "; shown = ascii "space" } ∷ []

-- it may stand at `start`, where so many of its bytes are typed already, and not all
abbrev pub is_begun : List ℕ → (start typed : ℕ) → (bytes : List ℕ) → Bool
is_begun text i n bs = ltb n (length bs) && eqb (agreeing bs (drop i text)) n && may_stand text i bs

-- the words for those that are, each after a space
abbrev pub item_text : List ℕ → (start typed : ℕ) → Candidate → List ℕ
item_text text i n c = cond (is_begun text i n c.tried) (space ∷ c.shown) []

unfoldable pub each_text : List ℕ → (start typed : ℕ) → List Candidate → (count : ℕ) → List ℕ
each_text text i n cs m = each_of (λ k. item_text text i n (get_or cs k (itself []))) m

unfoldable pub items_text : List ℕ → (start typed count : ℕ) → List ℕ
items_text text i n m = each_of (λ k. item_text text i n (get_or candidates k (itself []))) m

abbrev pub is_letter : ℕ → Bool
is_letter b = leb (code "a") b && leb b (code "z")

-- how many letters stand just before the place
unfoldable pub letters_before : List ℕ → (place : ℕ) → ℕ
letters_before text zero = 0
letters_before text (suc i) = cond (is_letter (get_or text i 0)) (suc (letters_before text i)) 0

abbrev pub or_else : List ℕ → List ℕ → List ℕ
or_else [] b = b
or_else (x ∷ a) b = x ∷ a

-- within a word the word that it is to be; else what may stand at the place
unfoldable pub expected_items : List ℕ → (place : ℕ) → List ℕ
expected_items text i =
    let n = letters_before text i in
    or_else (items_text text (i - n) n (length candidates)) (items_text text i 0 (length candidates))

unfoldable pub expected_text : List ℕ → (place : ℕ) → List ℕ
expected_text text i = ascii "expected:" ++ expected_items text i ++ newline ∷ []

-- ---- the answer

-- what is wrong, below the number and the place
abbrev pub reason_text : List ℕ → (question place : ℕ) → List ℕ
reason_text text q i =
    cond (eqb q 16) (mark_text text i ++ expected_text text i)
    (cond (eqb q 17) (mark_text text i ++ ascii "registers go up to r15, numbers up to 16383\n")
    (ascii "a rule has at most 32 nodes, and this one needs more\n"))

abbrev pub answer_text : List ℕ → Answer (List ℕ) → List ℕ
answer_text text (passed ws) = nodes_text ws
answer_text text (refused q i) = refused_text q i ++ reason_text text q i

-- the largest text that the program takes
abbrev pub most_bytes : ℕ
most_bytes = 65000

unfoldable pub compiled_text : (bytes : List ℕ) → List ℕ
compiled_text bytes =
    let text = text_in bytes in
    cond (leb (length text) most_bytes) (answer_text text (texting form32 form32.width text)) (ascii "a text has at most 65000 bytes here\n")
