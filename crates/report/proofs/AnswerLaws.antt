-- The answer to a text, as text (`specs/Compiled.antt`).
--     reason_grammar, reason_range     what is wrong, by the question
--     answer_refused                                  the answer of reading a text, where it is a no
--     compiled_text_lem, compiled_long                and that of the input
-- Assumes nothing.
use mathlib.Core.Path.{◌≡◌, sym, ap, ◌∙◌}
use mathlib.Core.List.{List, ◌++◌}
use Prim.Native.Nat.{ℕ, ◌≤◌, ◌<◌}
use native.Mathlib.Omega.{arith}
use lib.ListN.{length}
use borrow.Author.Tests.{le-leb, lt-leb}
use Rattle.spec.specs.Ascii.{ascii}
use Rattle.spec.specs.Questions.{Answer, refused}
use Rattle.spec.specs.Rule.{form32}
use Rattle.grammar.specs.Texting.{texting, count_of}
use Rattle.grammar.proofs.TextLaws.{count_refused}
use Rattle.print.specs.Decimal.{refused_text}
use Rattle.report.specs.Compiled.{text_in, mark_text, expected_text, reason_text, answer_text, compiled_text}

-- ---- what is wrong

module _ (text : List ℕ) (q i : ℕ) where
  pub reason_grammar : q ≡ 16 → mark_text text i ++ expected_text text i ≡ reason_text text q i
  reason_grammar e = ap (λ n. reason_text text n i) (sym e)

  pub reason_range : q ≡ 17 → mark_text text i ++ ascii "registers go up to r15, numbers up to 16383\n" ≡ reason_text text q i
  reason_range e = ap (λ n. reason_text text n i) (sym e)

-- ---- the answer

module _ (text : List ℕ) where
  abbrev given : Answer (List ℕ)
  given = texting form32 32 text

  pub answer_refused : (q i : ℕ) → refused q i ≡ count_of given → refused_text q i ++ reason_text text q i ≡ answer_text text given
  answer_refused q i e = ap (answer_text text) (sym (count_refused given q i (sym e)))

-- ---- the input

module _ (bytes text : List ℕ) (e : text ≡ text_in bytes) where
  text_length : length (text_in bytes) ≡ length text
  text_length = sym (ap length e)

  pub compiled_text_lem : length text ≤ 65000 → answer_text text (texting form32 32 text) ≡ compiled_text bytes
  unfolding compiled_text form32
  compiled_text_lem h =
      let l = text_length in
      ap (λ t. answer_text t (texting form32 32 t)) e ∙ rw (le-leb (length (text_in bytes)) 65000 (omega arith))

  pub compiled_long : 65000 < length text → ascii "a text has at most 65000 bytes here\n" ≡ compiled_text bytes
  unfolding compiled_text
  compiled_long h = let l = text_length in rw (lt-leb (length (text_in bytes)) 65000 (omega arith))
