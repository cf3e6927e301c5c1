-- What the compile program prints, by computation: inputs with and without the end of a line. More are run (crate cases_run).
--     compiled_cases      nodes; what may stand at a 16, and within a word; a 17; an 18
-- Assumes nothing.
use mathlib.Core.Path.{◌≡◌, refl}
use mathlib.Core.List.{List, [], ◌∷◌, map}
use Prim.Native.String.{String}
use Rattle.spec.specs.Ascii.{ascii}
use Rattle.spec.proofs.Compute.{everything}
use Rattle.grammar.specs.Bytes.{agreeing}
use Rattle.grammar.proofs.TextCompute.{texts}
use Rattle.print.specs.Decimal.{digits_for, decimal, refused_text}
use Rattle.print.specs.Written.{each_of}
use Rattle.report.specs.Compiled.{text_in, hex_text, nodes_text, shown_text, pointer_text, mark_text, may_stand, candidates, items_text, letters_before, expected_items, expected_text, compiled_text}

-- an input, and what is printed
pub record Case : Type 0 where
  pub input : String
  pub output : String

infix 90 ◌prints◌
abbrev pub ◌prints◌ : String → String → Case
s prints t = record { input = s; output = t }

abbrev pub Right : List Case → Type 0
Right cs = map (λ c. compiled_text (ascii c.input)) cs ≡ map (λ c. ascii c.output) cs

pub compiled_cases : Right
    ("r1=1 since r2=1\n" prints "22000800\n24000800\n80000002\n"
    ∷ "r1=1 and r2 is 3\r\n" prints "refused 16 12\nr1=1 and r2 is 3\n            ^\nexpected: = < space\n"
    ∷ "r1=1 since (r2=1" prints "refused 16 16\nr1=1 since (r2=1\n                ^\nexpected: since and or implies ) digit space\n"
    ∷ "r1=1 sinse r2=1\n" prints "refused 16 8\nr1=1 sinse r2=1\n        ^\nexpected: since\n"
    ∷ "r1=1 o" prints "refused 16 6\nr1=1 o\n      ^\nexpected: or\n"
    ∷ "true\n\n" prints "refused 16 4\ntrue?\n    ^\nexpected: space\n"
    ∷ "r16=1\n" prints "refused 17 1\nr16=1\n ^\nregisters go up to r15, numbers up to 16383\n"
    ∷ "sofar sofar sofar sofar r1=1" prints "refused 18 0\na rule has at most 32 nodes, and this one needs more\n" ∷ [])
unfolding everything texts digits_for decimal refused_text each_of text_in hex_text nodes_text shown_text pointer_text mark_text may_stand candidates agreeing items_text letters_before expected_items expected_text compiled_text
compiled_cases = refl
