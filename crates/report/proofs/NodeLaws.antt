-- The nodes as text (`specs/Compiled.antt`).
--     hex_text_lem, hex_length      a word of 32 bits has eight hexadecimal digits
--     node_at, nodes_all         the words, one after another
-- Assumes nothing.
use mathlib.Core.Path.{◌≡◌, refl, ap, ◌∙◌}
use mathlib.Core.Logic.{inl, inr}
use mathlib.Core.List.{List}
use Prim.Native.Nat.{ℕ, ◌-◌, ◌<◌}
use native.Mathlib.Nat.{pow-le-pow_right}
use native.Mathlib.Omega.{arith}
use lib.ListN.{length, get_or}
use Rattle.io.specs.Digits.{last_digits, IsDigitCount}
use Rattle.spec.proofs.BoolLaws.{le_or_lt}
use Rattle.print.specs.Written.{each_of}
use Rattle.report.specs.Compiled.{hex_text, node_text, nodes_text}

hex_eight : (w k : ℕ) → w < 4294967296 → IsDigitCount 16 8 w k → k ≡ 8
hex_eight w k h (least, fits, fewest) =
    elim (le_or_lt k 8) [
      | inl l ↦ omega arith
      | inr l ↦ let p = pow-le-pow_right {n = 16} (omega arith) {i = 8} {j = k - 1} (omega arith) in let q = fewest l in absurd (omega arith)
    ]

pub hex_text_lem : (w k : ℕ) (ds : List ℕ) → w < 4294967296 → IsDigitCount 16 8 w k → ds ≡ last_digits 16 k w → ds ≡ hex_text w
unfolding hex_text
hex_text_lem w k ds h f e = e ∙ ap (λ n. last_digits 16 n w) (hex_eight w k h f)

pub hex_length : (w : ℕ) → length (hex_text w) ≡ 8
unfolding hex_text
hex_length w = refl

abbrev pub node_at : List ℕ → ℕ → List ℕ
node_at words k = node_text (get_or words k 0)

pub nodes_all : (words : List ℕ) (n : ℕ) → n ≡ length words → each_of (node_at words) n ≡ nodes_text words
unfolding nodes_text
nodes_all words n e = ap (each_of (node_at words)) e
