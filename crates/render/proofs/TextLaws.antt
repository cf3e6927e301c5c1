-- The laws of `specs/Text.antt`.
--     line_short                   a line has at most 30 bytes
--     lines_start, lines_next      the lines of a script, one after another
-- Assumes nothing.
use mathlib.Core.List.{List, ◌++◌}
use Prim.Native.Nat.{ℕ, ◌+◌, ◌*◌, ◌/◌, ◌%◌, ◌≤◌, ◌<◌}
use native.Mathlib.Omega.{arith}
use lib.ListN.{length, get_or, length-append}
use Rattle.spec.specs.Script.{fields_of}
use Rattle.spec.specs.Check.{line_length}
use Rattle.print.specs.Decimal.{number}
use Rattle.print.specs.Written.{Added, Filled}
use Rattle.print.proofs.AddedLaws.{filled_as, each_start, each_next}
use Rattle.print.proofs.DecimalLaws.{number_short}
use Rattle.render.specs.Text.{line_text, lines_text}

-- five numbers of at most five digits each
pub line_short : (l w : ℕ) → l < 1024 → length (line_text l w) ≤ 30
unfolding line_text fields_of
line_short l w h =
    let a = number l 32 in
    let b = number (w / 268435456 % 16) 32 in
    let c = number (w / 16777216 % 16) 32 in
    let d = number (w / 1024 % 16384) 32 in
    let e = number (w % 1024) 10 in
    let na = number_short 4 l 32 (omega arith) in
    let nb = number_short 4 (w / 268435456 % 16) 32 (omega arith) in
    let nc = number_short 4 (w / 16777216 % 16) 32 (omega arith) in
    let nd = number_short 4 (w / 1024 % 16384) 32 (omega arith) in
    let ne = number_short 4 (w % 1024) 10 (omega arith) in
    omega (
      arith,
      length-append (a ++ b ++ c ++ d) e,
      length-append (a ++ b ++ c) d,
      length-append (a ++ b) c,
      length-append a b,
    )

-- the lines of a script, one after another
module _ (words : List ℕ) (at : ℕ) (o : List ℕ) where
  abbrev line : ℕ → List ℕ
  line l = line_text l (get_or words (line_length * l) 0)

  pub lines_start : Filled (30 * 0) (lines_text words 0) at at o o
  unfolding lines_text
  lines_start = each_start line 30 at o

  pub lines_next : (l end end2 : ℕ) (o1 o2 : List ℕ) → l < 1024 → at + 30 * (l + 1) ≤ length o
      → Filled (30 * l) (lines_text words l) at end o o1 → Added (line_text l (get_or words (8 * l) 0)) end end2 o1 o2
      → Filled (30 * (l + 1)) (lines_text words (l + 1)) at end2 o o2
  unfolding lines_text
  lines_next l end end2 o1 o2 h room x y =
      each_next line 30 at o l end end2 o1 o2 room x (filled_as 30 (line_short l (get_or words (8 * l) 0) h) y)
