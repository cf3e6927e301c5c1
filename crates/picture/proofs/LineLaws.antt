-- The laws of `specs/Lines.antt`.
--     register_there     a register of a set
--     line_at            the line of an index, from lists
-- Assumes nothing.
use mathlib.Core.Path.{◌≡◌}
use mathlib.Core.Bool.{Bool, true}
use mathlib.Core.List.{List, ◌++◌}
use Prim.Native.Nat.{ℕ}
use Rattle.spec.specs.Ascii.{ascii}
use Rattle.print.specs.Decimal.{decimal}
use lib.ListN.{get_or}
use Rattle.sets.specs.Sets.{set_of}
use Rattle.picture.specs.Lines.{register_text, index_text}

pub register_there : (on : ℕ → Bool) (r : ℕ) → on r ≡ true → ascii " r" ++ decimal r ≡ register_text on r
register_there on r e = rw e

abbrev pub line_at : (answers sets : List ℕ) → ℕ → List ℕ
line_at answers sets i = index_text i (get_or answers i 0) (set_of (get_or sets i 0))
