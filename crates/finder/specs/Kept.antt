-- The words of the lines found, from the notes as they are kept.
use Rattle.std.specs.Prelude.{Bool, List, [], ◌++◌, ℕ, zero, suc, get_or}
use Rattle.facts.specs.Written.{stored_line}
use Rattle.finder.specs.Rows.{notes_at}

-- the words of n lines, one after another
unfoldable pub gather : (ℕ → List ℕ) → ℕ → List ℕ
gather g zero = []
gather g (suc n) = gather g n ++ g n

-- of the lines with these instruction words and the notes kept
abbrev pub kept_lines : (is_wide : Bool) → (instructions notes : List ℕ) → ℕ → List ℕ
kept_lines is_wide ws notes n = gather (λ l. stored_line is_wide (get_or ws l 0) (notes_at notes l)) n
