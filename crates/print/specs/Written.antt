-- Bytes or words written into a lent output.
use Rattle.std.specs.Prelude.{◌≡◌, List, [], ◌++◌, ℕ, zero, suc, ◌+◌, ◌≤◌, length, take, drop}

-- `text` is put at `at` and ends at `end`; what stands before and after it stays
pub record Added (text : List ℕ) (at end : ℕ) (before after : List ℕ) : Type 0 where
  pub ends : end ≡ at + length text
  pub holds : after ≡ take at before ++ text ++ drop (at + length text) before

-- the same of a text of at most `most` bytes
pub record Filled (most : ℕ) (text : List ℕ) (at end : ℕ) (before after : List ℕ) : Type 0 where
  pub added : Added text at end before after
  pub short : length text ≤ most

-- the texts of 0 to n - 1, one after another
unfoldable pub each_of : (ℕ → List ℕ) → (n : ℕ) → List ℕ
each_of f zero = []
each_of f (suc n) = each_of f n ++ f n
