-- A file of limits: 32-bit words, high byte first: node count, nodes, index count; then for each index the 16 lowest values and the 16 highest,
-- 16-bit numbers, high byte first. Later bytes are ignored.
use Rattle.std.specs.Prelude.{Bool, ◌&&◌, List, [], ◌∷◌, ◌++◌, ℕ, zero, suc, ◌+◌, ◌*◌, ◌/◌, ◌%◌, length, get_or, leb}
use Rattle.spec.specs.Rule.{form32}
use Rattle.words.specs.Words.{word_at}
use Rattle.words.specs.Counted.{counted}

-- node count (1 to 32), nodes; a count out of range, or nodes that are missing, are as none
abbrev pub rule_in : List ℕ → List ℕ
rule_in bytes = counted form32.width bytes 0

-- the index count is word `at`, and the limits stand after it
abbrev pub index_count : List ℕ → (at : ℕ) → ℕ
index_count bytes at = word_at bytes at

abbrev pub limits_at : (at : ℕ) → ℕ
limits_at at = 4 * at + 4

-- how many indices a file may have here
abbrev pub most_indices : ℕ
most_indices = 1000

-- no more than that, and the 64 bytes of each are there
unfoldable pub is_whole : List ℕ → (at : ℕ) → Bool
is_whole bytes at = leb (index_count bytes at) most_indices && leb (limits_at at + 64 * index_count bytes at) (length bytes)

-- the 16-bit number at byte i
abbrev pub number_at : List ℕ → (i : ℕ) → ℕ
number_at bytes i = get_or bytes i 0 * 256 + get_or bytes (i + 1) 0

-- number j of the lows (`first` is 0) or of the highs (`first` is 16), of the limits from byte `at` on
abbrev pub place_of : (at first j : ℕ) → ℕ
place_of at first j = at + 2 * (32 * (j / 16) + first + j % 16)

-- the first n of them
unfoldable pub limits_from : List ℕ → (at first n : ℕ) → List ℕ
limits_from bytes at first zero = []
limits_from bytes at first (suc n) = limits_from bytes at first n ++ (number_at bytes (place_of at first n) ∷ [])

unfoldable pub lows_in : List ℕ → (at : ℕ) → List ℕ
lows_in bytes at = limits_from bytes (limits_at at) 0 (16 * index_count bytes at)

unfoldable pub highs_in : List ℕ → (at : ℕ) → List ℕ
highs_in bytes at = limits_from bytes (limits_at at) 16 (16 * index_count bytes at)
