-- Words that are counted: a count, and then so many words. A word cut short is a missing word.
use Rattle.std.specs.Prelude.{cond, ◌&&◌, List, [], ◌∷◌, ◌++◌, ℕ, zero, suc, ◌+◌, ◌/◌, length, leb}
use Rattle.words.specs.Words.{word_at}

-- how many whole words there are
abbrev pub word_count : List ℕ → ℕ
word_count bytes = length bytes / 4

-- the n words from word `at` on
unfoldable pub words_from : List ℕ → (at n : ℕ) → List ℕ
words_from bytes at zero = []
words_from bytes at (suc n) = words_from bytes at n ++ (word_at bytes (at + n) ∷ [])

-- the count at word `at`; a count out of range, or of words that are missing, is as a count of none
unfoldable pub count_in : (most : ℕ) → List ℕ → (at : ℕ) → ℕ
count_in most bytes at =
    let n = word_at bytes at in
    cond (leb n most && leb (at + 1 + n) (word_count bytes)) n 0

-- the words that it counts
abbrev pub counted : (most : ℕ) → List ℕ → (at : ℕ) → List ℕ
counted most bytes at = words_from bytes (at + 1) (count_in most bytes at)
