-- Words of 32 bits, high byte first.
use Rattle.std.specs.Prelude.{ℕ, ◌+◌, ◌*◌, ◌/◌, List, cond, ltb, length, get_or}

-- word i of the bytes s, or 0 where it is not all there: a word cut short is a missing word
unfoldable pub word_at : List ℕ → ℕ → ℕ
word_at s i =
    cond (ltb i (length s / 4))
    (((get_or s (4 * i) 0 * 256 + get_or s (4 * i + 1) 0) * 256 + get_or s (4 * i + 2) 0) * 256 + get_or s (4 * i + 3) 0) 0
