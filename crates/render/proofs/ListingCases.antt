-- Document 01's listing, by computation; more cases are run (crate listing_cases).
--     bytes, tone_input, tone_text    words as bytes; the since rule and "input 1, input 2, present, go to 0"; its listing
--     tone_listed                   that input's listing
--     nothing_listed                no input at all: question 1
--     cut_listed                    the input without its last byte: question 5
-- Assumes nothing.
use mathlib.Core.Path.{◌≡◌, refl}
use mathlib.Core.List.{List, [], ◌∷◌, ◌++◌}
use Prim.Native.Nat.{ℕ, ◌/◌, ◌%◌}
use lib.ListN.{take}
use Rattle.spec.proofs.Compute.{everything}
use Rattle.words.specs.Words.{word_at}
use Rattle.words.specs.Counted.{words_from, count_in}
use Rattle.print.specs.Decimal.{digits_for, decimal, refused_text}
use Rattle.print.specs.Written.{each_of}
use Rattle.render.specs.Text.{line_text, lines_text, answer_text}
use Rattle.render.specs.Listing.{woven_text, listing_of}

-- words as bytes, high byte first
unfoldable pub bytes : List ℕ → List ℕ
bytes [] = []
bytes (w ∷ ws) = w / 16777216 ∷ w / 65536 % 256 ∷ w / 256 % 256 ∷ w % 256 ∷ bytes ws

unfoldable pub tone_input : List ℕ
tone_input =
    bytes
    (3 ∷ 0x22000800 ∷ 0x24000800 ∷ 0x80000002 ∷ 4 ∷ 0x41000000 ∷ 0x42000000 ∷ 0x80000000 ∷ 0x70000000 ∷ [])

-- "refused 1 0"
pub nothing_listed : listing_of [] ≡ 114 ∷ 101 ∷ 102 ∷ 117 ∷ 115 ∷ 101 ∷ 100 ∷ 32 ∷ 49 ∷ 32 ∷ 48 ∷ 10 ∷ []
unfolding everything word_at words_from count_in digits_for decimal refused_text each_of line_text lines_text answer_text woven_text listing_of
nothing_listed = refl

-- the lines as document 01 prints them
unfoldable pub tone_text : List ℕ
tone_text =
    (108 ∷ 105 ∷ 110 ∷ 101 ∷ 115 ∷ 32 ∷ 49 ∷ 54 ∷ 10 ∷ [])
    ++ (48 ∷ 32 ∷ 52 ∷ 32 ∷ 49 ∷ 32 ∷ 48 ∷ 32 ∷ 48 ∷ 10 ∷ [])
    ++ (49 ∷ 32 ∷ 52 ∷ 32 ∷ 50 ∷ 32 ∷ 48 ∷ 32 ∷ 48 ∷ 10 ∷ [])
    ++ (50 ∷ 32 ∷ 53 ∷ 32 ∷ 50 ∷ 32 ∷ 49 ∷ 32 ∷ 56 ∷ 10 ∷ [])
    ++ (51 ∷ 32 ∷ 55 ∷ 32 ∷ 48 ∷ 32 ∷ 48 ∷ 32 ∷ 52 ∷ 10 ∷ [])
    ++ (52 ∷ 32 ∷ 49 ∷ 48 ∷ 32 ∷ 48 ∷ 32 ∷ 50 ∷ 32 ∷ 54 ∷ 10 ∷ [])
    ++ (53 ∷ 32 ∷ 55 ∷ 32 ∷ 48 ∷ 32 ∷ 48 ∷ 32 ∷ 49 ∷ 48 ∷ 10 ∷ [])
    ++ (54 ∷ 32 ∷ 53 ∷ 32 ∷ 49 ∷ 32 ∷ 49 ∷ 32 ∷ 56 ∷ 10 ∷ [])
    ++ (55 ∷ 32 ∷ 55 ∷ 32 ∷ 48 ∷ 32 ∷ 48 ∷ 32 ∷ 49 ∷ 48 ∷ 10 ∷ [])
    ++ (56 ∷ 32 ∷ 57 ∷ 32 ∷ 49 ∷ 32 ∷ 50 ∷ 32 ∷ 48 ∷ 10 ∷ [])
    ++ (57 ∷ 32 ∷ 55 ∷ 32 ∷ 48 ∷ 32 ∷ 48 ∷ 32 ∷ 49 ∷ 49 ∷ 10 ∷ [])
    ++ (49 ∷ 48 ∷ 32 ∷ 57 ∷ 32 ∷ 48 ∷ 32 ∷ 50 ∷ 32 ∷ 48 ∷ 10 ∷ [])
    ++ (49 ∷ 49 ∷ 32 ∷ 49 ∷ 49 ∷ 32 ∷ 48 ∷ 32 ∷ 50 ∷ 32 ∷ 49 ∷ 51 ∷ 10 ∷ [])
    ++ (49 ∷ 50 ∷ 32 ∷ 55 ∷ 32 ∷ 48 ∷ 32 ∷ 48 ∷ 32 ∷ 49 ∷ 53 ∷ 10 ∷ [])
    ++ (49 ∷ 51 ∷ 32 ∷ 56 ∷ 32 ∷ 48 ∷ 32 ∷ 48 ∷ 32 ∷ 48 ∷ 10 ∷ [])
    ++ (49 ∷ 52 ∷ 32 ∷ 49 ∷ 50 ∷ 32 ∷ 48 ∷ 32 ∷ 50 ∷ 32 ∷ 48 ∷ 10 ∷ [])
    ++ (49 ∷ 53 ∷ 32 ∷ 55 ∷ 32 ∷ 48 ∷ 32 ∷ 48 ∷ 32 ∷ 48 ∷ 10 ∷ [])

pub tone_listed : listing_of tone_input ≡ tone_text
unfolding everything word_at words_from count_in digits_for decimal refused_text each_of line_text lines_text answer_text woven_text listing_of bytes tone_input tone_text
tone_listed = refl

-- "refused 5 0"
pub cut_listed : listing_of (take 35 tone_input) ≡ 114 ∷ 101 ∷ 102 ∷ 117 ∷ 115 ∷ 101 ∷ 100 ∷ 32 ∷ 53 ∷ 32 ∷ 48 ∷ 10 ∷ []
unfolding everything word_at words_from count_in digits_for decimal refused_text each_of line_text lines_text answer_text woven_text listing_of bytes tone_input
cut_listed = refl
