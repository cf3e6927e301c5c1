-- The text of a listing, as the bytes of its letters (ASCII).
use Rattle.std.specs.Prelude.{List, ◌++◌, ℕ, ◌*◌, get_or}
use Rattle.spec.specs.Ascii.{ascii}
use Rattle.spec.specs.Questions.{Answer, passed, refused}
use Rattle.spec.specs.Script.{fields_of}
use Rattle.spec.specs.Check.{line_length}
use Rattle.print.specs.Decimal.{space, newline, number, refused_text}
use Rattle.print.specs.Written.{each_of}

-- line, opcode, r, c, target, in decimal; w is the line's first word
unfoldable pub line_text : (l w : ℕ) → List ℕ
line_text l w =
    let f = fields_of w in
    number l space ++ number f.opcode space ++ number f.r space ++ number f.c space ++ number f.target newline

-- the first n lines of a script of eight words a line
unfoldable pub lines_text : List ℕ → (n : ℕ) → List ℕ
lines_text words n = each_of (λ l. line_text l (get_or words (line_length * l) 0)) n

-- a header with the count, then the lines; for a refused input only "refused", number, place
unfoldable pub answer_text : (words : List ℕ) → Answer ℕ → List ℕ
answer_text words (passed n) = ascii "lines " ++ number n newline ++ lines_text words n
answer_text words (refused q i) = refused_text q i
