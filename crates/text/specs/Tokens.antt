-- This crate's tokens as the grammar's.
use Rattle.std.specs.Prelude.{Bool, cond, List, [], ◌∷◌, ℕ, ◌+◌, length, drop, eqb, leb, ltb, Result, Ok, Err}
use Rattle.grammar.specs.Typed as typed
use Rattle.grammar.specs.Grammar as grammar
use Rattle.grammar.specs.Grammar.{constant_word, prefix_word, operator_word, open_sign, close_sign, equal_sign, below_sign, word, register, number, sign}
use Rattle.grammar.specs.Bytes.{agreeing}
use Rattle.text.specs.declared.token.Prefix.{Prefix}
use Rattle.text.specs.declared.token.Prefix.TheVariants as prefix
use Rattle.text.specs.declared.token.Operator.{Operator}
use Rattle.text.specs.declared.token.Operator.TheVariants as operator
use Rattle.text.specs.declared.token.Token.{Token}
use Rattle.text.specs.declared.token.Token.TheVariants as token
use Rattle.text.specs.declared.token.Lexeme.{Lexeme}

abbrev pub prefix_of : Prefix → typed.Prefix
prefix_of prefix.Not = typed.not
prefix_of prefix.Wprev = typed.wprev
prefix_of prefix.Prev = typed.prev
prefix_of prefix.Once = typed.once
prefix_of prefix.Sofar = typed.sofar

abbrev pub operator_of : Operator → typed.Operator
operator_of operator.Since = typed.since_word
operator_of operator.And = typed.and_word
operator_of operator.Or = typed.or_word
operator_of operator.Implies = typed.implies_word

-- a space is none
abbrev pub tokens_in : Token → List grammar.Token
tokens_in token.Space = []
tokens_in (token.Constant value) = word (constant_word value) ∷ []
tokens_in (token.Prefix w) = word (prefix_word (prefix_of w)) ∷ []
tokens_in (token.Operator w) = word (operator_word (operator_of w)) ∷ []
tokens_in (token.Register n) = register n ∷ []
tokens_in (token.Number n) = number n ∷ []
tokens_in token.Open = sign open_sign ∷ []
tokens_in token.Close = sign close_sign ∷ []
tokens_in token.Equal = sign equal_sign ∷ []
tokens_in token.Below = sign below_sign ∷ []

-- a number above 16,383 counts as 16,384
unfoldable pub capped : ℕ → ℕ
capped n = cond (leb n 16383) n 16384

abbrev pub capped_token : grammar.Token → grammar.Token
capped_token (word w) = word w
capped_token (register n) = register (capped n)
capped_token (number n) = number (capped n)
capped_token (sign s) = sign s

-- a byte is this letter
abbrev pub same : ℕ × ℕ → Bool
same p = eqb p.0 p.1

-- a token and the place behind it, or the place that no text goes on at
abbrev pub Lexed : Type 0
Lexed = Result Lexeme ℕ

abbrev pub found : Token → (next : ℕ) → Lexed
found t n = Ok (record { token = t; next = n })

abbrev pub broken_at : (place : ℕ) → Lexed
broken_at i = Err i

-- a word with these letters at a place: this token, or where it breaks off; it may not touch a word
abbrev pub spelled : Token → (at there letters : ℕ) → Lexed
spelled t at n l = cond (ltb n l) (broken_at (at + n)) (found t (at + n))

abbrev pub word_at : Token → (touching : Bool) → (letters : List ℕ) → (at : ℕ) → (text : List ℕ) → Lexed
word_at t touching letters at text = cond touching (broken_at at) (spelled t at (agreeing letters (drop at text)) (length letters))
