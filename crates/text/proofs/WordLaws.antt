-- What reading a word answers (`specs/Tokens.antt`).
--     word_touches, word_breaks, word_stands      it touches a word; it breaks off; all its letters stand there
-- Assumes nothing.
use mathlib.Core.Path.{◌≡◌, sym, ap, ◌∙◌}
use mathlib.Core.Bool.{Bool, true, false, cond}
use mathlib.Core.List.{List}
use Prim.Native.Nat.{ℕ, ◌+◌, ◌≤◌, ◌<◌}
use lib.ListN.{length, drop}
use borrow.Author.Tests.{lt-ltb, le-ltb}
use Rattle.grammar.specs.Bytes.{agreeing}
use Rattle.text.specs.Tokens.{found, broken_at, spelled, word_at}
use Rattle.text.specs.declared.token.Token.{Token}

module _ (x : Token) (t : Bool) (letters : List ℕ) (at : ℕ) (text : List ℕ) where
  pub word_touches : t ≡ true → broken_at at ≡ word_at x t letters at text
  word_touches e = sym (ap (λ b. cond b (broken_at at) (spelled x at (agreeing letters (drop at text)) (length letters))) e)

  -- a word that does not touch one, and of which n letters stand there
  module _ (n : ℕ) (e : t ≡ false) (f : n ≡ agreeing letters (drop at text)) where
    apart : spelled x at n (length letters) ≡ word_at x t letters at text
    apart = ap (λ m. spelled x at m (length letters)) f
        ∙ sym (ap (λ b. cond b (broken_at at) (spelled x at (agreeing letters (drop at text)) (length letters))) e)

    pub word_breaks : n < length letters → broken_at (at + n) ≡ word_at x t letters at text
    word_breaks h = sym (ap (λ b. cond b (broken_at (at + n)) (found x (at + n))) (lt-ltb n (length letters) h)) ∙ apart

    pub word_stands : length letters ≤ n → found x (at + n) ≡ word_at x t letters at text
    word_stands h = sym (ap (λ b. cond b (broken_at (at + n)) (found x (at + n))) (le-ltb n (length letters) h)) ∙ apart
