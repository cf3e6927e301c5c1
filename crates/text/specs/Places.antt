-- Between two tokens, as the scan has it, and what reading a token finds.
use Rattle.std.specs.Prelude.{◌≡◌, Bool, true, false, List, ◌++◌, map, ℕ, zero, suc, ◌+◌, ◌-◌, ◌≤◌, ◌<◌, length, drop, Ok, Err}
use Rattle.std.proofs.Math.Option.{some}
use Rattle.grammar.specs.Grammar as grammar
use Rattle.grammar.specs.Place as spec
use Rattle.grammar.specs.Place.{Place, at, operand, comparison, constant_number, operator}
use Rattle.grammar.specs.Scan.{Scan, between, stuck_from, tokens_from}
use Rattle.text.specs.Tokens.{tokens_in, capped_token, Lexed, found, broken_at}
use Rattle.text.specs.declared.token.Token.{Token}
use Rattle.text.specs.declared.token.Token.TheVariants as token
use Rattle.text.specs.declared.scan.Want.{Want}
use Rattle.text.specs.declared.scan.Want.TheVariants as want
use Rattle.text.specs.declared.scan.Between.{Between}

abbrev pub want_of : Want → spec.Want
want_of want.Operand = operand
want_of want.Comparison = comparison
want_of want.Number = constant_number
want_of want.Operator = operator

abbrev pub scan_at : Want → (depth : ℕ) → (touching : Bool) → Scan
scan_at w d t = between t (at (want_of w) d)

abbrev pub scan_of : Between → Scan
scan_of s = scan_at s.want s.depth s.touching

-- after a token that may stand there
abbrev pub scan_after : Want → (depth : ℕ) → Token → Scan
scan_after w d token.Space = between false (at (want_of w) d)
scan_after w d (token.Constant value) = between true (at operator d)
scan_after w d (token.Prefix p) = between true (at operand d)
scan_after w d (token.Operator o) = between true (at operand d)
scan_after w d (token.Register n) = between true (at comparison d)
scan_after w d (token.Number n) = between false (at operator d)
scan_after w d token.Open = between false (at operand (suc d))
scan_after w d token.Close = between false (at operator (d - 1))
scan_after w d token.Equal = between false (at constant_number d)
scan_after w d token.Below = between false (at constant_number d)

-- from place i of a text to place j, over this token: the scan goes the same way from there, and finds the same tokens after it
pub record Over (text : List ℕ) (i : ℕ) (s : Scan) (t : Token) (j : ℕ) (q : Scan) : Type 0 where
  pub stuck : stuck_from i s (drop i text) ≡ stuck_from j q (drop j text)
  pub exact : List grammar.Token
  pub capped : map capped_token exact ≡ tokens_in t
  pub tokens : tokens_from s (drop i text) ≡ exact ++ tokens_from q (drop j text)
  pub further : i < j
  pub inside : j ≤ length text

abbrev pub Reads : List ℕ → ℕ → Want → (depth : ℕ) → (touching : Bool) → Lexed → Type 0
Reads text i w d t (Ok l) = Over text i (scan_at w d t) l.token l.next (scan_after w d l.token)
Reads text i w d t (Err place) = stuck_from i (scan_at w d t) (drop i text) ≡ some place

-- a closing bracket
abbrev pub close_at : (depth at : ℕ) → Lexed
close_at zero i = broken_at i
close_at (suc d) i = found token.Close (i + 1)
