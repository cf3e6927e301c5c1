-- `text::token::digits_at` meets its contract: the digits passed make the value (`DigitLaws.Passed`). Assumes nothing.
use Rattle.text.proofs.DigitLaws.{Passed}
use Rattle.text.proofs.token.digits_at.Given as goal

abbrev pub invariant-loop-i : goal.invariant-loop-i
invariant-loop-i l = Passed l.text l.at l.value l.i
