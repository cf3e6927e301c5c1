-- `text::token::cap` meets its contract. Assumes nothing.
use native.Mathlib.Omega.{arith}
use Rattle.text.proofs.DigitLaws.{cap_min}
use Rattle.text.proofs.token.cap.Goals as goal

pub returns : goal.returns
returns c = omega (arith, cap_min c.args.n)
