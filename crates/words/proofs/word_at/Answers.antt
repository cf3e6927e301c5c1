-- `words::word_at` meets its contract: four bytes, high byte first. Assumes nothing.
use native.Mathlib.Omega.{arith}
use borrow.Author.Tests.{lt-ltb, le-ltb}
use Rattle.words.specs.Words.{word_at}
use Rattle.words.proofs.word_at.Goals as goal

pub returns-then-i-s : goal.returns-then-i-s
unfolding word_at
returns-then-i-s c = rw (lt-ltb _ _ c.if-i-s.true) (omega (arith, c.from_be_bytes.ensures))

pub returns-else-i-s : goal.returns-else-i-s
unfolding word_at
returns-else-i-s c = rw (le-ltb _ _ c.if-i-s.false)
