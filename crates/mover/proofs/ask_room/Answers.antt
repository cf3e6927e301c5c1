-- `mover::ask_room` meets its contract: a question put once (`QuestionLaws`). Assumes nothing.
use mathlib.Core.Path.{sym}
use borrow.Author.Tests.{le-leb, lt-leb}
use Rattle.spec.proofs.QuestionLaws.{once_in, once_no}
use Rattle.mover.proofs.ask_room.Goals as goal

pub returns-then-space-words : goal.returns-then-space-words
returns-then-space-words c = sym (once_no 13 _ (lt-leb c.args.words c.args.space c.if-space-words.true))

pub returns : goal.returns
returns c = sym (once_in 13 _ (le-leb c.args.words c.args.space c.if-space-words.false))
