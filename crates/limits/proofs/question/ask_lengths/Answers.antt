-- `limits::question::ask_lengths` meets its contract (`QuestionLaws`). Assumes nothing.
use Rattle.limits.proofs.QuestionLaws.{low_length_no, high_length_no, lengths_no, room_no, lengths_yes}
use Rattle.limits.proofs.question.ask_lengths.Goals as goal

pub returns-then-lows-ne0 : goal.returns-then-lows-ne0
returns-then-lows-ne0 c = let a = c.args in low_length_no a.lows.now a.highs.now a.out.now c.if-lows-ne0.true

pub returns-then-highs-ne0 : goal.returns-then-highs-ne0
returns-then-highs-ne0 c = let a = c.args in high_length_no a.lows.now a.highs.now a.out.now c.if-lows-ne0.false c.if-highs-ne0.true

pub returns-then-lows-highs : goal.returns-then-lows-highs
returns-then-lows-highs c = let a = c.args in lengths_no a.lows.now a.highs.now a.out.now c.if-lows-ne0.false c.if-highs-ne0.false c.if-lows-highs.true

pub returns-then-out-lows : goal.returns-then-out-lows
returns-then-out-lows c = let a = c.args in room_no a.lows.now a.highs.now a.out.now c.if-lows-ne0.false c.if-highs-ne0.false c.if-lows-highs.false c.if-out-lows.true

pub returns : goal.returns
returns c = let a = c.args in lengths_yes a.lows.now a.highs.now a.out.now c.if-lows-ne0.false c.if-highs-ne0.false c.if-lows-highs.false c.if-out-lows.false
