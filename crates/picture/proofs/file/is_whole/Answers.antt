-- `picture::file::is_whole` meets its contract (`FileLaws`). Assumes nothing.
use Rattle.picture.proofs.FileLaws.{whole_no, whole_is}
use Rattle.picture.proofs.file.is_whole.Goals as goal

pub returns-then-count-gt1000 : goal.returns-then-count-gt1000
returns-then-count-gt1000 c = let a = c.args in whole_no a.bytes.now a.at _ c.word_at-count.ensures c.if-count-gt1000.true

pub returns : goal.returns
returns c = let a = c.args in whole_is a.bytes.now a.at _ c.word_at-count.ensures c.if-count-gt1000.false
