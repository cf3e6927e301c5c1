-- `words::counted::count_in` meets its contract: the count by cases (`CountedLaws`). Assumes nothing.
use Rattle.words.proofs.CountedLaws.{count_over, count_missing, count_there}
use Rattle.words.proofs.counted.count_in.Goals as goal

pub returns-then-most-n : goal.returns-then-most-n
returns-then-most-n c =
    let args = c.args in
    count_over args.most args.bytes.now args.at c.word_at-n.result c.word_at-n.ensures c.if-most-n.true

pub returns-then-bytes-at : goal.returns-then-bytes-at
returns-then-bytes-at c =
    let args = c.args in
    count_missing args.most args.bytes.now args.at c.word_at-n.result c.word_at-n.ensures c.if-most-n.false c.if-bytes-at.true

pub returns : goal.returns
returns c =
    let args = c.args in
    count_there args.most args.bytes.now args.at c.word_at-n.result c.word_at-n.ensures c.if-most-n.false c.if-bytes-at.false
