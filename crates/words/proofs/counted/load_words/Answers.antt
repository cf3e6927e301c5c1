-- `words::counted::load_words` meets its contract: the first i words are written (`CountedLaws`). Assumes nothing.
use native.Mathlib.Omega.{arith}
use Rattle.words.proofs.CountedLaws.{words_start, words_next}
use Rattle.words.proofs.counted.load_words.Goals as goal

pub loop-i-init : goal.loop-i-init
loop-i-init c = words_start c.args.bytes.now c.args.at c.args.out.now

pub loop-i-preserved : goal.loop-i-preserved
loop-i-preserved c =
    words_next c.args.bytes.now c.args.at c.args.out.now c.loop-i.i c.word_at.result c.loop-i.out (omega arith) c.word_at.ensures
    c.loop-i.invariant
