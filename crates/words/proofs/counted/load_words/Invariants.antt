-- `words::counted::load_words` meets its contract: the first i words are written (`CountedLaws`). Assumes nothing.
use Rattle.words.specs.Counted.{words_from}
use Rattle.print.specs.Written.{Added}
use Rattle.words.proofs.counted.load_words.Given as goal

abbrev pub invariant-loop-i : goal.invariant-loop-i
invariant-loop-i l = Added (words_from l.bytes l.at l.i) 0 l.i l.initial.out l.out
