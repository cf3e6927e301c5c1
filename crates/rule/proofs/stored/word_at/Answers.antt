-- `rule::stored::word_at` meets its contract (`EachLaws`). Assumes nothing.
use Rattle.rule.proofs.EachLaws.{word_each}
use Rattle.rule.proofs.stored.word_at.Goals as goal

pub returns : goal.returns
returns g c = word_each g.met.W.Word.each c.args.words.now g.W.Word.IS_WIDE c.args.i _ _ c.requires c.index-words-i.is c.widen.ensures
