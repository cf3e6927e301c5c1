-- `facts::is_among` meets its contract: seven words, one test each (`FactSetLaws.among_words`). Assumes nothing.
use Rattle.facts.specs.FactSets.{facts_of}
use Rattle.facts.proofs.FactSetLaws.{among_words}
use Rattle.facts.proofs.is_among.Goals as goal

pub returns : goal.returns
returns c = rw (c.subset.ensures, c.subset-2.ensures, c.subset-3.ensures, c.subset-4.ensures, c.subset-5.ensures, c.subset-6.ensures, c.subset-7.ensures) (among_words (facts_of c.args.x) (facts_of c.args.y))
