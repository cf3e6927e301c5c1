-- `checker::passing::no_facts` meets its contract: the word 0 has no node. Assumes nothing.
use Rattle.spec.proofs.FactLaws.{facts_ext}
use Rattle.checker.proofs.PassLaws.{emptied}
use Rattle.checker.proofs.passing.no_facts.Goals as goal

pub returns : goal.returns
returns c = let d = c.default.ensures in
    facts_ext _ _ (emptied _ d.0) (emptied _ d.1.0) (emptied _ d.1.1.0) (emptied _ d.1.1.1.0) (emptied _ d.1.1.1.1.0) (emptied _ d.1.1.1.1.1.0) (emptied _ d.1.1.1.1.1.1)
