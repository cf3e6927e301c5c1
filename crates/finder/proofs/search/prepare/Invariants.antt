-- `finder::search::prepare` meets its contract. The loop keeps: the first l lines have all that belongs, and a flag (`SearchLaws.Prepared`). Assumes nothing.
use Rattle.facts.specs.FactSets.{facts_of}
use Rattle.finder.proofs.SearchLaws.{Prepared}
use Rattle.finder.proofs.search.prepare.Given as goal

abbrev pub invariant-loop-l : goal.invariant-loop-l
invariant-loop-l l = Prepared l.initial.notes l.initial.flags (facts_of l.most) l.notes l.flags l.l
