-- `finder::search::settle` meets its contract. The loop keeps `SearchLaws.Settling`; its measure is the sum of the words. Assumes nothing.
use Rattle.finder.specs.Rows.{total}
use Rattle.finder.proofs.SearchLaws.{Settling}
use Rattle.finder.proofs.search.settle.Given as goal

abbrev pub invariant-loop : goal.invariant-loop
invariant-loop l = Settling l.rule l.code l.initial.notes l.initial.flags l.notes l.flags

abbrev pub decreases-loop : goal.decreases-loop
decreases-loop l = total l.notes
