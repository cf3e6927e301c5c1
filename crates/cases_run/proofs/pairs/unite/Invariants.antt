-- `cases_run::pairs::unite` meets its contract: the loop keeps that the first i words are the union's (`PairLaws`). Assumes nothing.
use Rattle.cases_run.proofs.PairLaws.{Uniting}
use Rattle.cases_run.proofs.pairs.unite.Given as goal

abbrev pub invariant-loop-i : goal.invariant-loop-i
invariant-loop-i g l = Uniting g.W.Word.IS_WIDE (g.W.Word.numbers l.initial.script) (g.W.Word.numbers l.other) l.i (g.W.Word.numbers l.script)
