-- `reasons::put_sets` meets its contract (`IndexLaws`); before index i the output has the sets below i, and `earlier` and the priors are those after them. Assumes nothing.
use Rattle.limits.specs.Monitor.{cans_of}
use Rattle.reasons.proofs.IndexLaws.{Told}
use Rattle.reasons.proofs.put_sets.Given as goal

abbrev pub invariant-loop-i : goal.invariant-loop-i
invariant-loop-i l = Told l.rule l.lows l.highs l.initial.out l.i (cans_of l.priors) l.earlier l.out
