-- `limits::answers::put_answers` meets its contract (`AnswerLaws`, `MonitorLaws`); before index i the output has the answers below i, and the priors are those after them. Assumes nothing.
use Rattle.limits.proofs.AnswerLaws.{Worked}
use Rattle.limits.specs.Monitor.{cans_of}
use Rattle.limits.proofs.answers.put_answers.Given as goal

abbrev pub invariant-loop-i : goal.invariant-loop-i
invariant-loop-i l = Worked l.rule l.lows l.highs l.initial.out l.i (cans_of l.priors) l.out
