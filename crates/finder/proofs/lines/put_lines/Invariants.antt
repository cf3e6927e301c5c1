-- `finder::lines::put_lines` meets its contract: the loop keeps: the first l lines are written and their facts counted (`FoundLaws.Writing`). Assumes nothing.
use Rattle.finder.proofs.FoundLaws.{Writing}
use Rattle.finder.proofs.lines.put_lines.Given as goal

abbrev pub invariant-loop-l : goal.invariant-loop-l
invariant-loop-l g l = Writing g.W.Word.IS_WIDE l.code l.notes (g.W.Word.numbers l.initial.out) (g.W.Word.numbers l.out) l.total l.l
