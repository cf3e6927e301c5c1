-- `weaver::lines::put_lines` meets its contract: the loop keeps: the lines of the first l bare lines are written
-- (`SeriesLaws.Filled`); the next go into the rest of the output (`PutLaws.back_at`). Assumes nothing.
use Rattle.spec.specs.Script.{bare_code}
use Rattle.rule.specs.Nodes.{table_in}
use Rattle.weaver.proofs.LinesLaws.{weaving_series}
use Rattle.weaver.proofs.SeriesLaws.{Filled}
use Rattle.weaver.proofs.lines.put_lines.Given as goal

abbrev pub invariant-loop-l : goal.invariant-loop-l
invariant-loop-l g l = Filled (weaving_series (table_in l.rule.nodes.now) (bare_code l.bare)) g.W.Word.IS_WIDE 0 (g.W.Word.numbers l.initial.out) (g.W.Word.numbers l.out) l.n l.l
