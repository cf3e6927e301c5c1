-- `weaver::block::put_keeps` meets its contract: the loop keeps: the 12s of the nodes below k are written
-- (`SeriesLaws.Filled`), and `done` has the past nodes among them. Assumes nothing.
use Rattle.facts.proofs.GroupLaws.{Gathered}
use Rattle.rule.specs.Nodes.{table_in}
use Rattle.weaver.proofs.BlockLaws.{keeping_series}
use Rattle.weaver.proofs.SeriesLaws.{Filled}
use Rattle.weaver.specs.Parts.{past_nodes}
use Rattle.weaver.proofs.block.put_keeps.Given as goal

abbrev pub invariant-loop-k : goal.invariant-loop-k
invariant-loop-k g l = Filled (keeping_series (table_in l.rule.nodes.now)) g.W.Word.IS_WIDE l.at (g.W.Word.numbers l.initial.out) (g.W.Word.numbers l.out) l.n l.k × Gathered (past_nodes (table_in l.rule.nodes.now)) l.k l.done
