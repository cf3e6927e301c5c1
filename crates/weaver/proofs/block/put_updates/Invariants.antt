-- `weaver::block::put_updates` meets its contract: the loop keeps: the code of the nodes below k is written
-- (`SeriesLaws.Filled`), and `done` has the nodes with a work bit among them. Assumes nothing.
use Rattle.spec.specs.Rule.{has_work}
use Rattle.facts.proofs.GroupLaws.{Gathered}
use Rattle.rule.specs.Nodes.{table_in}
use Rattle.weaver.proofs.BlockLaws.{updating_series}
use Rattle.weaver.proofs.SeriesLaws.{Filled}
use Rattle.weaver.proofs.block.put_updates.Given as goal

abbrev pub invariant-loop-k : goal.invariant-loop-k
invariant-loop-k g l = Filled (updating_series (table_in l.rule.nodes.now) l.place) g.W.Word.IS_WIDE 0 (g.W.Word.numbers l.initial.out) (g.W.Word.numbers l.out) l.n l.k × Gathered (has_work (table_in l.rule.nodes.now)) l.k l.done
