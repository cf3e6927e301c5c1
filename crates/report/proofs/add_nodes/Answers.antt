-- `report::add_nodes` meets its contract: the nodes passed are written, one after another. Assumes nothing.
use native.Mathlib.Omega.{arith}
use Rattle.print.proofs.AddedLaws.{added_as, filled_room, each_start, each_next}
use Rattle.report.proofs.NodeLaws.{node_at, nodes_all}
use Rattle.report.proofs.add_nodes.Goals as goal

pub loop-word-init : goal.loop-word-init
loop-word-init c = each_start (node_at c.args.words.now) 9 0 c.args.out.now

pub add_node-end-requires : goal.add_node-end-requires
add_node-end-requires c = filled_room 9 (omega arith) c.loop-word.invariant

pub loop-word-preserved : goal.loop-word-preserved
loop-word-preserved c =
    each_next (node_at c.args.words.now) 9 0 c.args.out.now c.loop-word.word-index c.loop-word.end c.add_node-end.result c.loop-word.out
    c.add_node-end.new.out (omega arith) c.loop-word.invariant c.add_node-end.ensures

pub returns : goal.returns
returns c = added_as _ _ _ _ _ _ (nodes_all c.args.words.now c.loop-word.word-index (omega arith)) c.loop-word.invariant.added
