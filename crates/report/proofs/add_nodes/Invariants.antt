-- `report::add_nodes` meets its contract: the nodes passed are written, one after another. Assumes nothing.
use Prim.Native.Nat.{◌*◌}
use Rattle.print.specs.Written.{Filled, each_of}
use Rattle.report.proofs.NodeLaws.{node_at}
use Rattle.report.proofs.add_nodes.Given as goal

abbrev pub invariant-loop-word : goal.invariant-loop-word
invariant-loop-word l = Filled (9 * l.word-index) (each_of (node_at l.words) l.word-index) 0 l.end l.initial.out l.out
