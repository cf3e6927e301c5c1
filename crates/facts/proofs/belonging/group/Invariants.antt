-- `facts::belonging::group` meets its contract: the loop keeps: the sets have the nodes below k (`GroupLaws.Gathered`). Assumes nothing.
use Rattle.rule.specs.Nodes.{table_in}
use lib.ListN.{length}
use lib.Dec.{ltb}
use Rattle.spec.specs.Rule.{node_at, is_since, is_weak_previous}
use Rattle.facts.proofs.GroupLaws.{Gathered}
use Rattle.facts.proofs.belonging.group.Given as goal

abbrev pub invariant-loop-k : goal.invariant-loop-k
invariant-loop-k l = record {
  nodes : Gathered (λ j. ltb j (length (table_in l.rule))) l.k l.nodes;
  sinces : Gathered (λ j. is_since (node_at (table_in l.rule) j)) l.k l.sinces;
  weak : Gathered (λ j. is_weak_previous (node_at (table_in l.rule) j)) l.k l.weak;
}
