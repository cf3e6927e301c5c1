-- `checker::passing::test_nodes` meets its contract: the loop keeps: the set has the nodes below k (`GroupLaws.Gathered`). Assumes nothing.
use Rattle.facts.proofs.GroupLaws.{Gathered}
use Rattle.rule.specs.Nodes.{test_of, table_in}
use Rattle.spec.specs.Rule.{node_at}
use Rattle.spec.specs.Facts.{is_test}
use Rattle.checker.proofs.passing.test_nodes.Given as goal

abbrev pub invariant-loop-k : goal.invariant-loop-k
invariant-loop-k l = Gathered (λ j. is_test (test_of l.test l.register l.constant) (node_at (table_in l.rule) j)) l.k l.s
