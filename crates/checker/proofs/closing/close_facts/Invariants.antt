-- `checker::closing::close_facts` meets its contract: the loop keeps: the nodes below k are closed. Assumes nothing.
use mathlib.Core.Path.{◌≡◌}
use Rattle.spec.specs.Facts.{close_below}
use Rattle.rule.specs.Nodes.{table_in}
use Rattle.facts.specs.FactSets.{facts_of}
use Rattle.checker.proofs.closing.close_facts.Given as goal

abbrev pub invariant-loop-k : goal.invariant-loop-k
invariant-loop-k l = facts_of l.y ≡ close_below l.k (table_in l.rule) (facts_of l.initial.y)
