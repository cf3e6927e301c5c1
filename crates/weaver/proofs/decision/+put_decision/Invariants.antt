-- `weaver::decision::put_decision` meets its contract: a mention of a shared node by its work bit, any other node by what it is. The loop goes
-- on to the right operand of an implies, and keeps: what is still to be written completes the code (`DecisionLaws.Completes`). Recursion into
-- the left operand, the node's number the measure. Assumes nothing.
use Prim.Native.Nat.{◌≤◌}
use Rattle.rule.specs.Nodes.{table_in}
use Rattle.facts.specs.FactSets.{facts_of}
use Rattle.weaver.specs.Laid.{Deciding}
use Rattle.weaver.proofs.DecisionLaws.{Completes}
use Rattle.weaver.proofs.decision.+put_decision.Given as goal

abbrev pub decreases-put_decision : goal.decreases-put_decision
decreases-put_decision g l = l.k

abbrev pub invariant-loop-by_kind : goal.invariant-loop-by_kind
invariant-loop-by_kind g l =
    Deciding l.rule.nodes.now l.rule.sizes.now l.rule.shared l.by_kind l.j l.base l.here l.on_true l.on_false (g.W.Word.numbers l.out) × (l.j ≤ l.k)
    × Completes g.W.Word.IS_WIDE (table_in l.rule.nodes.now) l.base l.on_true l.on_false l.own l.k l.place (facts_of l.initial.y) (g.W.Word.numbers l.initial.out) l.by_kind l.j l.here (facts_of l.y) (g.W.Word.numbers l.out)

abbrev pub decreases-loop-by_kind : goal.decreases-loop-by_kind
decreases-loop-by_kind g l = l.j
