-- `rule::stored::widen_rule` meets its contract: the loop keeps that the first words have moved (`CopyLaws`). Assumes nothing.
use Rattle.moves.specs.Moves.{widen_node}
use Rattle.rule.proofs.CopyLaws.{copied_next}
use Rattle.rule.proofs.stored.widen_rule.Goals as goal

pub loop-k-preserved : goal.loop-k-preserved
loop-k-preserved c = copied_next widen_node _ _ _ _ _ c.requires c.loop-k-test.true c.widen_node.ensures c.loop-k.invariant
