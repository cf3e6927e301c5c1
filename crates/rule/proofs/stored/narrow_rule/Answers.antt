-- `rule::stored::narrow_rule` meets its contract: the loop keeps that the first words have moved (`CopyLaws`). Assumes nothing.
use Rattle.moves.specs.Moves.{narrow_node}
use Rattle.rule.proofs.CopyLaws.{copied_next}
use Rattle.rule.proofs.stored.narrow_rule.Goals as goal

pub loop-k-preserved : goal.loop-k-preserved
loop-k-preserved c = copied_next narrow_node _ _ _ _ _ c.requires.0 c.loop-k-test.true c.narrow_node.ensures c.loop-k.invariant
