-- `rule::stored::narrow_rule` meets its contract: the loop keeps that the first words have moved (`CopyLaws`). Assumes nothing.
use Rattle.moves.specs.Moves.{narrow_node}
use Rattle.rule.proofs.CopyLaws.{Copied}
use Rattle.rule.proofs.stored.narrow_rule.Given as goal

abbrev pub invariant-loop-k : goal.invariant-loop-k
invariant-loop-k l = Copied narrow_node l.rule l.initial.out l.k l.out
