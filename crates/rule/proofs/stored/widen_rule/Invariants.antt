-- `rule::stored::widen_rule` meets its contract: the loop keeps that the first words have moved (`CopyLaws`). Assumes nothing.
use Rattle.moves.specs.Moves.{widen_node}
use Rattle.rule.proofs.CopyLaws.{Copied}
use Rattle.rule.proofs.stored.widen_rule.Given as goal

abbrev pub invariant-loop-k : goal.invariant-loop-k
invariant-loop-k l = Copied widen_node l.rule l.initial.out l.k l.out
