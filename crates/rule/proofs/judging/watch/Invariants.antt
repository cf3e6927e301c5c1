-- `rule::judging::watch` meets its contract. The loop keeps `Left`: what is left of the states tells what all of them do (`WatchLaws`). The
-- measure is the number of states left. Assumes nothing.
use Rattle.sets.specs.Sets.{set_of}
use Rattle.rule.specs.Nodes.{table_in}
use Rattle.rule.proofs.WatchLaws.{Left}
use Rattle.rule.proofs.judging.watch.Given as goal

abbrev pub invariant-loop-i : goal.invariant-loop-i
invariant-loop-i l = Left (table_in l.rule) l.history (set_of l.first) l.i (set_of l.priors)
