use Rattle.std.proofs.Common.{◌<◌}
use Rattle.cases_run.proofs.digests.digest.Given as goal

abbrev pub invariant-loop-word : goal.invariant-loop-word
invariant-loop-word g l = l.d < 4294967291
