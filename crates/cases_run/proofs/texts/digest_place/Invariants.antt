use Rattle.std.proofs.Common.{◌<◌, ◌≡◌, length}
use Rattle.cases_run.proofs.texts.digest_place.Given as goal

abbrev pub invariant-loop-b : goal.invariant-loop-b
invariant-loop-b l = (l.d < 4294967291) × (length l.text ≡ length l.initial.text)
