use Rattle.std.proofs.Common.{◌<◌, ◌≡◌, length}
use Rattle.cases_run.proofs.texts.digest_spoiled.Given as goal

abbrev pub invariant-loop-i : goal.invariant-loop-i
invariant-loop-i l = (l.d < 4294967291) × (length l.text ≡ length l.initial.text)
