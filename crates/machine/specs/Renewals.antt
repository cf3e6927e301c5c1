-- How readiness is worked out, and from what an instruction has it worked out anew (`src/ready.rt`).
use Rattle.std.specs.Prelude as prelude
use Rattle.std.specs.Prelude.{Bool, true, false, List, ℕ, Some, None}
use Rattle.spec.specs.Rule.{Table}
use Rattle.spec.specs.Ready.{Readiness, worked_out}
use Rattle.sets.specs.Sets.{set_of}

-- worked out anew from these priors, if from any
abbrev pub renewed : prelude.Option ℕ → Table → (registers : List ℕ) → Readiness → Readiness
renewed None t s x = x
renewed (Some priors) t s x = worked_out t s (set_of priors) x.tested
