-- `stations::running::run_turns` meets its contract. The loop keeps: from here, what is left of the budget makes the whole run
-- (`RunningLaws.InRun`), and the lent histories keep their lengths. The measure is what is left of the budget. Each branch is the turn of
-- one station (`RunningLaws.turned`). Assumes nothing.
use mathlib.Core.Path.{◌≡◌}
use Prim.Native.Nat.{◌-◌}
use lib.ListN.{length}
use Rattle.turns.specs.Stations.{four}
use Rattle.rule.specs.Nodes.{form_by}
use Rattle.machine.specs.declared.Machine.{Machine}
use Rattle.stations.specs.declared.Counts.{Counts}
use Rattle.stations.specs.declared.Progress.{Progress}
use Rattle.stations.specs.Views.{given_of}
use Rattle.stations.proofs.RunningLaws.{InRun}
use Rattle.stations.proofs.running.run_turns.Given as goal

abbrev pub progress : (first second third fourth : Machine) → Counts → Progress
progress a b c d n = record { first = a; second = b; third = c; fourth = d; counts = n }

abbrev pub invariant-loop-counts : goal.invariant-loop-counts
invariant-loop-counts g l =
    (length l.history0 ≡ length l.initial.history0) × (length l.history1 ≡ length l.initial.history1) × (length l.history2 ≡ length l.initial.history2) × (length l.history3 ≡ length l.initial.history3)
    × InRun (form_by g.W.Word.IS_WIDE) l.budget (given_of g.W.Word.numbers (four l.station0 l.station1 l.station2 l.station3)
    (four l.initial.history0 l.initial.history1 l.initial.history2 l.initial.history3)) l.allowance (progress l.first l.second l.third l.fourth l.counts)
    (four l.history0 l.history1 l.history2 l.history3)

abbrev pub decreases-loop-counts : goal.decreases-loop-counts
decreases-loop-counts g l = l.budget - l.counts.turns
