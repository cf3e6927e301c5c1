-- `machine::running::run_from` meets its contract. The loop keeps: the line is there, and the run that is left of the budget from
-- here is the whole run. The measure is what is left of the budget. Assumes nothing.
use Prim.Native.Nat.{ℕ, ◌-◌, ◌/◌, ◌≤◌, ◌<◌}
use mathlib.Core.Path.{◌≡◌}
use mathlib.Core.List.{List}
use lib.ListN.{length}
use Rattle.spec.specs.Script.{Code}
use Rattle.spec.specs.Check.{code_of}
use Rattle.spec.specs.Machine.{run}
use Rattle.machine.specs.Machines.{machine_at}
use Rattle.machine.specs.Runs.{run_from}
use Rattle.script.specs.Lines.{lines_in}
use mathlib.Core.Bool.{Bool}
use Rattle.machine.proofs.running.run_from.Given as goal

abbrev pub code : (b : Bool) (script : List ℕ) → Code
code b script = code_of (lines_in b script)

abbrev pub invariant-loop-stop : goal.invariant-loop-stop
invariant-loop-stop g l =
    (l.core.line < length (g.W.Word.numbers l.script) / 8) × (l.steps ≤ l.budget) × (length l.history ≡ length l.initial.history)
    × (run (l.budget - l.steps) (code g.W.Word.IS_WIDE (g.W.Word.numbers l.script)) l.inputs l.steps (machine_at l.registers l.core l.history) ≡ run_from l.kept g.W.Word.IS_WIDE (g.W.Word.numbers l.script) l.inputs l.budget l.initial.history)

abbrev pub decreases-loop-stop : goal.decreases-loop-stop
decreases-loop-stop g l = l.budget - l.steps
