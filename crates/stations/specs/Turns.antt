-- One station's turn, on what it needs of the four.
use Rattle.std.specs.Prelude.{◌≡◌, Bool, cond, not, List, ℕ, ◌+◌}
use Rattle.spec.specs.Rule.{Form}
use Rattle.spec.specs.Ready.{MachineState}
use Rattle.turns.specs.Stations.{Station, passed_over, left_after, station_step}
use Rattle.machine.specs.Machines.{state_of}
use Rattle.stations.specs.declared.Counts.{Counts}
use Rattle.stations.specs.declared.turning.Turn.{Turn}

-- what station x makes of its turn, with `rest` left of the allowance: it moves, or it stays as it is
pub record Taken (form : Form) (x : Station) (rest : ℕ) (y : MachineState) (r : Turn) (history : List ℕ) : Type 0 where
  pub moved : r.moved ≡ not (passed_over form x rest y.machine)
  pub machine : state_of r.machine history ≡ cond (passed_over form x rest y.machine) y (station_step form x y)
  pub left : r.left ≡ cond (passed_over form x rest y.machine) rest (left_after form x rest y.machine)

-- what is counted after a turn
abbrev pub counted : Counts → (left : ℕ) (moved : Bool) → Counts
counted c left moved = record { left = left; passes = cond moved 0 (c.passes + 1); turns = c.turns + 1 }
