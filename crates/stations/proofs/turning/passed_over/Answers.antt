-- `stations::turning::passed_over` meets its contract: the two tests. Assumes nothing.
use mathlib.Core.Path.{ap₂}
use mathlib.Core.Bool.{◌&&◌, ◌||◌}
use lib.Dec.{eqb}
use Rattle.turns.specs.Stations.{passed_at}
use Rattle.stations.proofs.turning.passed_over.Goals as goal

pub returns : goal.returns
unfolding passed_at
returns c = ap₂ (λ u v. u || v && eqb c.args.left 0) c.is_stopped.ensures c.is_present.ensures
