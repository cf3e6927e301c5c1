-- `numbers::states::state_fits` meets its contract. Assumes nothing.
use mathlib.Core.Path.{ap}
use mathlib.Core.Bool.{Bool, ◌&&◌}
use lib.Dec.{leb}
use lib.ListN.{get_or}
use Rattle.numbers.specs.States.{state_fits}
use Rattle.numbers.proofs.states.state_fits.Goals as goal

pub returns : goal.returns
unfolding state_fits
returns c = ap (λ (b : Bool). b && leb (get_or c.args.state.now 21 0) 1) c.registers_fit.ensures
