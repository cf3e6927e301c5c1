-- `numbers::states::read_readiness` meets its contract. Assumes nothing.
use mathlib.Core.Path.{refl}
use Rattle.numbers.specs.States.{readiness_in}
use Rattle.numbers.proofs.states.read_readiness.Goals as goal

pub returns : goal.returns
unfolding readiness_in
returns c = refl
