-- `numbers::fours::count_states` meets its contract. Assumes nothing.
use Rattle.numbers.proofs.FourLaws.{counted_odd, counted_even}
use Rattle.numbers.proofs.fours.count_states.Goals as goal

pub returns-then-states-eq0 : goal.returns-then-states-eq0
returns-then-states-eq0 c = counted_even c.args.states.now c.if-states-eq0.true

pub returns-else-states-eq0 : goal.returns-else-states-eq0
returns-else-states-eq0 c = counted_odd c.args.states.now c.if-states-eq0.false
