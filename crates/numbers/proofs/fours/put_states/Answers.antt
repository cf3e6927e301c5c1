-- `numbers::fours::put_states` meets its contract (`FourLaws`). Assumes nothing.
use Rattle.stations.specs.Views.{machines_of, states_of}
use Rattle.numbers.specs.States.{state_words}
use Rattle.numbers.proofs.FourLaws.{four_put}
use Rattle.numbers.proofs.fours.put_states.Goals as goal

pub returns : goal.returns
returns c = λ hs.
    let x = machines_of (states_of c.args.ran) hs in
    four_put c.args.states.now c.put_machine_at.new.states c.put_machine_at-2.new.states c.put_machine_at-3.new.states c.put_machine_at-4.new.states
    (state_words x.first) (state_words x.second) (state_words x.third) (state_words x.fourth) c.requires
    (c.put_machine_at.ensures hs.first) c.put_machine_at.auto.states (c.put_machine_at-2.ensures hs.second) c.put_machine_at-2.auto.states
    (c.put_machine_at-3.ensures hs.third) c.put_machine_at-3.auto.states (c.put_machine_at-4.ensures hs.fourth)
