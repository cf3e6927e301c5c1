-- `numbers::fours::put_machine_at` meets its contract (`FourLaws`). Assumes nothing.
use Rattle.machine.specs.Machines.{state_of}
use Rattle.numbers.specs.States.{state_words}
use Rattle.numbers.proofs.FourLaws.{part_put}
use Rattle.numbers.proofs.fours.put_machine_at.Goals as goal

pub returns : goal.returns
returns c = λ h.
    let a = c.args in
    part_put a.at a.states.now (state_words (state_of a.m h)) _ c.requires (c.put_machine.ensures h)
