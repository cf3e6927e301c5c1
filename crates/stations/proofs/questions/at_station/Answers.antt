-- `stations::questions::at_station` meets its contract: a no is moved to station k (`AskLaws.moved`). Assumes nothing.
use Rattle.std.proofs.Common.{rules, ◌≡◌}
use Rattle.stations.proofs.AskLaws.{moved}
use Rattle.stations.proofs.questions.at_station.Goals as goal

pub returns : goal.returns
returns c =
    moved c.args.k c.args.answer c.map_err.result _
    (λ e d p. let z : d ≡ record { question = e.question; place = c.args.k } = search rules in z) c.map_err.ensures.cases
