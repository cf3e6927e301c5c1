-- `stations::run_all` meets its contract: each return is one of the laws of `AnswerLaws`. Assumes nothing.
use mathlib.Core.Path.{sym, ap, ◌∙◌}
use Rattle.turns.specs.Stations.{four}
use Rattle.rule.specs.Answers.{answer_of}
use Rattle.stations.proofs.AnswerLaws.{all_refused, all_ran}
use Rattle.stations.proofs.run_all.Goals as goal

pub returns-in-Err : goal.returns-in-Err
returns-in-Err g c =
    let lent = four c.args.history0.now c.args.history1.now c.args.history2.now c.args.history3.now in
    all_refused _ _ _ _ _ lent _ (sym (ap answer_of c.in-Err.is) ∙ c.ask_all.ensures lent)

pub returns : goal.returns
returns g c =
    let lent = four c.args.history0.now c.args.history1.now c.args.history2.now c.args.history3.now in
    all_ran _ _ _ _ _ lent (sym (ap answer_of c.in_default.is) ∙ c.ask_all.ensures lent) c.run_turns-p.result _ c.run_turns-p.ensures
