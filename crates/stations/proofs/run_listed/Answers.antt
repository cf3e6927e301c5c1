-- `stations::run_listed` meets its contract (`AnswerLaws`, `SafeLaws`). Assumes nothing.
use mathlib.Core.Path.{ap}
use Rattle.turns.specs.Stations.{four}
use Rattle.rule.specs.Nodes.{form_by}
use Rattle.machine.specs.declared.Machine.{Machine}
use Rattle.stations.specs.Views.{given_of, no_states}
use Rattle.stations.proofs.AnswerLaws.{counted_refused, counted_ran}
use Rattle.stations.proofs.SafeLaws.{four_safe}
use Rattle.stations.proofs.run_listed.Goals as goal

pub returns-then-count-ne4 : goal.returns-then-count-ne4
returns-then-count-ne4 g c =
    let a = c.args in
    let xs = four a.station0 a.station1 a.station2 a.station3 in
    let lent = four a.history0.now a.history1.now a.history2.now a.history3.now in
    let s = given_of g.W.Word.numbers xs lent in
    let e = counted_refused (form_by g.W.Word.IS_WIDE) s a.budget a.allowance lent a.count c.if-count-ne4.true _ c.no_four.ensures no_states _
    (ap (λ (m : Machine). four m m m m) c.no_state-none.ensures) in
    record { answered = e; safe = four_safe (form_by g.W.Word.IS_WIDE) s lent a.budget a.allowance a.count _ lent _ no_states e }

pub returns : goal.returns
returns g c =
    let a = c.args in
    let xs = four a.station0 a.station1 a.station2 a.station3 in
    let lent = four a.history0.now a.history1.now a.history2.now a.history3.now in
    let s = given_of g.W.Word.numbers xs lent in
    let e = counted_ran (form_by g.W.Word.IS_WIDE) s a.budget a.allowance lent a.count c.if-count-ne4.false _ _ no_states _ _
    (ap (λ (m : Machine). four m m m m) c.no_state-none.ensures) c.run_all.ensures in
    record { answered = e; safe = four_safe (form_by g.W.Word.IS_WIDE) s lent a.budget a.allowance a.count _ _ _ no_states e }
