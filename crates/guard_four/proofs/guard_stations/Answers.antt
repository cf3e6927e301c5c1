-- `guard_four::guard_stations` meets its contract (`FourLaws` of crate numbers). Assumes nothing.
use Rattle.rule.specs.Nodes.{form_by}
use Rattle.numbers.proofs.FourLaws.{run_four, stations_unlent, stations_noted}
use Rattle.guard_four.proofs.guard_stations.Goals as goal

pub returns-then-numbers-lt3 : goal.returns-then-numbers-lt3
returns-then-numbers-lt3 g c =
    let a = c.args in
    stations_unlent (form_by g.W.Word.IS_WIDE) a.states.now _ _ _ _ a.budget a.allowance a.numbers.now c.if-numbers-lt3.true

pub note_run-requires : goal.note_run-requires
note_run-requires g c =
    let a = c.args in
    (c.if-numbers-lt3.false, run_four (form_by g.W.Word.IS_WIDE) a.states.now _ _ _ _ a.budget a.allowance a.numbers.now _ c.count_states.ensures _ _ _ _ c.run_listed-ran.ensures.answered)

pub returns : goal.returns
returns g c =
    let a = c.args in
    stations_noted (form_by g.W.Word.IS_WIDE) a.states.now _ _ _ _ a.budget a.allowance a.numbers.now _ c.count_states.ensures _ _ _ _ c.run_listed-ran.ensures.answered
    c.if-numbers-lt3.false _ _ _ c.note_run.ensures.result c.note_run.ensures.words (c.note_run.ensures.left _)
