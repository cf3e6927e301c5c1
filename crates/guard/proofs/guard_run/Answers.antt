-- `guard::guard_run` meets its contract. Assumes nothing.
use mathlib.Core.Path.{ap, ◌∙◌}
use mathlib.Core.List.{◌++◌}
use lib.ListN.{drop}
use Rattle.spec.specs.Questions.{Answer}
use Rattle.rule.specs.Nodes.{form_by}
use Rattle.spec.specs.Machine.{Ended, running, Report, report_of, history_after}
use Rattle.numbers.specs.Numbers.{number_of, report_words}
use Rattle.numbers.proofs.NoteLaws.{noted, unlent, room, no_room, report_number}
use Rattle.guard.proofs.guard_run.Goals as goal

pub returns-then-numbers-lt22 : goal.returns-then-numbers-lt22
returns-then-numbers-lt22 g c =
    let a = c.args in
    let x = running (form_by g.W.Word.IS_WIDE) (g.W.Word.numbers a.rule.now) (g.W.Word.numbers a.script.now) a.inputs.now a.budget a.history.now in
    let (number, words) = unlent 22 (λ (y : Answer Ended). report_words (report_of y)) a.numbers.now x c.if-numbers-lt22.true in
    record { result = number; words = words; left = no_room 22 a.numbers.now c.if-numbers-lt22.true (history_after x a.history.now) a.history.now }

pub returns : goal.returns
returns g c =
    let a = c.args in
    let x = running (form_by g.W.Word.IS_WIDE) (g.W.Word.numbers a.rule.now) (g.W.Word.numbers a.script.now) a.inputs.now a.budget a.history.now in
    let h = c.if-numbers-lt22.false in
    let report = c.run.ensures.report in
    let (number, words) = noted 22 (λ (y : Answer Ended). report_words (report_of y)) a.numbers.now x x (λ i. x) h _ (c.note_report.ensures.result ∙ ap (λ (r : Report). number_of r.stop) report ∙ report_number x) _ (c.note_report.ensures.words ∙ ap (λ (r : Report). report_words r ++ drop 22 a.numbers.now) report) in
    record { result = number; words = words; left = c.run.ensures.left ∙ room 22 a.numbers.now h (history_after x a.history.now) a.history.now }
