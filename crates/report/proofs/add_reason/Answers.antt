-- `report::add_reason` meets its contract, by question. Assumes nothing.
use mathlib.Core.Path.{ap}
use native.Mathlib.Omega.{arith}
use Rattle.rule.specs.Answers.{number_of}
use Rattle.print.proofs.AddedLaws.{added_as, filled_then, filled_last}
use Rattle.report.proofs.AnswerLaws.{reason_grammar, reason_range}
use Rattle.report.proofs.add_reason.Goals as goal

pub returns-in-TextGrammar : goal.returns-in-TextGrammar
returns-in-TextGrammar c =
    added_as _ _ _ _ _ _ (reason_grammar c.args.text.now (number_of c.args.refusal.question) c.args.refusal.place (ap number_of c.in-TextGrammar.is))
    (filled_then (omega arith) c.add_mark-end.ensures c.add_expected.ensures).added

pub returns-in-TextRange : goal.returns-in-TextRange
returns-in-TextRange c =
    added_as _ _ _ _ _ _ (reason_range c.args.text.now (number_of c.args.refusal.question) c.args.refusal.place (ap number_of c.in-TextRange.is))
    (filled_last (omega arith) c.add_mark-end-in-TextRange.ensures c.add_bytes.ensures)
