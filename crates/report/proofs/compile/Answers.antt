-- `report::compile` meets its contract. Assumes nothing.
use Rattle.print.proofs.AddedLaws.{at_start}
use Rattle.report.proofs.AnswerLaws.{compiled_text_lem, compiled_long}
use Rattle.report.proofs.compile.Goals as goal

pub returns-then-text-gt65000 : goal.returns-then-text-gt65000
returns-then-text-gt65000 c =
    at_start _ _ _ _ _ (compiled_long c.args.bytes.now c.text_in-text.result.now c.text_in-text.ensures c.if-text-gt65000.true) c.add_bytes.ensures

pub returns : goal.returns
returns c =
    at_start _ _ _ _ _ (compiled_text_lem c.args.bytes.now c.text_in-text.result.now c.text_in-text.ensures c.if-text-gt65000.false) c.put_answer.ensures
