-- `report::put_answer` meets its contract, by the answer of `read_text`. Assumes nothing.
use mathlib.Core.Path.{subst}
use native.Mathlib.Omega.{arith}
use Rattle.print.specs.Decimal.{refused_text}
use Rattle.print.specs.Written.{Filled}
use Rattle.print.proofs.AddedLaws.{added_as, filled_last}
use Rattle.report.proofs.AnswerLaws.{answer_refused}
use Rattle.report.proofs.put_answer.Goals as goal

pub returns-in-Err : goal.returns-in-Err
returns-in-Err c =
    let r = c.in-Err.refusal in
    added_as _ _ _ _ _ _ (answer_refused c.args.text.now _ _ c.in-Err.ensures.answer)
    (filled_last (omega arith) (subst (λ q. Filled 50 (refused_text q r.place) 0 c.add_refused-end.result c.args.out.now c.add_refused-end.new.out)
    c.from.ensures c.add_refused-end.ensures) c.add_reason.ensures)
