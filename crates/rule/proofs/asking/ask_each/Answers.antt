-- `rule::asking::ask_each` meets its contract: the loop is a scan for the lowest failing place (`QuestionLaws`). Assumes nothing.
use Rattle.std.proofs.Common.{arith, true, false}
use Rattle.spec.proofs.QuestionLaws.{scanned_up, scan_no, scan_yes}
use Rattle.rule.specs.Answers.{number_of}
use Rattle.rule.proofs.asking.ask_each.Goals as goal

pub returns-then-not-passes : goal.returns-then-not-passes
returns-then-not-passes g c = λ ok h.
    scan_no (number_of c.args.question) c.args.count ok c.loop-place.place c.loop-place-test.true (h c.loop-place.place false c.loop-place-test.true c.if-not-passes.ensures)
    (scanned_up ok c.args.count c.loop-place.place (omega arith) (λ k l. h k true (omega arith) (c.loop-place.invariant k l)))

pub returns : goal.returns
returns g c = λ ok h.
    scan_yes (number_of c.args.question) c.args.count ok c.args.count (omega arith)
    (scanned_up ok c.args.count c.args.count (omega arith) (λ k l. h k true l (c.loop-place.invariant k (omega arith))))
