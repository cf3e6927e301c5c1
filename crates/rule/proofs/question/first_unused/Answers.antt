-- `rule::question::first_unused` meets its contract: the first node that is missing is the lowest failing place (`QuestionLaws`). Assumes nothing.
use mathlib.Core.Path.{sym}
use native.Mathlib.Omega.{arith}
use Rattle.spec.proofs.QuestionLaws.{scanned_up, scan_no, ask_in}
use Rattle.rule.specs.Tally.{tallies_of}
use Rattle.rule.proofs.question.first_unused.Goals as goal

pub returns-then-k-count : goal.returns-then-k-count
returns-then-k-count c =
    let l = c.if-k-count.true in
    let missing = c.first_missing-k.ensures in
    let once = (tallies_of c.args.s).once in
    scan_no 4 _ once _ l missing.is_missing (scanned_up once _ _ (omega arith) missing.all_before)

pub returns : goal.returns
returns c =
    let g = c.if-k-count.false in
    sym (ask_in 4 _ (tallies_of c.args.s).once (λ j h. c.first_missing-k.ensures.all_before j (omega arith)))
