-- `report::expected::add_items` meets its contract: nothing was added where the end is the start. Assumes nothing.
use Rattle.report.proofs.ExpectedLaws.{expected_none, expected_some}
use Rattle.report.proofs.expected.add_items.Goals as goal

pub returns-then-end-at : goal.returns-then-end-at
returns-then-end-at c =
    expected_none c.args.text.now c.args.place c.letters_before-n.result c.letters_before-n.ensures.1 c.args.at _ _ _
    c.add_candidates-end.ensures _ _ c.if-end-at.true
    c.requires.1 c.add_candidates.ensures

pub returns : goal.returns
returns c =
    expected_some c.args.text.now c.args.place c.letters_before-n.result c.letters_before-n.ensures.1 c.args.at _ _ _
    c.add_candidates-end.ensures c.if-end-at.false
