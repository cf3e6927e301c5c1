-- `text::scan::read_number` meets its contract. Assumes nothing.
use Rattle.text.proofs.OverLaws.{number_over, no_number}
use Rattle.text.proofs.scan.read_number.Goals as goal

pub returns-then-next-at : goal.returns-then-next-at
returns-then-next-at c =
    let known = c.args in
    no_number known.text.now known.at c.requires.0 known.touching known.depth _ _ c.digits_at-digits.ensures.value
    c.digits_at-digits.ensures.next c.requires.1 c.if-next-at.true

pub returns : goal.returns
returns c =
    let known = c.args in
    number_over known.text.now known.at c.requires.0 known.touching known.depth _ _ c.digits_at-digits.ensures.value
    c.digits_at-digits.ensures.next c.if-next-at.false
