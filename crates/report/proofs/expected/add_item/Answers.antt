-- `report::expected::add_item` meets its contract. Assumes nothing.
use mathlib.Core.Path.{sym, ◌∙◌}
use native.Mathlib.Omega.{arith}
use Rattle.print.proofs.AddedLaws.{filled_as, filled_then}
use Rattle.report.proofs.ExpectedLaws.{item_stands, item_not}
use Rattle.report.proofs.expected.add_item.Goals as goal

pub returns-then-is_begun : goal.returns-then-is_begun
returns-then-is_begun c =
    item_stands _ c.args.shown.now (sym
    c.is_begun.ensures ∙ c.if-is_begun.true)
    (filled_then (omega arith) (filled_as 1 (omega arith) c.add_bytes-end.ensures) (filled_as 8
    c.requires.2 c.add_bytes.ensures))

pub returns : goal.returns
returns c =
    item_not _ c.args.shown.now c.args.at c.args.out.now (sym c.is_begun.ensures ∙ c.if-is_begun.false)
