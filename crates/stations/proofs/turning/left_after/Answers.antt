-- `stations::turning::left_after` meets its contract (`TurnLaws`). Assumes nothing.
use mathlib.Core.Path.{◌∙◌}
use Rattle.stations.proofs.TurnLaws.{left_present, left_other}
use Rattle.stations.proofs.turning.left_after.Goals as goal

pub returns-then-is_present : goal.returns-then-is_present
returns-then-is_present c = c.saturating_sub.ensures ∙ left_present _ c.args.left _ c.is_present.ensures c.if-is_present.true

pub returns-else-is_present : goal.returns-else-is_present
returns-else-is_present c = left_other _ c.args.left _ c.is_present.ensures c.if-is_present.false
