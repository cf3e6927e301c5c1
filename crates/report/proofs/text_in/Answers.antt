-- `report::text_in` meets its contract: a newline, then a carriage return. Assumes nothing.
use mathlib.Core.Path.{ap, ◌∙◌}
use Rattle.report.specs.Compiled.{without_last, text_in}
use Rattle.report.proofs.text_in.Goals as goal

pub returns : goal.returns
unfolding text_in
returns c = c.without_last.ensures ∙ ap (without_last 13) c.without_last-line.ensures
