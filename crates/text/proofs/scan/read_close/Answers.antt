-- `text::scan::read_close` meets its contract. Assumes nothing.
use mathlib.Core.Path.{sym, ap, ◌∙◌}
use Rattle.text.specs.Places.{close_at}
use Rattle.text.proofs.OverLaws.{close_some}
use Rattle.text.proofs.scan.read_close.Goals as goal

pub returns-then-depth-eq0 : goal.returns-then-depth-eq0
returns-then-depth-eq0 c = sym (ap (λ d. close_at d c.args.at) c.if-depth-eq0.true)

pub returns : goal.returns
returns c = c.one_byte.ensures ∙ close_some c.args.depth c.args.at c.if-depth-eq0.false
