-- `text::scan::may_end` meets its contract. Assumes nothing.
use mathlib.Core.Path.{sym, ap}
use Rattle.grammar.specs.Place.{may_end_at}
use Rattle.text.specs.Places.{want_of}
use Rattle.text.proofs.scan.may_end.Goals as goal

pub returns-in-Operator : goal.returns-in-Operator
returns-in-Operator c = ap (λ w. may_end_at (want_of w) c.args.s.depth) (sym c.in-Operator.is)
