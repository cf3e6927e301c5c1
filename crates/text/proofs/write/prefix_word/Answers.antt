-- `text::write::prefix_word` meets its contract. Assumes nothing.
use mathlib.Core.Path.{sym, ap}
use Rattle.grammar.specs.Reading.{awaiting}
use Rattle.text.specs.Tokens.{prefix_of}
use Rattle.text.proofs.write.prefix_word.Goals as goal

pub returns-in-Not : goal.returns-in-Not
returns-in-Not c = ap (λ w. awaiting (prefix_of w)) (sym c.in-Not.is)

pub returns-in-Wprev : goal.returns-in-Wprev
returns-in-Wprev c = ap (λ w. awaiting (prefix_of w)) (sym c.in-Wprev.is)

pub returns-in-Prev : goal.returns-in-Prev
returns-in-Prev c = ap (λ w. awaiting (prefix_of w)) (sym c.in-Prev.is)

pub returns-in-Once : goal.returns-in-Once
returns-in-Once c = ap (λ w. awaiting (prefix_of w)) (sym c.in-Once.is)

pub returns-in-Sofar : goal.returns-in-Sofar
returns-in-Sofar c = ap (λ w. awaiting (prefix_of w)) (sym c.in-Sofar.is)
