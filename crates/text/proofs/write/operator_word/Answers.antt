-- `text::write::operator_word` meets its contract. Assumes nothing.
use mathlib.Core.Path.{sym, ap}
use Rattle.grammar.specs.Reading.{with_left}
use Rattle.text.specs.Tokens.{operator_of}
use Rattle.text.proofs.write.operator_word.Goals as goal

pub returns-in-Since : goal.returns-in-Since
returns-in-Since c = ap (λ w. with_left (operator_of w)) (sym c.in-Since.is)

pub returns-in-And : goal.returns-in-And
returns-in-And c = ap (λ w. with_left (operator_of w)) (sym c.in-And.is)

pub returns-in-Or : goal.returns-in-Or
returns-in-Or c = ap (λ w. with_left (operator_of w)) (sym c.in-Or.is)

pub returns-in-Implies : goal.returns-in-Implies
returns-in-Implies c = ap (λ w. with_left (operator_of w)) (sym c.in-Implies.is)
