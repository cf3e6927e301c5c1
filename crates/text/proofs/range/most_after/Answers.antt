-- `text::range::most_after` meets its contract. Assumes nothing.
use mathlib.Core.Bool.{cond}
use mathlib.Core.Path.{sym, ap}
use borrow.Author.Tests.{eq-eqb, ne_eqb}
use Rattle.text.proofs.range.most_after.Goals as goal

pub returns-then-before-eq114 : goal.returns-then-before-eq114
returns-then-before-eq114 c = sym (ap (λ b. cond b 15 16383) (eq-eqb c.args.before 114 c.if-before-eq114.true))

pub returns-else-before-eq114 : goal.returns-else-before-eq114
returns-else-before-eq114 c = sym (ap (λ b. cond b 15 16383) (ne_eqb c.args.before 114 c.if-before-eq114.false))
