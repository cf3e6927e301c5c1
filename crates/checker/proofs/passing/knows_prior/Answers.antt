-- `checker::passing::knows_prior` meets its contract: by the bit. Assumes nothing.
use mathlib.Core.Path.{sym, ap, ◌∙◌}
use Rattle.spec.specs.Facts.{prior_is}
use Rattle.facts.specs.FactSets.{facts_of}
use Rattle.checker.proofs.passing.knows_prior.Goals as goal

pub returns-then-bit : goal.returns-then-bit
returns-then-bit c = c.has.ensures ∙ ap (λ b. facts_of c.args.x (prior_is b) c.args.k) (sym c.if-bit.true)

pub returns-else-bit : goal.returns-else-bit
returns-else-bit c = c.has-else-bit.ensures ∙ ap (λ b. facts_of c.args.x (prior_is b) c.args.k) (sym c.if-bit.false)
