-- `checker::passing::learn_kept` meets its contract: `PassLaws.told_is`. Assumes nothing.
use mathlib.Core.Path.{ap, ◌∙◌}
use Rattle.spec.specs.Facts.{prior_is, ◌∪◌, one, provided, learned}
use Rattle.facts.specs.FactSets.{facts_of}
use Rattle.checker.proofs.PassLaws.{told_is}
use Rattle.checker.proofs.passing.learn_kept.Goals as goal

pub returns : goal.returns
unfolding learned
returns c = let a = c.args in
    λ t. c.learn_prior.ensures ∙ told_is (facts_of a.x) prior_is c.has-known.result a.taken a.k
    ∙ ap (λ b. facts_of a.x ∪ provided b (one (prior_is a.taken) a.k)) c.has-known.ensures
