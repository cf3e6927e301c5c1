-- `checker::passing::pass_keep` meets its contract: `PassLaws.keep_is`. Assumes nothing.
use mathlib.Core.Path.{refl, ap, ◌∙◌}
use Rattle.sets.specs.Sets.{adding}
use Rattle.facts.specs.FactSets.{facts_of}
use Rattle.checker.proofs.PassLaws.{keep_is}
use Rattle.checker.proofs.passing.pass_keep.Goals as goal

pub returns : goal.returns
returns c = let a = c.args in
    λ t. keep_is (facts_of a.x) a.k c.requires t _ _ c.has.ensures
    refl refl refl refl (c.with_if.ensures ∙ ap (λ s. adding s a.k c.has.result) c.without.ensures) refl refl
