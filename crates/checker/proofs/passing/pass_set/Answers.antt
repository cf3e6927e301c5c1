-- `checker::passing::pass_set` meets its contract: `PassLaws.set_is`. Assumes nothing.
use mathlib.Core.Path.{refl, ap, ◌∙◌}
use Rattle.spec.specs.Facts.{value_is}
use Rattle.sets.specs.Sets.{adding}
use Rattle.facts.specs.FactSets.{facts_of}
use Rattle.rule.specs.Nodes.{table_in}
use Rattle.checker.proofs.PassLaws.{set_is}
use Rattle.checker.proofs.passing.pass_set.Goals as goal

pub returns : goal.returns
returns c = let a = c.args in
    set_is (facts_of a.x) a.k c.requires (table_in a.rule.now) a.bit _ _ _
    (c.knows_value.ensures ∙ ap (facts_of a.x (value_is a.bit)) c.next_of-next.ensures) c.knows_prior.ensures
    refl refl refl refl refl
    (c.with_if.ensures ∙ ap (λ s. adding s a.k c.knows_value.result) c.without.ensures)
    (c.with_if-2.ensures ∙ ap (λ s. adding s a.k c.knows_prior.result) c.without-2.ensures)
