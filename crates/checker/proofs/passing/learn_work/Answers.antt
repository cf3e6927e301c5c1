-- `checker::passing::learn_work` meets its contract: `PassLaws.told_is` twice. Assumes nothing.
use mathlib.Core.Path.{ap₂, ◌∙◌}
use mathlib.Core.Bool.{Bool}
use Prim.Native.Nat.{ℕ}
use Rattle.spec.specs.Facts.{value_is, prior_is, Facts, ◌∪◌, one, provided, learned}
use Rattle.facts.specs.FactSets.{facts_of}
use Rattle.checker.proofs.PassLaws.{told_is, told_both, next_small}
use Rattle.checker.proofs.passing.learn_work.Goals as goal

pub learn_value-y-requires : goal.learn_value-y-requires
learn_value-y-requires c = let a = c.args in rw c.next_of-next.ensures (next_small a.rule.now a.k c.requires)

pub returns : goal.returns
unfolding learned
returns c = let a = c.args in
    let F = facts_of a.x in
    let value : Bool → ℕ → Facts = λ b n. F ∪ provided b (one (value_is a.taken) n) in
    let prior : Bool → Facts = λ b. provided b (one (prior_is a.taken) a.k) in
    let known = c.learn_value-y.ensures ∙ told_is F value_is c.has-next_known.result a.taken c.next_of-next.result
    ∙ ap₂ value c.has-next_known.ensures c.next_of-next.ensures in
    c.learn_prior.ensures ∙ told_is _ prior_is c.has-prior_known.result a.taken a.k
    ∙ ap₂ (λ (Y : Facts) (b : Bool). Y ∪ prior b) known c.has-prior_known.ensures ∙ told_both F _ _
