-- `limits::monitor::node_can` meets its contract (`MonitorLaws`). Assumes nothing.
use mathlib.Core.Path.{refl, sym, ap, ap₂, ◌∙◌}
use Rattle.rule.specs.Nodes.{node_read}
use Rattle.limits.proofs.MonitorLaws.{both_sides}
use Rattle.limits.specs.Monitor.{implies_can, since_can, cans_of, node_can}
use Rattle.limits.proofs.monitor.node_can.Goals as goal

pub returns-in-False : goal.returns-in-False
unfolding node_can
returns-in-False c = let a = c.args in both_sides refl refl ∙ sym (ap (λ y. node_can (node_read y) a.k a.low.now a.high.now (cans_of a.values) (cans_of a.priors)) c.in-False.is)

pub returns-in-Equal : goal.returns-in-Equal
unfolding node_can
returns-in-Equal c = let a = c.args in c.equal_can.ensures ∙ sym (ap (λ y. node_can (node_read y) a.k a.low.now a.high.now (cans_of a.values) (cans_of a.priors)) c.in-Equal.is)

pub returns-in-Below : goal.returns-in-Below
unfolding node_can
returns-in-Below c = let a = c.args in c.below_can.ensures ∙ sym (ap (λ y. node_can (node_read y) a.k a.low.now a.high.now (cans_of a.values) (cans_of a.priors)) c.in-Below.is)

pub returns-in-Implies : goal.returns-in-Implies
unfolding node_can
returns-in-Implies c = let a = c.args in c.implies_can.ensures ∙ ap₂ implies_can c.can_at.ensures c.can_at-in-Implies.ensures ∙ sym (ap (λ y. node_can (node_read y) a.k a.low.now a.high.now (cans_of a.values) (cans_of a.priors)) c.in-Implies.is)

pub returns-in-Since : goal.returns-in-Since
unfolding node_can
returns-in-Since c = let a = c.args in let l = c.can_at-in-Since.ensures in let r = c.can_at-in-Since-2.ensures in let p = c.can_at-in-Since-3.ensures in c.since_can.ensures ∙ (λ i. since_can (l i) (r i) (p i)) ∙ sym (ap (λ y. node_can (node_read y) a.k a.low.now a.high.now (cans_of a.values) (cans_of a.priors)) c.in-Since.is)

pub returns-in-WeakPrevious : goal.returns-in-WeakPrevious
unfolding node_can
returns-in-WeakPrevious c = let a = c.args in c.can_at-in-WeakPrevious.ensures ∙ sym (ap (λ y. node_can (node_read y) a.k a.low.now a.high.now (cans_of a.values) (cans_of a.priors)) c.in-WeakPrevious.is)

pub returns-in-EqualRegisters : goal.returns-in-EqualRegisters
unfolding node_can
returns-in-EqualRegisters c = let a = c.args in c.equal_registers_can.ensures ∙ sym (ap (λ y. node_can (node_read y) a.k a.low.now a.high.now (cans_of a.values) (cans_of a.priors)) c.in-EqualRegisters.is)
