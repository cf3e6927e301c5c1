-- `rule::monitor::evaluate_node` meets its contract: each kind of node joins by `MonitorLaws.joins`. Assumes nothing.
use mathlib.Core.Path.{refl, ap, ap₂, ◌∙◌}
use mathlib.Core.Bool.{false, not, ◌||◌}
use Rattle.spec.specs.Logic.{passes}
use lib.Dec.{eqb}
use Rattle.spec.specs.Logic.{register_of}
use Rattle.sets.specs.Sets.{set_of}
use Rattle.rule.specs.Nodes.{node_read}
use Rattle.spec.specs.Monitor.{node_value, node_next}
use Rattle.spec.proofs.MonitorLaws.{since_same}
use Rattle.rule.specs.Monitor.{sets_of}
use Rattle.rule.proofs.MonitorLaws.{joined_not, joins}
use Rattle.rule.proofs.monitor.evaluate_node.Goals as goal

pub returns-in-False : goal.returns-in-False
unfolding node_value node_next
returns-in-False c =
    let a = c.args in
    joins _ _ (ap node_read c.in-False.is) a.k a.state.now (set_of a.priors) (sets_of a.m) _ false false
    (joined_not (sets_of a.m) a.k) refl refl

pub returns-in-Equal : goal.returns-in-Equal
unfolding node_value node_next passes
returns-in-Equal c =
    let a = c.args in
    joins _ _ (ap node_read c.in-Equal.is) a.k a.state.now (set_of a.priors) (sets_of a.m) _ _ _ c.join.ensures
    refl refl

pub returns-in-Below : goal.returns-in-Below
unfolding node_value node_next passes
returns-in-Below c =
    let a = c.args in
    joins _ _ (ap node_read c.in-Below.is) a.k a.state.now (set_of a.priors) (sets_of a.m) _ _ _ c.join-in-Below.ensures
    refl refl

pub returns-in-Implies : goal.returns-in-Implies
unfolding node_value node_next passes
returns-in-Implies c =
    let a = c.args in
    joins _ _ (ap node_read c.in-Implies.is) a.k a.state.now (set_of a.priors) (sets_of a.m) _ _ _ c.join-in-Implies.ensures
    (ap₂ (λ l r. not l || r) c.has.ensures c.has-in-Implies.ensures) refl

pub returns-in-Since : goal.returns-in-Since
unfolding node_value node_next passes
returns-in-Since c =
    let a = c.args in
    let value = c.since_step-value.ensures ∙ since_same c.has-in-Since.ensures c.has-in-Since-2.ensures c.has_node.ensures in
    joins _ _ (ap node_read c.in-Since.is) a.k a.state.now (set_of a.priors) (sets_of a.m) _ _ _ c.join-in-Since.ensures value value

pub returns-in-WeakPrevious : goal.returns-in-WeakPrevious
unfolding node_value node_next passes
returns-in-WeakPrevious c =
    let a = c.args in
    joins _ _ (ap node_read c.in-WeakPrevious.is) a.k a.state.now (set_of a.priors) (sets_of a.m) _ _ _ c.join-in-WeakPrevious.ensures
    c.has_node-in-WeakPrevious.ensures c.has-in-WeakPrevious.ensures

pub returns-in-EqualRegisters : goal.returns-in-EqualRegisters
unfolding node_value node_next passes
returns-in-EqualRegisters c =
    let a = c.args in
    joins _ _ (ap node_read c.in-EqualRegisters.is) a.k a.state.now (set_of a.priors) (sets_of a.m) _ _ _ c.join-in-EqualRegisters.ensures
    (ap (λ q. eqb (register_of a.state.now c.in-EqualRegisters.register) q) c.register_at.ensures) refl
