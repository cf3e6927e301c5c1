-- `checker::closing::close_node` meets its contract: kind by kind (`CloseLaws.close_known`, `close_test`). Assumes nothing.
use mathlib.Core.Path.{refl, sym, ap, ap₂, ◌∙◌}
use mathlib.Core.Logic.{inl, inr}
use mathlib.Core.Bool.{◌&&◌, ◌||◌}
use Rattle.spec.specs.Facts.{gains}
use Rattle.rule.specs.Nodes.{table_in, node_read}
use Rattle.rule.proofs.NodeLaws.{node_at_lem}
use Rattle.spec.proofs.MonitorLaws.{since_same}
use Rattle.facts.specs.FactSets.{facts_of}
use Rattle.checker.proofs.CloseLaws.{close_test, close_known}
use Rattle.checker.proofs.closing.close_node.Goals as goal

pub returns-in-False : goal.returns-in-False
unfolding gains
returns-in-False c =
    let a = c.args in
    let is = node_at_lem a.rule.now a.k ∙ sym c.read_node.ensures.node ∙ ap node_read c.in-False.is in
    close_known (table_in a.rule.now) a.k (facts_of a.x) _ _ _ _ is
    refl refl c.learn_value.ensures

pub returns-in-Equal : goal.returns-in-Equal
returns-in-Equal c =
    let a = c.args in
    let is = node_at_lem a.rule.now a.k ∙ sym c.read_node.ensures.node in
    elim c.in-Equal.is [
      | inl e ↦ close_test (table_in a.rule.now) a.k (facts_of a.x) _ (is ∙ ap node_read e.2)
      | inr o ↦ elim o [
        | inl e ↦ close_test (table_in a.rule.now) a.k (facts_of a.x) _ (is ∙ ap node_read e.2)
        | inr e ↦ close_test (table_in a.rule.now) a.k (facts_of a.x) _ (is ∙ ap node_read e.2)
      ]
    ]

pub returns-in-Implies : goal.returns-in-Implies
unfolding gains
returns-in-Implies c =
    let a = c.args in
    let is = node_at_lem a.rule.now a.k ∙ sym c.read_node.ensures.node ∙ ap node_read c.in-Implies.is in
    close_known (table_in a.rule.now) a.k (facts_of a.x) _ _ _ _ is
    (ap₂ ◌||◌ c.has.ensures c.has-in-Implies.ensures)
    (ap₂ ◌&&◌ c.has-in-Implies-2.ensures c.has-in-Implies-3.ensures)
    c.learn_value-in-Implies.ensures

pub returns-in-Since : goal.returns-in-Since
unfolding gains
returns-in-Since c =
    let a = c.args in
    let is = node_at_lem a.rule.now a.k ∙ sym c.read_node.ensures.node ∙ ap node_read c.in-Since.is in
    close_known (table_in a.rule.now) a.k (facts_of a.x) _ _ _ _ is
    (c.since_step-yes.ensures ∙ since_same c.has-in-Since.ensures c.has-in-Since-2.ensures c.has-in-Since-3.ensures)
    (ap₂ ◌||◌ (ap₂ ◌&&◌ c.has-right_false.ensures c.has-in-Since-4.ensures) (ap₂ ◌&&◌ c.has-right_false.ensures c.has-in-Since-5.ensures))
    c.learn_value-in-Since.ensures

pub returns-in-WeakPrevious : goal.returns-in-WeakPrevious
unfolding gains
returns-in-WeakPrevious c =
    let a = c.args in
    let is = node_at_lem a.rule.now a.k ∙ sym c.read_node.ensures.node ∙ ap node_read c.in-WeakPrevious.is in
    close_known (table_in a.rule.now) a.k (facts_of a.x) _ _ _ _ is
    c.has-in-WeakPrevious.ensures c.has-in-WeakPrevious-2.ensures c.learn_value-in-WeakPrevious.ensures
