-- `rule::node::next_of` meets its contract: the operand for weak previous, else the node itself. Assumes nothing.
use mathlib.Core.Path.{sym, ap, ◌∙◌}
use lib.ListN.{get_or, get_or-eq_default}
use borrow.Author.Tests.{eqb-true}
use Rattle.spec.specs.Rule.{false_node, next_from}
use Rattle.spec.proofs.RuleLaws.{length_table}
use Rattle.rule.specs.Nodes.{fields_in, node_in, table_in}
use Rattle.rule.proofs.NodeLaws.{kind_5, weak_kind, next_own, node_at_lem}
use Rattle.rule.proofs.node.next_of.Goals as goal

pub returns-then-is_weak_previous : goal.returns-then-is_weak_previous
returns-then-is_weak_previous c =
    let a = c.args in
    let f = fields_in (get_or a.rule.now a.k 0) in
    let five = eqb-true f.kind 5 (sym (weak_kind f) ∙ sym c.is_weak_previous.ensures ∙ c.if-is_weak_previous.true) in
    c.left_of.ensures ∙ sym (ap (λ x. next_from x a.k) (node_at_lem a.rule.now a.k ∙ kind_5 f five))

pub returns-else-is_weak_previous : goal.returns-else-is_weak_previous
returns-else-is_weak_previous c =
    let a = c.args in
    sym (ap (λ x. next_from x a.k) (node_at_lem a.rule.now a.k) ∙ next_own (node_in (get_or a.rule.now a.k 0)) a.k (sym c.is_weak_previous.ensures ∙ c.if-is_weak_previous.false))

pub returns-else-k-rule : goal.returns-else-k-rule
returns-else-k-rule c =
    let a = c.args in
    sym (ap (λ x. next_from x a.k) (get_or-eq_default (table_in a.rule.now) false_node {n = a.k} (rw (length_table _ a.rule.now) c.if-k-rule.false)))
