-- `layout::node_lines` meets its contract: kind by kind (`SizeLaws`). Assumes nothing.
use mathlib.Core.Path.{sym, ap, ◌∙◌}
use native.Mathlib.Omega.{arith}
use lib.ListN.{get_or}
use Rattle.spec.specs.Rule.{is_past}
use Rattle.spec.specs.Weaver.{size_from}
use Rattle.rule.specs.Nodes.{node_read}
use Rattle.rule.proofs.NodeLaws.{node_at_lem}
use Rattle.rule.proofs.TagLaws.{rest_not_past}
use Rattle.layout.proofs.SizeLaws.{since_lines, weak_lines, own_small, shared_lines, no_lines}
use Rattle.layout.proofs.node_lines.Goals as goal

pub node_size-requires : goal.node_size-requires
node_size-requires c =
    let a = c.args in
    let p = c.requires in
    let is = node_at_lem a.rule.now a.k ∙ sym c.read_node-x.ensures.node in
    let few = own_small a.rule.now a.sizes.now a.k p.0 p.2 in
    let same = ap (λ x. size_from (λ j. get_or a.sizes.now j 0) x 0) is in
    (omega arith, c.read_node-x.ensures.small, omega arith)

pub returns-in-Since : goal.returns-in-Since
returns-in-Since c =
    let a = c.args in
    let p = c.requires in
    let is = node_at_lem a.rule.now a.k ∙ sym c.read_node-x.ensures.node ∙ ap node_read c.in-Since.is in
    let (r, l, e) = since_lines a.rule.now a.sizes.now a.k p.0 p.2 _ _ is in
    e

pub returns-in-WeakPrevious : goal.returns-in-WeakPrevious
returns-in-WeakPrevious c =
    let a = c.args in
    let p = c.requires in
    let is = node_at_lem a.rule.now a.k ∙ sym c.read_node-x.ensures.node ∙ ap node_read c.in-WeakPrevious.is in
    let (l, e) = weak_lines a.rule.now a.sizes.now a.k p.0 p.2 _ is in
    e

pub returns-then-has : goal.returns-then-has
returns-then-has c =
    let a = c.args in
    let p = c.requires in
    let is = node_at_lem a.rule.now a.k ∙ sym c.read_node-x.ensures.node in
    let other = ap is_past is ∙ rest_not_past c.read_node-x.result c.in_default.not-Since c.in_default.not-WeakPrevious in
    shared_lines a.rule.now a.sizes.now a.k p.0 p.2 other
    (sym (ap (λ f. f a.k) p.1) ∙ sym c.has.ensures ∙ c.if-has.true) _
    (c.node_size.ensures ∙ ap (λ x. size_from (λ j. get_or a.sizes.now j 0) x 0) (sym is))

pub returns-else-has : goal.returns-else-has
returns-else-has c =
    let a = c.args in
    let p = c.requires in
    let is = node_at_lem a.rule.now a.k ∙ sym c.read_node-x.ensures.node in
    let other = ap is_past is ∙ rest_not_past c.read_node-x.result c.in_default.not-Since c.in_default.not-WeakPrevious in
    no_lines a.rule.now a.sizes.now a.k p.0 p.2 other (sym (ap (λ f. f a.k) p.1) ∙ sym c.has.ensures ∙ c.if-has.false)
