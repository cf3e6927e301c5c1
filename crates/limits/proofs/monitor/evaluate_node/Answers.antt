-- `limits::monitor::evaluate_node` meets its contract. Assumes nothing.
use Rattle.limits.specs.Monitor.{cans_of, node_next, joining, with_node}
use Rattle.rule.specs.Nodes.{node_read}
use mathlib.Core.Path.{ap, ◌∙◌}
use Rattle.limits.proofs.monitor.evaluate_node.Goals as goal

pub returns : goal.returns
unfolding with_node
returns c = let a = c.args in
    let value = c.node_can-value.ensures in
    let v = c.with_can.ensures ∙ ap (joining (cans_of a.m.values) a.k) value in
    let p = c.with_can-2.ensures ∙ ap (joining (cans_of a.m.priors) a.k) (c.next_can.ensures ∙ ap (λ x. node_next (node_read a.x) x (cans_of a.m.values)) value) in
    λ i. record { values = v i; priors = p i }
