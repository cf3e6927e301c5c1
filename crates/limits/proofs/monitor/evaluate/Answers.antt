-- `limits::monitor::evaluate` meets its contract (`MonitorLaws`); the nodes below k are as the definition has them. Assumes nothing.
use mathlib.Core.Path.{◌≡◌, sym, ap, ap₂, ◌∙◌}
use native.Mathlib.Omega.{arith}
use native.Mathlib.Numerals.{add-one}
use lib.ListN.{length}
use Rattle.spec.specs.Rule.{Node, node_allowed}
use Rattle.spec.proofs.RuleLaws.{rule_out, length_table}
use Rattle.rule.specs.Nodes.{form_in, table_in}
use Rattle.rule.proofs.NodeLaws.{node_at_lem}
use Rattle.limits.proofs.MonitorLaws.{none_are, few_held}
use Rattle.limits.specs.Monitor.{cans_of, Now, with_node, now_below, now_at}
use Rattle.limits.proofs.monitor.evaluate.Goals as goal

pub loop-k-init : goal.loop-k-init
unfolding now_below
loop-k-init c = λ i. record { values = none_are i; priors = none_are i }

pub evaluate_node-m-requires : goal.evaluate_node-m-requires
evaluate_node-m-requires c = let out = rule_out form_in c.args.rule.now c.requires.2 in let few = few_held c.args.rule.now c.requires.2 in (c.requires.0, c.requires.1, c.read_node.ensures.small, ap node_allowed (c.read_node.ensures.node ∙ sym (node_at_lem c.args.rule.now c.loop-k.k)) ∙ out.named c.loop-k.k, omega arith)

pub loop-k-preserved : goal.loop-k-preserved
unfolding now_below
loop-k-preserved c = let a = c.args in
    rw add-one (c.evaluate_node-m.ensures ∙ ap₂ (λ (x : Node) (m : Now). with_node x c.loop-k.k a.low.now a.high.now (cans_of a.priors) m) (c.read_node.ensures.node ∙ sym (node_at_lem a.rule.now c.loop-k.k)) c.loop-k.invariant)

pub returns : goal.returns
unfolding now_at
returns c = let a = c.args in
    let e : c.loop-k.k ≡ length (table_in a.rule.now) = omega (arith, length_table form_in a.rule.now) in
    c.loop-k.invariant ∙ ap (λ n. now_below n (table_in a.rule.now) a.low.now a.high.now (cans_of a.priors)) e
