-- `rule::monitor::evaluate` meets its contract. The loop keeps: what is worked out is that of the nodes below k. Assumes nothing.
use mathlib.Core.Path.{◌≡◌, sym, ap, ap₂, ◌∙◌}
use native.Mathlib.Omega.{arith}
use native.Mathlib.Numerals.{add-one}
use lib.ListN.{length}
use Rattle.rule.specs.Nodes.{form_in}
use borrow.Author.Rules.{rules}
use Rattle.spec.specs.Rule.{Node, table_of}
use Rattle.spec.proofs.RuleLaws.{length_table}
use Rattle.sets.specs.Sets.{set_of}
use Rattle.sets.proofs.SetLaws.{empty_is}
use Rattle.spec.specs.Monitor.{NodeSets, with_node, moment_below, moment_of}
use Rattle.rule.proofs.NodeLaws.{node_at_lem}
use Rattle.rule.proofs.monitor.evaluate.Goals as goal

pub loop-k-init : goal.loop-k-init
unfolding moment_below
loop-k-init c = (search rules, search rules, λ i. record { values = empty_is i; priors = empty_is i })

pub loop-k-preserved : goal.loop-k-preserved
unfolding moment_below
loop-k-preserved c =
    let a = c.args in
    let l = c.loop-k in (
      search rules,
      search rules,
      rw add-one (c.evaluate_node-m.ensures ∙ ap₂ (λ (x : Node) (m : NodeSets). with_node x l.k a.state.now (set_of a.priors) m) (c.read_node.ensures.node ∙ sym (node_at_lem a.rule.now l.k)) l.invariant.2),
    )

pub returns : goal.returns
unfolding moment_of
returns c =
    let a = c.args in
    let e : c.loop-k.k ≡ length (table_of form_in a.rule.now) = omega (arith, length_table form_in a.rule.now, c.loop-k-test.false) in
    c.loop-k.invariant.2 ∙ ap (λ n. moment_below n (table_of form_in a.rule.now) a.state.now (set_of a.priors)) e
