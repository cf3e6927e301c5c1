-- `reasons::nodes::registers_at` meets its contract (`RegisterLaws`); the sets of the nodes below k are as the definition has them. Assumes nothing.
use Prim.Native.Nat.{◌<◌}
use mathlib.Core.Path.{sym, ap, ◌∙◌}
use native.Mathlib.Omega.{arith}
use native.Mathlib.Numerals.{add-one}
use lib.ListN.{length, length-set}
use Rattle.spec.proofs.RuleLaws.{rule_out}
use Rattle.spec.specs.Rule.{Node, node_allowed}
use Rattle.rule.proofs.NodeLaws.{node_at_lem}
use Rattle.rule.specs.Nodes.{form_in, table_in}
use Rattle.limits.proofs.MonitorLaws.{few_held}
use Rattle.limits.specs.Monitor.{cans_of}
use Rattle.reasons.specs.Registers.{node_registers, sets_in}
use Rattle.reasons.proofs.RegisterLaws.{registers_next}
use Rattle.reasons.proofs.nodes.registers_at.Goals as goal

pub node_registers-requires : goal.node_registers-requires
node_registers-requires c = let rule = c.args.rule.now in let few = few_held rule c.requires in (c.read_node.ensures.small, ap node_allowed (c.read_node.ensures.node ∙ sym (node_at_lem rule c.loop-k.k)) ∙ (rule_out form_in rule c.requires).named c.loop-k.k, omega arith)

pub bounds-registers-k : goal.bounds-registers-k
bounds-registers-k c = let few = few_held c.args.rule.now c.requires in omega arith

pub loop-k-preserved : goal.loop-k-preserved
loop-k-preserved c = let a = c.args in
    let rule = a.rule.now in
    let few = few_held rule c.requires in
    let inside : c.loop-k.k < length c.loop-k.registers = omega arith in
    let e = c.read_node.ensures.node ∙ sym (node_at_lem rule c.loop-k.k) in
    let w = c.node_registers.result in
    let own = c.node_registers.ensures ∙ ap (λ (x : Node). node_registers x c.loop-k.k (cans_of a.values) (cans_of a.priors) (sets_in c.loop-k.registers) (sets_in a.earlier)) e in (
      length-set c.loop-k.registers c.loop-k.k _ ∙ c.loop-k.invariant.0,
      rw add-one (registers_next (cans_of a.values) (cans_of a.priors) (sets_in a.earlier) (table_in rule) (rule_out form_in rule c.requires).ordered c.loop-k.registers c.loop-k.k w inside own c.loop-k.invariant.1),
    )
