-- `rule::monitor::tested_registers` meets its contract. The loop keeps: the set is that of the nodes below k. Assumes nothing.
use mathlib.Core.Path.{◌≡◌, sym, ap, ap₂, ◌∙◌}
use native.Mathlib.Omega.{arith}
use native.Mathlib.Numerals.{add-one}
use lib.ListN.{length}
use Rattle.spec.specs.Rule.{Node}
use Rattle.spec.proofs.RuleLaws.{length_table}
use Rattle.spec.specs.Monitor.{node_reads, rule_reads}
use Rattle.sets.specs.Sets.{Nodes}
use Rattle.sets.proofs.SetLaws.{empty_is}
use Rattle.rule.specs.Nodes.{form_in, table_in}
use Rattle.rule.specs.Monitor.{with_registers}
use Rattle.rule.proofs.NodeLaws.{node_at_lem}
use Rattle.rule.proofs.MonitorLaws.{read_of, tested_none, tested_next}
use Rattle.rule.proofs.monitor.tested_registers.Goals as goal

pub loop-word-init : goal.loop-word-init
loop-word-init c = empty_is ∙ tested_none (table_in c.args.rule.now)

pub loop-word-preserved : goal.loop-word-preserved
loop-word-preserved c =
    let rule = c.args.rule.now in
    let l = c.loop-word in
    let node = c.read_node.ensures.node ∙ sym (node_at_lem rule l.word-index) in
    rw add-one (c.with_tested-tested.ensures ∙ ap₂ (λ (s : Nodes) (x : Node). with_registers s (node_reads x)) l.invariant node ∙ tested_next l.word-index (table_in rule))

pub returns : goal.returns
unfolding rule_reads
returns c =
    let rule = c.args.rule.now in
    let e : c.loop-word.word-index ≡ length (table_in rule) = omega (arith, length_table form_in rule, c.loop-word-test.false) in
    c.loop-word.invariant ∙ ap (λ n. read_of n (table_in rule)) e
