-- `rule::monitor::with_tested` meets its contract, by kind. Assumes nothing.
use mathlib.Core.Path.{◌≡◌, ap, sym, ◌∙◌}
use lib.Dec.{eqb}
use Rattle.spec.specs.Monitor.{node_reads}
use Rattle.sets.specs.Sets.{Nodes, set_of}
use Rattle.rule.specs.declared.node.Node.{Node}
use Rattle.rule.specs.Nodes.{node_read}
use Rattle.rule.specs.Monitor.{with_registers}
use Rattle.rule.proofs.MonitorLaws.{none_join, both_join}
use Rattle.rule.proofs.monitor.with_tested.Goals as goal

-- what is told of the node is what it reads
told : (x y : Node) → x ≡ y → (s q : Nodes) → q ≡ with_registers s (node_reads (node_read y)) → q ≡ with_registers s (node_reads (node_read x))
told x y e s q d = d ∙ sym (ap (λ z. with_registers s (node_reads (node_read z))) e)

pub returns-in-False : goal.returns-in-False
returns-in-False c = let s = set_of c.args.tested in told _ _ c.in-False.is s s (none_join s)

pub returns-in-Implies : goal.returns-in-Implies
returns-in-Implies c = let s = set_of c.args.tested in told _ _ c.in-Implies.is s s (none_join s)

pub returns-in-Since : goal.returns-in-Since
returns-in-Since c = let s = set_of c.args.tested in told _ _ c.in-Since.is s s (none_join s)

pub returns-in-WeakPrevious : goal.returns-in-WeakPrevious
returns-in-WeakPrevious c = let s = set_of c.args.tested in told _ _ c.in-WeakPrevious.is s s (none_join s)

pub returns-in-EqualRegisters : goal.returns-in-EqualRegisters
returns-in-EqualRegisters c =
    let a = c.args in
    let one = c.with_register-in-EqualRegisters.ensures in
    told _ _ c.in-EqualRegisters.is (set_of a.tested) _
    (c.with_register-in-EqualRegisters-2.ensures ∙ ap (λ z. with_registers z (λ j. eqb j c.in-EqualRegisters.other)) one ∙ both_join (set_of a.tested) (λ j. eqb j c.in-EqualRegisters.register) (λ j. eqb j c.in-EqualRegisters.other))
