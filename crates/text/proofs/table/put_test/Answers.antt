-- `text::table::put_test` meets its contract: the test is put. Assumes nothing.
use mathlib.Core.Path.{sym, subst}
use native.Mathlib.Omega.{arith}
use lib.ListN.{take}
use Rattle.spec.specs.Rule.{test_node}
use Rattle.rule.specs.Nodes.{form_in}
use Rattle.grammar.specs.Typed.{test_of}
use Rattle.text.specs.Stacks.{comparison_of, Holds}
use Rattle.text.specs.Building.{put}
use Rattle.text.proofs.table.put_test.Goals as goal

pub put_node-requires : goal.put_node-requires
put_node-requires c =
    let p = c.requires in
    (p.0, p.1, (omega arith, omega arith))

pub put_node-requires-else-below : goal.put_node-requires-else-below
put_node-requires-else-below c =
    let p = c.requires in
    (p.0, p.1, (omega arith, omega arith))

pub returns-then-below : goal.returns-then-below
returns-then-below c =
    let a = c.args in
    subst (λ b. Holds c.put_node.new.table c.put_node.result (put form_in (test_node (test_of (comparison_of b) a.register a.constant)) (take a.n a.table.now)))
    (sym c.if-below.true) c.put_node.ensures

pub returns-else-below : goal.returns-else-below
returns-else-below c =
    let a = c.args in
    subst (λ b. Holds c.put_node-else-below.new.table c.put_node-else-below.result (put form_in (test_node (test_of (comparison_of b) a.register a.constant)) (take a.n a.table.now)))
    (sym c.if-below.false) c.put_node-else-below.ensures
