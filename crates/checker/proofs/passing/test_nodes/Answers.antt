-- `checker::passing::test_nodes` meets its contract: the loop keeps: the set has the nodes below k (`GroupLaws.Gathered`). Assumes nothing.
use Rattle.facts.proofs.GroupLaws.{gather_start, gather_next, gather_end}
use Rattle.rule.specs.Nodes.{test_of, table_in, form_in}
use mathlib.Core.Path.{◌≡◌, sym, ap, ◌∙◌}
use native.Mathlib.Omega.{arith}
use lib.ListN.{length}
use Rattle.spec.specs.Rule.{node_at}
use Rattle.spec.proofs.RuleLaws.{length_table}
use Rattle.rule.proofs.NodeLaws.{node_at_lem}
use Rattle.spec.specs.Facts.{is_test}
use Rattle.checker.proofs.PassLaws.{test_in}
use Rattle.checker.proofs.passing.test_nodes.Goals as goal

pub loop-k-init : goal.loop-k-init
loop-k-init c = let a = c.args in
    gather_start (λ j. is_test (test_of a.test a.register a.constant) (node_at (table_in a.rule.now) j))

pub loop-k-preserved : goal.loop-k-preserved
loop-k-preserved c = let a = c.args in
    gather_next (λ j. is_test (test_of a.test a.register a.constant) (node_at (table_in a.rule.now) j)) c.loop-k.k _ _ _ (omega arith) (c.same_test.ensures ∙ ap (is_test (test_of a.test a.register a.constant)) (sym (node_at_lem a.rule.now c.loop-k.k))) c.with_if-s.ensures c.loop-k.invariant

pub returns : goal.returns
returns c = let a = c.args in
    let e : c.loop-k.k ≡ length (table_in a.rule.now) = omega (arith, length_table form_in a.rule.now) in
    gather_end (λ j. is_test (test_of a.test a.register a.constant) (node_at (table_in a.rule.now) j)) _ _ (λ j i. rw e (test_in (table_in a.rule.now) (test_of a.test a.register a.constant) j i)) c.loop-k.invariant
