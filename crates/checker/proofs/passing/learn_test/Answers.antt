-- `checker::passing::learn_test` meets its contract: one set grows (`PassLaws.test_same`). Assumes nothing.
use mathlib.Core.Path.{refl}
use mathlib.Core.Bool.{true, false}
use Rattle.spec.specs.Rule.{node_at}
use Rattle.spec.specs.Facts.{value_is, prior_is, kept_is_prior, work_is_next, work_is_prior, word_number, is_test, learned}
use Rattle.spec.proofs.FactLaws.{facts_ext}
use Rattle.sets.specs.Sets.{Nodes}
use Rattle.facts.specs.FactSets.{facts_of}
use Rattle.rule.specs.Nodes.{test_of, table_in}
use Rattle.checker.proofs.PassLaws.{test_same, test_other}
use Rattle.checker.proofs.passing.learn_test.Goals as goal

pub returns-then-taken : goal.returns-then-taken
unfolding learned word_number
returns-then-taken c = let a = c.args in
    let p : Nodes = (λ j. is_test (test_of a.test a.register a.constant) (node_at (table_in a.rule.now) j)) in
    rw c.if-taken.true (facts_ext _ _ (test_same (facts_of a.x) (value_is true) p _ _ c.test_nodes-same.ensures c.union.ensures) (test_other (facts_of a.x) (value_is true) p (value_is false) refl) (test_other (facts_of a.x) (value_is true) p (prior_is true) refl) (test_other (facts_of a.x) (value_is true) p (prior_is false) refl) (test_other (facts_of a.x) (value_is true) p kept_is_prior refl) (test_other (facts_of a.x) (value_is true) p work_is_next refl) (test_other (facts_of a.x) (value_is true) p work_is_prior refl))

pub returns-else-taken : goal.returns-else-taken
unfolding learned word_number
returns-else-taken c = let a = c.args in
    let p : Nodes = (λ j. is_test (test_of a.test a.register a.constant) (node_at (table_in a.rule.now) j)) in
    rw c.if-taken.false (facts_ext _ _ (test_other (facts_of a.x) (value_is false) p (value_is true) refl) (test_same (facts_of a.x) (value_is false) p _ _ c.test_nodes-same.ensures c.union-else-taken.ensures) (test_other (facts_of a.x) (value_is false) p (prior_is true) refl) (test_other (facts_of a.x) (value_is false) p (prior_is false) refl) (test_other (facts_of a.x) (value_is false) p kept_is_prior refl) (test_other (facts_of a.x) (value_is false) p work_is_next refl) (test_other (facts_of a.x) (value_is false) p work_is_prior refl))
