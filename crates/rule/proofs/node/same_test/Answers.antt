-- `rule::node::same_test` meets its contract: `NodeLaws.test_at` for the fields read. Assumes nothing.
use mathlib.Core.Path.{◌∙◌}
use mathlib.Core.Bool.{◌&&◌}
use lib.Dec.{eqb}
use Rattle.rule.specs.declared.node.Test.TheVariants.{Equal, Below, EqualRegisters}
use Rattle.rule.specs.Nodes.{fields_in}
use Rattle.rule.proofs.NodeLaws.{tag_kind, test_at}
use Rattle.rule.proofs.node.same_test.Goals as goal

pub returns-in-Equal : goal.returns-in-Equal
returns-in-Equal c =
    let a = c.args in
    let kind = tag_kind _ ∙ c.kind_of-kind.ensures in
    rw c.in-Equal.is ((λ i. c.eq.ensures i && (eqb a.register (c.register_of-first.ensures i) && eqb a.constant (c.constant_of-second.ensures i)))
    ∙ (λ i. eqb (kind i) 1 && (eqb a.register (fields_in a.word).register && eqb a.constant (fields_in a.word).constant))
    ∙ test_at (fields_in a.word) a.register a.constant Equal)

pub returns-in-Below : goal.returns-in-Below
returns-in-Below c =
    let a = c.args in
    let kind = tag_kind _ ∙ c.kind_of-kind.ensures in
    rw c.in-Below.is ((λ i. c.eq-in-Below.ensures i && (eqb a.register (c.register_of-first.ensures i) && eqb a.constant (c.constant_of-second.ensures i)))
    ∙ (λ i. eqb (kind i) 2 && (eqb a.register (fields_in a.word).register && eqb a.constant (fields_in a.word).constant))
    ∙ test_at (fields_in a.word) a.register a.constant Below)

pub returns-in-EqualRegisters : goal.returns-in-EqualRegisters
returns-in-EqualRegisters c =
    let a = c.args in
    let kind = tag_kind _ ∙ c.kind_of-kind.ensures in
    rw c.in-EqualRegisters.is ((λ i. c.eq-in-EqualRegisters.ensures i && (eqb a.register (c.register_of-first.ensures i) && eqb a.constant (c.constant_of-second.ensures i)))
    ∙ (λ i. eqb (kind i) 6 && (eqb a.register (fields_in a.word).register && eqb a.constant (fields_in a.word).constant))
    ∙ test_at (fields_in a.word) a.register a.constant EqualRegisters)
