-- `rule::node::read_either` meets its contract: one law of `NodeLaws` for each kind. Assumes nothing.
use mathlib.Core.Path.{sym, ap, ap₂, ◌∙◌}
use mathlib.Core.Logic.{inl, inr}
use Rattle.spec.specs.Logic.{equal, below, equal_registers}
use Rattle.spec.specs.Rule.{test_node, implies_node, since_node, weak_previous_node}
use Rattle.rule.specs.Nodes.{number_of_kind, fields_by}
use Rattle.rule.proofs.EitherLaws.{kind_by, register_by, constant_by}
use Rattle.rule.proofs.NodeLaws.{kind_0, kind_1, kind_2, kind_3, kind_4, kind_5, kind_6, kind_7}
use Rattle.rule.proofs.node.read_either.Goals as goal

pub returns-in-Equal-clause-node : goal.returns-in-Equal-clause-node
returns-in-Equal-clause-node c = let w = c.args.word in let b = c.args.is_wide in
    ap₂ (λ x y. test_node (equal x y)) (c.register_of.ensures ∙ register_by w b) (c.constant_of.ensures ∙ constant_by w b) ∙ sym (kind_1 (fields_by b w) (sym (c.kind_of.ensures ∙ kind_by w b) ∙ ap number_of_kind c.in-Equal.is))

pub returns-in-Below-clause-node : goal.returns-in-Below-clause-node
returns-in-Below-clause-node c = let w = c.args.word in let b = c.args.is_wide in
    ap₂ (λ x y. test_node (below x y)) (c.register_of-in-Below.ensures ∙ register_by w b) (c.constant_of-in-Below.ensures ∙ constant_by w b) ∙ sym (kind_2 (fields_by b w) (sym (c.kind_of.ensures ∙ kind_by w b) ∙ ap number_of_kind c.in-Below.is))

pub returns-in-Implies-clause-node : goal.returns-in-Implies-clause-node
returns-in-Implies-clause-node c = let w = c.args.word in let b = c.args.is_wide in
    ap₂ implies_node c.left_of.ensures c.right_of.ensures ∙ sym (kind_3 (fields_by b w) (sym (c.kind_of.ensures ∙ kind_by w b) ∙ ap number_of_kind c.in-Implies.is))

pub returns-in-Since-clause-node : goal.returns-in-Since-clause-node
returns-in-Since-clause-node c = let w = c.args.word in let b = c.args.is_wide in
    ap₂ since_node c.left_of-in-Since.ensures c.right_of-in-Since.ensures ∙ sym (kind_4 (fields_by b w) (sym (c.kind_of.ensures ∙ kind_by w b) ∙ ap number_of_kind c.in-Since.is))

pub returns-in-WeakPrevious-clause-node : goal.returns-in-WeakPrevious-clause-node
returns-in-WeakPrevious-clause-node c = let w = c.args.word in let b = c.args.is_wide in
    ap weak_previous_node c.left_of-in-WeakPrevious.ensures ∙ sym (kind_5 (fields_by b w) (sym (c.kind_of.ensures ∙ kind_by w b) ∙ ap number_of_kind c.in-WeakPrevious.is))

pub returns-in-EqualRegisters-clause-node : goal.returns-in-EqualRegisters-clause-node
returns-in-EqualRegisters-clause-node c = let w = c.args.word in let b = c.args.is_wide in
    ap₂ (λ x y. test_node (equal_registers x y)) (c.register_of-in-EqualRegisters.ensures ∙ register_by w b) (c.constant_of-in-EqualRegisters.ensures ∙ constant_by w b) ∙ sym (kind_6 (fields_by b w) (sym (c.kind_of.ensures ∙ kind_by w b) ∙ ap number_of_kind c.in-EqualRegisters.is))

pub returns-in-False-clause-node : goal.returns-in-False-clause-node
returns-in-False-clause-node c = let w = c.args.word in let b = c.args.is_wide in
    let kind = sym (c.kind_of.ensures ∙ kind_by w b) in
    elim c.in-False.is [
      | inl e ↦ sym (kind_0 (fields_by b w) (kind ∙ ap number_of_kind e))
      | inr e ↦ sym (kind_7 (fields_by b w) (kind ∙ ap number_of_kind e))
    ]
