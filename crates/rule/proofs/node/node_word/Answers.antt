-- `rule::node::node_word` meets its contract: kind by kind. Assumes nothing.
use mathlib.Core.Path.{sym, ap, ◌∙◌}
use Rattle.spec.specs.Rule.{fields_of_node}
use Rattle.rule.specs.Nodes.{word_out, node_read}
use Rattle.rule.proofs.node.node_word.Goals as goal

pub returns-in-False : goal.returns-in-False
unfolding fields_of_node
returns-in-False c = ap (λ x. word_out (fields_of_node (node_read x))) (sym c.in-False.is)

pub returns-in-Equal : goal.returns-in-Equal
unfolding fields_of_node
returns-in-Equal c = c.fields_word.ensures ∙ ap (λ x. word_out (fields_of_node (node_read x))) (sym c.in-Equal.is)

pub returns-in-Below : goal.returns-in-Below
unfolding fields_of_node
returns-in-Below c = c.fields_word-in-Below.ensures ∙ ap (λ x. word_out (fields_of_node (node_read x))) (sym c.in-Below.is)

pub returns-in-Implies : goal.returns-in-Implies
unfolding fields_of_node
returns-in-Implies c = c.fields_word-in-Implies.ensures ∙ ap (λ x. word_out (fields_of_node (node_read x))) (sym c.in-Implies.is)

pub returns-in-Since : goal.returns-in-Since
unfolding fields_of_node
returns-in-Since c = c.fields_word-in-Since.ensures ∙ ap (λ x. word_out (fields_of_node (node_read x))) (sym c.in-Since.is)

pub returns-in-WeakPrevious : goal.returns-in-WeakPrevious
unfolding fields_of_node
returns-in-WeakPrevious c = c.fields_word-in-WeakPrevious.ensures ∙ ap (λ x. word_out (fields_of_node (node_read x))) (sym c.in-WeakPrevious.is)

pub returns-in-EqualRegisters : goal.returns-in-EqualRegisters
unfolding fields_of_node
returns-in-EqualRegisters c = c.fields_word-in-EqualRegisters.ensures ∙ ap (λ x. word_out (fields_of_node (node_read x))) (sym c.in-EqualRegisters.is)
