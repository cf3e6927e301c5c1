-- `rule::question::mention_operands` meets its contract, by the kind of the node. Assumes nothing.
use mathlib.Core.Path.{ap, ◌∙◌}
use Rattle.rule.specs.Tally.{mention, mention_all}
use Rattle.rule.proofs.question.mention_operands.Goals as goal

pub returns-in-Implies : goal.returns-in-Implies
unfolding mention_all
returns-in-Implies c = rw c.in-Implies.is (c.mention_node-in-Implies.ensures ∙ ap (λ t. mention t c.in-Implies.right) c.mention_node.ensures)

pub returns-in-Since : goal.returns-in-Since
unfolding mention_all
returns-in-Since c = rw c.in-Since.is (c.mention_node-in-Since-2.ensures ∙ ap (λ t. mention t c.in-Since.right) c.mention_node-in-Since.ensures)

pub returns-in-WeakPrevious : goal.returns-in-WeakPrevious
unfolding mention_all
returns-in-WeakPrevious c = rw c.in-WeakPrevious.is c.mention_node-in-WeakPrevious.ensures

pub returns-in-False : goal.returns-in-False
unfolding mention_all
returns-in-False c = rw c.in-False.is

pub returns-in-Equal : goal.returns-in-Equal
unfolding mention_all
returns-in-Equal c = rw c.in-Equal.is

pub returns-in-Below : goal.returns-in-Below
unfolding mention_all
returns-in-Below c = rw c.in-Below.is

pub returns-in-EqualRegisters : goal.returns-in-EqualRegisters
unfolding mention_all
returns-in-EqualRegisters c = rw c.in-EqualRegisters.is
