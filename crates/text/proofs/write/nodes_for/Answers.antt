-- `text::write::nodes_for` meets its contract. Assumes nothing.
use mathlib.Core.Path.{sym, ap, ◌∙◌}
use Rattle.text.specs.Building.{cost}
use Rattle.text.specs.Tokens.{tokens_in}
use Rattle.text.specs.declared.token.Token.TheVariants as token
use Rattle.text.proofs.BuildLaws.{cost_one}
use Rattle.text.proofs.write.nodes_for.Goals as goal

pub returns-in-Space : goal.returns-in-Space
unfolding cost
returns-in-Space c = ap (λ x. cost (tokens_in x)) (sym c.in-Space.is)

pub returns-then-value : goal.returns-then-value
unfolding cost
returns-then-value c = ap (λ b. cost (tokens_in (token.Constant b))) (sym c.if-value.true) ∙ ap (λ x. cost (tokens_in x)) (sym c.in-Constant.is)

pub returns-else-value : goal.returns-else-value
unfolding cost
returns-else-value c = ap (λ b. cost (tokens_in (token.Constant b))) (sym c.if-value.false) ∙ ap (λ x. cost (tokens_in x)) (sym c.in-Constant.is)

pub returns-in-Prefix : goal.returns-in-Prefix
returns-in-Prefix c = cost_one _ _ c.prefix_nodes.ensures ∙ ap (λ x. cost (tokens_in x)) (sym c.in-Prefix.is)

pub returns-in-Operator : goal.returns-in-Operator
returns-in-Operator c = cost_one _ _ c.operator_nodes.ensures ∙ ap (λ x. cost (tokens_in x)) (sym c.in-Operator.is)

pub returns-in-Register : goal.returns-in-Register
unfolding cost
returns-in-Register c = ap (λ x. cost (tokens_in x)) (sym c.in-Register.is)

pub returns-in-Number : goal.returns-in-Number
unfolding cost
returns-in-Number c = ap (λ x. cost (tokens_in x)) (sym c.in-Number.is)

pub returns-in-Open : goal.returns-in-Open
unfolding cost
returns-in-Open c = ap (λ x. cost (tokens_in x)) (sym c.in-Open.is)

pub returns-in-Close : goal.returns-in-Close
unfolding cost
returns-in-Close c = ap (λ x. cost (tokens_in x)) (sym c.in-Close.is)

pub returns-in-Equal : goal.returns-in-Equal
unfolding cost
returns-in-Equal c = ap (λ x. cost (tokens_in x)) (sym c.in-Equal.is)

pub returns-in-Below : goal.returns-in-Below
unfolding cost
returns-in-Below c = ap (λ x. cost (tokens_in x)) (sym c.in-Below.is)
