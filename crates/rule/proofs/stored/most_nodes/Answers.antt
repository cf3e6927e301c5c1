-- `rule::stored::most_nodes` meets its contract: 64 in the second form, 32 in the old. Assumes nothing.
use mathlib.Core.Path.{ap}
use Rattle.spec.specs.Rule.{form32, form64}
use Rattle.rule.specs.Nodes.{form_by}
use Rattle.rule.proofs.stored.most_nodes.Goals as goal

pub returns-then-IS_WIDE : goal.returns-then-IS_WIDE
unfolding form32 form64
returns-then-IS_WIDE g c = ap (λ b. (form_by b).width) c.if-IS_WIDE.ensures

pub returns-else-IS_WIDE : goal.returns-else-IS_WIDE
unfolding form32 form64
returns-else-IS_WIDE g c = ap (λ b. (form_by b).width) c.if-IS_WIDE.ensures
