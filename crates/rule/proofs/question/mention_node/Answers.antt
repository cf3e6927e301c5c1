-- `rule::question::mention_node` meets its contract, set by set. Assumes nothing.
use mathlib.Core.Path.{ap, ◌∙◌}
use Rattle.sets.specs.Sets.{set_of, adding}
use Rattle.rule.specs.Tally.{mention}
use Rattle.rule.proofs.question.mention_node.Goals as goal

pub returns : goal.returns
unfolding mention
returns c = λ i. record { once = c.with.ensures i; twice = (c.with_if.ensures ∙ ap (adding (set_of c.args.s.twice) c.args.k) c.has.ensures) i }
