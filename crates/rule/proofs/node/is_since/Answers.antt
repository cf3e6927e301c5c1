-- `rule::node::is_since` meets its contract: (`NodeLaws`). Assumes nothing.
use mathlib.Core.Path.{sym, ap, ◌∙◌}
use lib.Dec.{eqb}
use Rattle.rule.proofs.NodeLaws.{tag_kind, since_kind}
use Rattle.rule.proofs.node.is_since.Goals as goal

pub returns : goal.returns
returns c = c.eq.ensures ∙ ap (λ k. eqb k 4) (tag_kind _ ∙ c.kind_of.ensures) ∙ sym (since_kind _)
