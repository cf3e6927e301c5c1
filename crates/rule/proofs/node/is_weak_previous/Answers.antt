-- `rule::node::is_weak_previous` meets its contract: (`NodeLaws`). Assumes nothing.
use mathlib.Core.Path.{sym, ap, ◌∙◌}
use lib.Dec.{eqb}
use Rattle.rule.proofs.NodeLaws.{tag_kind, weak_kind}
use Rattle.rule.proofs.node.is_weak_previous.Goals as goal

pub returns : goal.returns
returns c = c.eq.ensures ∙ ap (λ k. eqb k 5) (tag_kind _ ∙ c.kind_of.ensures) ∙ sym (weak_kind _)
