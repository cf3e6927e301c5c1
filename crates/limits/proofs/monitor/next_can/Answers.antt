-- `limits::monitor::next_can` meets its contract (`MonitorLaws`). Assumes nothing.
use mathlib.Core.Path.{sym, ap, ◌∙◌}
use Rattle.rule.specs.Nodes.{node_read}
use Rattle.limits.specs.Monitor.{can_of, cans_of, node_next}
use Rattle.limits.proofs.MonitorLaws.{keeps_value}
use Rattle.limits.proofs.monitor.next_can.Goals as goal

pub returns-in-WeakPrevious : goal.returns-in-WeakPrevious
unfolding node_next
returns-in-WeakPrevious c = let a = c.args in c.can_at.ensures ∙ sym (ap (λ y. node_next (node_read y) (can_of a.value) (cans_of a.values)) c.in-WeakPrevious.is)

pub returns-in_default : goal.returns-in_default
returns-in_default c = let a = c.args in keeps_value a.x (can_of a.value) (cans_of a.values) c.in_default.not-WeakPrevious
