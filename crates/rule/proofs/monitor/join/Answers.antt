-- `rule::monitor::join` meets its contract: a set for the values, one for the next priors. Assumes nothing.
use mathlib.Core.Path.{◌∙◌}
use Rattle.rule.proofs.MonitorLaws.{adding_joins}
use Rattle.rule.proofs.monitor.join.Goals as goal

pub returns : goal.returns
returns c =
    let a = c.args in
    let v = c.with_node_if.ensures ∙ adding_joins _ a.k _ c.requires in
    let p = c.with_node_if-2.ensures ∙ adding_joins _ a.k _ c.requires in
    λ i. record { values = v i; priors = p i }
