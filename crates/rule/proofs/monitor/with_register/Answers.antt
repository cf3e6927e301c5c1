-- `rule::monitor::with_register` meets its contract. Assumes nothing.
use mathlib.Core.Path.{◌∙◌}
use Rattle.rule.proofs.MonitorLaws.{register_joins}
use Rattle.rule.proofs.monitor.with_register.Goals as goal

pub returns : goal.returns
returns c = c.with_if.ensures ∙ register_joins _ c.args.r
