-- `machine::ready::first_readiness` meets its contract (`ReadyLaws.first_ready`). Assumes nothing.
use mathlib.Core.Path.{◌∙◌}
use native.Mathlib.Omega.{arith}
use Rattle.spec.proofs.RuleLaws.{length_table}
use Rattle.rule.specs.Nodes.{form_in, table_in}
use Rattle.machine.proofs.ReadyLaws.{first_ready}
use Rattle.machine.proofs.ready.first_readiness.Goals as goal

pub returns : goal.returns
returns c =
    let rule = c.args.rule.now in
    let few = c.requires in
    c.work_out.ensures ∙ first_ready (table_in rule) (omega (arith, length_table form_in rule)) _ _ c.first_priors.ensures c.tested_registers.ensures
