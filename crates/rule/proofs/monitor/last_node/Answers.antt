-- `rule::monitor::last_node` meets its contract. Assumes nothing.
use native.Mathlib.Omega.{arith}
use Rattle.spec.proofs.RuleLaws.{length_table}
use Rattle.rule.specs.Nodes.{form_in}
use borrow.Author.Rules.{rules}
use Rattle.rule.proofs.monitor.last_node.Goals as goal

pub returns-then-rule-eq0 : goal.returns-then-rule-eq0
returns-then-rule-eq0 c = (omega (arith, length_table form_in c.args.rule.now), search rules)

pub returns : goal.returns
returns c = (omega (arith, length_table form_in c.args.rule.now), search rules)
