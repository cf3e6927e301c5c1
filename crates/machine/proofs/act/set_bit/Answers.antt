-- `machine::act::set_bit` meets its contract (`ActLaws`). Assumes nothing.
use mathlib.Core.Path.{◌∙◌}
use Rattle.sets.specs.Sets.{set_of}
use Rattle.machine.proofs.ActLaws.{set_yes, set_no}
use borrow.Author.Rules.{rules}
use Rattle.machine.proofs.act.set_bit.Goals as goal

pub returns-then-bit : goal.returns-then-bit
returns-then-bit c = let a = c.args in c.with.ensures ∙ set_yes (set_of a.w) a.k (search rules) a.bit c.if-bit.true

pub returns-else-bit : goal.returns-else-bit
returns-else-bit c = let a = c.args in c.without.ensures ∙ set_no (set_of a.w) a.k a.bit c.if-bit.false
