-- `reasons::nodes::compared` meets its contract (`RegisterLaws`). Assumes nothing.
use mathlib.Core.Path.{ap, ◌∙◌}
use mathlib.Core.Bool.{true}
use Rattle.sets.specs.Sets.{adding}
use Rattle.reasons.proofs.RegisterLaws.{same_register_lem, two_registers_lem}
use Rattle.reasons.proofs.nodes.compared.Goals as goal

pub returns-then-register-other : goal.returns-then-register-other
returns-then-register-other c = let a = c.args in same_register_lem a.register a.other c.if-register-other.true

pub returns : goal.returns
returns c = let a = c.args in c.with-2.ensures ∙ ap (λ t. adding t a.other true) c.with.ensures ∙ two_registers_lem a.register a.other c.if-register-other.false c.requires.0 c.requires.1
