-- `reasons::reason::joint` meets its contract (`ReasonLaws`). Assumes nothing.
use mathlib.Core.Path.{fun_ext, ◌∙◌}
use Rattle.sets.specs.Sets.{set_of, uniting}
use Rattle.reasons.proofs.ReasonLaws.{alike}
use Rattle.reasons.proofs.reason.joint.Goals as goal

pub returns : goal.returns
unfolding uniting
returns c = let a = c.args.a in let b = c.args.b in c.union.ensures ∙ fun_ext (λ r. alike a.yes a.no b.yes b.no c.requires.0 c.requires.1 c.if-a-b.false c.if-b-a.false (set_of a.registers r) (set_of b.registers r))
