-- `text::stack::push` meets its contract. Assumes nothing.
use mathlib.Core.Path.{refl, ap, ◌∙◌}
use native.Mathlib.Omega.{arith}
use native.Mathlib.Numerals.{add-one}
use lib.ListN.{set, length-set}
use Rattle.text.specs.Stacks.{stack_of}
use Rattle.text.proofs.StackLaws.{stack_pushed}
use Rattle.text.proofs.stack.push.Goals as goal

pub returns : goal.returns
returns c =
    let st = c.args.stack.now in
    let n = c.args.top in (
      refl,
      length-set st n c.args.x ∙ c.requires.1,
      ap (stack_of (set st n c.args.x)) (add-one n) ∙ stack_pushed st n c.args.x (omega (arith, c.requires.0, c.requires.1)),
    )
