-- `text::write::put_begin` meets its contract. Assumes nothing.
use native.Mathlib.Omega.{arith}
use lib.ListN.{take}
use Rattle.rule.specs.Nodes.{form_in}
use Rattle.text.proofs.StackLaws.{begins_alike}
use Rattle.text.proofs.HoldLaws.{holds_as, holds_here}
use Rattle.text.proofs.write.put_begin.Goals as goal

pub returns-in_default : goal.returns-in_default
returns-in_default c =
    let ws = take c.args.n c.args.table.now in
    holds_as (begins_alike form_in c.args.word ws c.in_default.not-Once c.in_default.not-Sofar c.in_default.not-Or)
    (holds_here c.args.table.now c.args.n (omega (arith, c.requires.0)) c.requires.1)
