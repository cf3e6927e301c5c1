-- `text::table::put_true` meets its contract, by `HoldLaws`. Assumes nothing.
use native.Mathlib.Omega.{arith}
use Rattle.rule.specs.Nodes.{form_in}
use Rattle.spec.specs.Rule.{false_node}
use Rattle.text.specs.Building.{put_not, put_true}
use Rattle.text.proofs.HoldLaws.{holds_after, count_put}
use Rattle.text.proofs.table.put_true.Goals as goal

pub put_not-requires : goal.put_not-requires
put_not-requires c =
    let h = c.put_false-a.ensures in
    let k = count_put c.args.table.now _ c.args.n _ (omega (arith, c.requires.0)) c.requires.1 false_node h in
    (omega (arith, k, c.requires.0), h.long)

pub returns : goal.returns
unfolding put_true
returns c = holds_after (put_not form_in) c.put_false-a.ensures c.put_not.ensures
