-- `checker::closing::first_facts` meets its contract: the first facts before closing, and closing (`GroupLaws.first_is`). Assumes nothing.
use mathlib.Core.Path.{ap, ◌∙◌}
use Rattle.spec.specs.Facts.{first_facts, close}
use Rattle.facts.proofs.GroupLaws.{past_is, first_is}
use Rattle.rule.specs.Nodes.{table_in}
use Rattle.checker.proofs.PassLaws.{emptied}
use Rattle.checker.proofs.closing.first_facts.Goals as goal

pub returns : goal.returns
unfolding first_facts
returns c = let t = table_in c.args.rule.now in
    let d = c.default.ensures in
    let past = past_is t _ _ _ c.union.ensures c.group-g.ensures.sinces c.group-g.ensures.weak in
    c.close_facts.ensures ∙ ap (close t) (first_is t _ (emptied _ d.0) (emptied _ d.1.0) c.group-g.ensures.weak c.group-g.ensures.sinces past (emptied _ d.1.1.1.1.1.0) (emptied _ d.1.1.1.1.1.1))
