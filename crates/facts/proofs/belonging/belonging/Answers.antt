-- `facts::belonging::belonging` meets its contract: a past node is a since or a weak previous node, and one with a work bit is past or used
-- twice (`GroupLaws`). Assumes nothing.
use Rattle.spec.specs.Rule.{table_of}
use Rattle.rule.specs.Nodes.{form_in}
use Rattle.facts.proofs.GroupLaws.{past_is, work_nodes, belonging_is}
use Rattle.facts.proofs.belonging.belonging.Goals as goal

pub returns : goal.returns
returns c = let t = table_of form_in c.args.rule.now in
    let past = past_is t _ _ _ c.union-past.ensures c.group-g.ensures.sinces c.group-g.ensures.weak in
    let work = work_nodes t _ _ _ c.union-work.ensures past c.used_twice.ensures in
    belonging_is t _ c.group-g.ensures.nodes c.group-g.ensures.nodes past past past work past
