-- `checker::question::facts_follow` meets its contract: both ways. Assumes nothing.
use mathlib.Core.Path.{ap, ◌∙◌}
use Rattle.spec.specs.Facts.{close}
use Rattle.rule.specs.Nodes.{table_in}
use Rattle.checker.proofs.PassLaws.{few_nodes}
use Rattle.checker.proofs.AskLaws.{follow_is}
use Rattle.checker.proofs.question.facts_follow.Goals as goal

pub close_facts-x-requires : goal.close_facts-x-requires
close_facts-x-requires g c = few_nodes c.args.rule.now c.requires.0.0.0

pub target_follows-requires : goal.target_follows-requires
target_follows-requires g c = (c.requires.0, (c.requires.1, c.close_facts-x.ensures ∙ ap (close (table_in c.args.rule.now)) c.read_facts.ensures))

pub next_follows-requires : goal.next_follows-requires
next_follows-requires g c = (c.requires.0, (c.requires.1, c.close_facts-x.ensures ∙ ap (close (table_in c.args.rule.now)) c.read_facts.ensures))

pub returns : goal.returns
returns g c = follow_is c.args.rule.now g.W.Word.IS_WIDE (g.W.Word.numbers c.args.script.now) c.args.l c.requires.1 _ _ c.target_follows.ensures c.next_follows.ensures
