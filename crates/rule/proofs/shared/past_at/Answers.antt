-- `rule::shared::past_at` meets its contract: past the last node the table has a false. Assumes nothing.
use mathlib.Core.Path.{sym, ap, ◌∙◌}
use native.Mathlib.Omega.{arith}
use Rattle.spec.specs.Rule.{is_past}
use Rattle.rule.specs.Nodes.{node_by}
use Rattle.rule.proofs.EachLaws.{length_each}
use Rattle.rule.proofs.EitherLaws.{past_by, node_by_lem, past_end}
use Rattle.rule.proofs.shared.past_at.Goals as goal

pub returns-then-k-rule : goal.returns-then-k-rule
returns-then-k-rule g c =
    let b = g.W.Word.IS_WIDE in
    c.is_past.ensures ∙ past_by _ b ∙ ap is_past (ap (node_by b) c.word_at.ensures ∙ sym (node_by_lem b (g.W.Word.numbers c.args.rule.now) c.args.k))

pub returns-else-k-rule : goal.returns-else-k-rule
returns-else-k-rule g c =
    let there = length_each g.met.W.Word.each c.args.rule.now in
    sym (ap is_past (past_end g.W.Word.IS_WIDE (g.W.Word.numbers c.args.rule.now) c.args.k (omega (arith, c.if-k-rule.false))))
