-- `rule::question::tally` meets its contract. The loop keeps: with the nodes from k on, the tallies are those of the table (`TallyLaws`).
-- Assumes nothing.
use mathlib.Core.Path.{ap, ◌∙◌}
use native.Mathlib.Omega.{arith}
use Rattle.spec.specs.Rule.{operands}
use Rattle.sets.proofs.SetLaws.{empty_is}
use Rattle.rule.specs.Tally.{tallies_of, mention_all}
use Rattle.rule.proofs.EachLaws.{length_each, node_each}
use Rattle.rule.proofs.TallyLaws.{tally_start, tally_next, tally_end}
use Rattle.rule.proofs.question.tally.Goals as goal

pub loop-word-init : goal.loop-word-init
loop-word-init g c = tally_start g.W.Word.IS_WIDE (g.W.Word.numbers c.args.rule.now) _ (λ i. record { once = empty_is i; twice = empty_is i })

pub loop-word-preserved : goal.loop-word-preserved
loop-word-preserved g c =
    let there = length_each g.met.W.Word.each c.args.rule.now in
    let s = tallies_of c.loop-word.s in
    tally_next g.W.Word.IS_WIDE (g.W.Word.numbers c.args.rule.now) c.loop-word.word-index s _ (omega (arith, c.loop-word-test.true))
    (c.mention_operands-s.ensures ∙ ap (λ x. mention_all s (operands x)) (c.read_either.ensures.node ∙ node_each g.met.W.Word.each c.args.rule.now g.W.Word.IS_WIDE c.loop-word.word-index _ _ c.loop-word-test.true c.word-item.is c.widen.ensures _ c.IS_WIDE.ensures)) c.loop-word.invariant

pub returns : goal.returns
returns g c =
    let there = length_each g.met.W.Word.each c.args.rule.now in
    tally_end g.W.Word.IS_WIDE (g.W.Word.numbers c.args.rule.now) c.loop-word.word-index _ (omega (arith, c.loop-word-test.false)) c.loop-word.invariant
