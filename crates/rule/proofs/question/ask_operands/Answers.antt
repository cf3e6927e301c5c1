-- `rule::question::ask_operands` meets its contract: the loop is a scan for the lowest failing place (`QuestionLaws`), and with the nodes from k on the
-- tallies are those of the table (`TallyLaws`). Assumes nothing.
use mathlib.Core.Path.{sym, ap, ◌∙◌}
use native.Mathlib.Omega.{arith}
use lib.Dec.{ltb}
use Rattle.spec.specs.Questions.{all, ask}
use Rattle.spec.specs.Rule.{operands, operands_lower, question3}
use Rattle.spec.proofs.QuestionLaws.{scanned_start, scanned_next, scan_no, scan_yes}
use Rattle.spec.proofs.RuleLaws.{length_table}
use Rattle.sets.proofs.SetLaws.{empty_is}
use Rattle.rule.specs.Nodes.{form_by, table_by}
use Rattle.rule.specs.Tally.{tallies_of, mention_all}
use Rattle.rule.proofs.EachLaws.{length_each, node_each}
use Rattle.rule.proofs.EitherLaws.{lower_by}
use Rattle.rule.proofs.TallyLaws.{tally_start, tally_next, tally_end}
use Rattle.rule.proofs.question.ask_operands.Goals as goal

pub loop-k-init : goal.loop-k-init
loop-k-init g c =
    let r = g.W.Word.numbers c.args.rule.now in
    let b = g.W.Word.IS_WIDE in
    (scanned_start (operands_lower (table_by b r)) _, tally_start b r _ (λ i. record { once = empty_is i; twice = empty_is i }))

pub returns-then-not-operands_lower : goal.returns-then-not-operands_lower
unfolding question3
returns-then-not-operands_lower g c =
    let r = g.W.Word.numbers c.args.rule.now in
    let b = g.W.Word.IS_WIDE in
    let k = c.loop-k.k in
    sym (scan_no 3 _ (operands_lower (table_by b r)) k c.loop-k-test.true
    (lower_by b r k ∙ ap (λ x. all (λ j. ltb j k) (operands x)) (sym (c.read_either-x.ensures.node ∙ node_each g.met.W.Word.each c.args.rule.now g.W.Word.IS_WIDE c.loop-k.k _ _ c.loop-k-test.true c.index-rule-k.is c.widen.ensures _ c.IS_WIDE.ensures)) ∙ sym c.operands_lower.ensures ∙ c.if-not-operands_lower.true)
    c.loop-k.invariant.0
    ∙ ap (λ m. ask 3 m (operands_lower (table_by b r))) (sym (length_table (form_by b) r ∙ length_each g.met.W.Word.each c.args.rule.now)))

pub loop-k-preserved : goal.loop-k-preserved
loop-k-preserved g c =
    let r = g.W.Word.numbers c.args.rule.now in
    let b = g.W.Word.IS_WIDE in
    let k = c.loop-k.k in
    let s = tallies_of c.loop-k.s in
    let there = length_each g.met.W.Word.each c.args.rule.now in (
      scanned_next (operands_lower (table_by b r)) _ k c.loop-k-test.true
          (lower_by b r k ∙ ap (λ x. all (λ j. ltb j k) (operands x)) (sym (c.read_either-x.ensures.node ∙ node_each g.met.W.Word.each c.args.rule.now g.W.Word.IS_WIDE c.loop-k.k _ _ c.loop-k-test.true c.index-rule-k.is c.widen.ensures _ c.IS_WIDE.ensures)) ∙ sym c.operands_lower.ensures ∙ c.if-not-operands_lower.false)
          c.loop-k.invariant.0,
      tally_next b r k s _ (omega (arith, c.loop-k-test.true))
          (c.mention_operands-s.ensures ∙ ap (λ x. mention_all s (operands x)) (c.read_either-x.ensures.node ∙ node_each g.met.W.Word.each c.args.rule.now g.W.Word.IS_WIDE c.loop-k.k _ _ c.loop-k-test.true c.index-rule-k.is c.widen.ensures _ c.IS_WIDE.ensures)) c.loop-k.invariant.1,
    )

pub returns : goal.returns
unfolding question3
returns g c =
    let r = g.W.Word.numbers c.args.rule.now in
    let b = g.W.Word.IS_WIDE in
    let k = c.loop-k.k in
    let there = length_each g.met.W.Word.each c.args.rule.now in (
      sym (scan_yes 3 _ (operands_lower (table_by b r)) k c.loop-k-test.false c.loop-k.invariant.0
          ∙ ap (λ m. ask 3 m (operands_lower (table_by b r))) (sym (length_table (form_by b) r ∙ there))),
      tally_end b r k _ (omega (arith, c.loop-k-test.false)) c.loop-k.invariant.1,
    )
