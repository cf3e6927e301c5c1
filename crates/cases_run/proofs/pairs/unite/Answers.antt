-- `cases_run::pairs::unite` meets its contract: the loop keeps that the first i words are the union's (`PairLaws`). Assumes nothing.
use native.Mathlib.Omega.{arith}
use lib.ListN.{length}
use Rattle.rule.proofs.EachLaws.{length_each}
use Rattle.cases_run.proofs.PairLaws.{uniting_start, uniting_next, uniting_end}
use Rattle.cases_run.proofs.pairs.unite.Goals as goal

pub loop-i-init : goal.loop-i-init
loop-i-init g c = uniting_start g.W.Word.IS_WIDE (g.W.Word.numbers c.args.script.now) (g.W.Word.numbers c.args.other.now)

pub loop-i-preserved : goal.loop-i-preserved
loop-i-preserved g c =
    let other = length_each g.met.W.Word.each c.args.other.now in
    let same = c.requires in
    uniting_next g.W.Word.IS_WIDE (g.W.Word.numbers c.args.script.now) (g.W.Word.numbers c.args.other.now) same c.loop-i.i _ _ _ _ _
    (omega (arith, c.loop-i-test.true)) c.word_at.ensures c.word_at-in-loop-i.ensures c.united.ensures c.put_word.ensures c.loop-i.invariant

pub returns : goal.returns
returns g c =
    let other = length_each g.met.W.Word.each c.args.other.now in
    uniting_end g.W.Word.IS_WIDE (g.W.Word.numbers c.args.script.now) (g.W.Word.numbers c.args.other.now) c.requires c.loop-i.i _
    (omega (arith, c.requires, c.loop-i-test.false)) c.loop-i.invariant
