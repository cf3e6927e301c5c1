-- `weaver::weave` meets its contract: the rule in the second form weaves to the same lines (`WeaveLaws.wove_second`). Assumes nothing.
use native.Mathlib.Omega.{arith}
use Rattle.rule.proofs.EachLaws.{length_each}
use Rattle.weaver.proofs.WeaveLaws.{many_no, wove_second}
use Rattle.weaver.proofs.weave.Goals as goal

pub returns-then-most_nodes-rule : goal.returns-then-most_nodes-rule
returns-then-most_nodes-rule g c =
    let a = c.args in
    let there = length_each g.met.W.Word.each a.rule.now in
    let both = many_no g.W.Word.IS_WIDE (g.W.Word.numbers a.rule.now) a.bare.now (g.W.Word.numbers a.out.now) (omega (arith, c.most_nodes.ensures, c.if-most_nodes-rule.true)) in
    record { answer = both.0; output = both.1.0; accepted = both.1.1 }

pub returns : goal.returns
returns g c =
    let a = c.args in
    let there = length_each g.met.W.Word.each a.rule.now in
    let both = wove_second g.W.Word.IS_WIDE (g.W.Word.numbers a.rule.now) a.bare.now (g.W.Word.numbers a.out.now) _ _ _ (omega (arith, c.most_nodes.ensures, c.if-most_nodes-rule.false)) c.in_second_form.ensures c.weave_in.ensures in
    record { answer = both.0; output = both.1.0; accepted = both.1.1 }
