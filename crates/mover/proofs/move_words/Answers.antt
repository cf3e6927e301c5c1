-- `mover::move_words` meets its contract: the loop keeps that the first words have moved (`CopyLaws`). Assumes nothing.
use mathlib.Core.Path.{sym, subst, ap, ◌∙◌}
use native.Mathlib.Omega.{arith}
use mathlib.Core.List.{map, ◌++◌}
use lib.ListN.{drop, length-map}
use Prim.Native.Nat.{◌+◌}
use Rattle.rule.specs.Nodes.{words_in, word_by}
use Rattle.rule.proofs.CopyLaws.{Copied, copied_start, copied_next, copied_end}
use Rattle.rule.proofs.EachLaws.{length_each, word_each, set_each}
use Rattle.rule.proofs.EitherLaws.{length_by}
use Rattle.mover.proofs.move_words.Goals as goal

pub loop-i-init : goal.loop-i-init
loop-i-init g c =
    copied_start (word_by g.B.Word.IS_WIDE) (words_in g.A.Word.IS_WIDE (g.A.Word.numbers c.args.script.now)) (g.B.Word.numbers c.args.out.now)

pub loop-i-preserved : goal.loop-i-preserved
loop-i-preserved g c =
    let moved = word_by g.B.Word.IS_WIDE in
    let from = c.args.script.now in
    let ws = words_in g.A.Word.IS_WIDE (g.A.Word.numbers from) in
    let out = g.B.Word.numbers c.args.out.now in
    let here = length_each g.met.A.Word.each from in
    let words = length_by g.A.Word.IS_WIDE (g.A.Word.numbers from) in
    let is = word_each g.met.A.Word.each from g.A.Word.IS_WIDE c.loop-i.i c.index-script-i.result c.widen.result c.loop-i-test.true c.index-script-i.is c.widen.ensures in
    subst (Copied moved ws out (c.loop-i.i + 1))
    (sym (set_each g.met.B.Word.each c.loop-i.out c.loop-i.i c.narrow.result))
    (copied_next moved ws out c.loop-i.i (g.B.Word.numbers c.loop-i.out) (g.B.Word.number c.narrow.result)
    (omega (arith, c.requires)) (omega (arith, c.loop-i-test.true)) (c.narrow.ensures ∙ ap moved is) c.loop-i.invariant)

pub returns : goal.returns
returns g c =
    let moved = word_by g.B.Word.IS_WIDE in
    let from = c.args.script.now in
    let ws = words_in g.A.Word.IS_WIDE (g.A.Word.numbers from) in
    let out = g.B.Word.numbers c.args.out.now in
    let here = length_each g.met.A.Word.each from in
    let words = length_by g.A.Word.IS_WIDE (g.A.Word.numbers from) in
    copied_end moved ws out c.loop-i.i _ (omega (arith, c.loop-i-test.false)) c.loop-i.invariant
    ∙ ap (λ n. map moved ws ++ drop n out) (sym (length-map ws moved))
