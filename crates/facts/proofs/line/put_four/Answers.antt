-- `facts::line::put_four` meets its contract: one word after another (`PutLaws`). Assumes nothing.
use mathlib.Core.Path.{refl, ap, ◌∙◌}
use mathlib.Core.List.{[], ◌∷◌}
use Prim.Native.Nat.{◌+◌}
use Rattle.rule.specs.Nodes.{word_by, over_at}
use Rattle.rule.proofs.EachLaws.{length_each}
use Rattle.rule.proofs.PutLaws.{over_then}
use Rattle.facts.proofs.OverLaws.{set_word}
use native.Mathlib.Omega.{arith}
use Rattle.facts.proofs.line.put_four.Goals as goal

pub returns : goal.returns
returns g c =
    let a = c.args in
    let b = g.W.Word.IS_WIDE in
    let i = a.i in
    let o = g.W.Word.numbers a.out.now in
    let there = length_each g.met.W.Word.each a.out.now in
    let h = c.requires in
    over_then i (i + 3) (word_by b a.first ∷ word_by b a.second ∷ word_by b a.third ∷ []) (word_by b a.fourth ∷ []) o _ _ refl (omega arith)
    (over_then i (i + 2) (word_by b a.first ∷ word_by b a.second ∷ []) (word_by b a.third ∷ []) o _ _ refl (omega arith)
    (over_then i (i + 1) (word_by b a.first ∷ []) (word_by b a.second ∷ []) o _ _ refl (omega arith)
    c.put_word.ensures c.put_word-2.ensures) c.put_word-3.ensures) c.put_word-4.ensures
    ∙ ap (λ ws. over_at i ws o) (λ k.
    set_word b a.first c.ranges.first.fits k ∷ set_word b a.second c.ranges.second.fits k ∷ set_word b a.third c.ranges.third.fits k
    ∷ set_word b a.fourth c.ranges.fourth.fits k ∷ [])
