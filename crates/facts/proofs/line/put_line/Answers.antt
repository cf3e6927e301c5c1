-- `facts::line::put_line` meets its contract: its eight words, four after four (`PutLaws`, `OverLaws`). Assumes nothing.
use mathlib.Core.Path.{refl, sym, ap, ◌∙◌}
use mathlib.Core.List.{[], ◌∷◌, map}
use Prim.Native.Nat.{◌+◌, ◌*◌}
use Rattle.rule.specs.Nodes.{over_at}
use Rattle.rule.proofs.EachLaws.{length_each}
use Rattle.rule.proofs.PutLaws.{over_then}
use Rattle.facts.specs.Written.{set_stored, stored_line}
use Rattle.facts.proofs.OverLaws.{set_word, first_word}
use Rattle.moves.specs.Moves.{widen_word}
use native.Mathlib.Omega.{arith}
use Rattle.facts.proofs.line.put_line.Goals as goal

pub returns : goal.returns
unfolding stored_line
returns g c =
    let a = c.args in
    let b = g.W.Word.IS_WIDE in
    let i = 8 * a.place in
    let o = g.W.Word.numbers a.out.now in
    let there = length_each g.met.W.Word.each a.out.now in
    let h = c.requires in
    over_then i (i + 4) (map (set_stored b) (widen_word a.word ∷ a.x.t ∷ a.x.f ∷ a.x.a ∷ [])) (map (set_stored b) (a.x.b ∷ a.x.m ∷ a.x.w ∷ a.x.c ∷ [])) o _ _ refl (omega arith)
    c.put_four.ensures c.put_four-2.ensures
    ∙ ap (λ v. over_at i (v ∷ map (set_stored b) (a.x.t ∷ a.x.f ∷ a.x.a ∷ a.x.b ∷ a.x.m ∷ a.x.w ∷ a.x.c ∷ [])) o)
    (sym (set_word b (widen_word a.word) (omega (arith, c.ranges.word.fits))) ∙ first_word b a.word)
