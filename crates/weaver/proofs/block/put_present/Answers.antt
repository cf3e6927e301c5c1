-- `weaver::block::put_present` meets its contract: a line, and the 12s after it. Assumes nothing.
use mathlib.Core.List.{[], ◌∷◌}
use mathlib.Core.Bool.{true, false}
use mathlib.Core.Path.{refl, ◌∙◌}
use Prim.Native.Nat.{◌+◌, ◌-◌}
use lib.ListN.{length}
use Rattle.spec.specs.Weaver.{line, keeps}
use Rattle.spec.specs.Facts.{value_is, ◌∪◌, one}
use Rattle.spec.specs.Script.{present, word_for, fields_for}
use Rattle.rule.specs.Nodes.{table_in}
use Rattle.facts.specs.FactSets.{facts_of}
use Rattle.facts.proofs.OverLaws.{one_line, written_then, written_as}
use Rattle.weaver.proofs.BlockLaws.{present_code}
use Rattle.weaver.proofs.GrowthLaws.{add_first}
use native.Mathlib.Omega.{arith}
use Rattle.weaver.proofs.block.put_present.Goals as goal

pub returns : goal.returns
unfolding word_for fields_for
returns g c = let a = c.args in let wide = g.W.Word.IS_WIDE in let out = g.W.Word.numbers a.out.now in let p0 = c.requires.0 in let p1 = c.requires.1 in let o = c.requires.3 in
    let F = facts_of a.x in
    let t = table_in a.rule.now.nodes.now in
    let last = length a.rule.now.nodes.now - 1 in
    written_as wide a.at _ _ out _ (present_code a.rule.now.nodes.now F)
    (written_then wide a.at (a.at + 1) (line present (F ∪ one (value_is true) last) ∷ []) (keeps (length a.rule.now.nodes.now) t) out _ _ refl (omega arith)
    (one_line wide a.at out _ _ present (F ∪ one (value_is true) last) _ c.encode.ensures (c.learn_value.ensures ∙ add_first F (one (value_is true) last) (one (value_is false) last)) c.put_line.ensures)
    c.put_keeps.ensures)
