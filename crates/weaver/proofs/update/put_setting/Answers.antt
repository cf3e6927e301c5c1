-- `weaver::update::put_setting` meets its contract: two lines, and one after them. Assumes nothing.
use mathlib.Core.List.{[], ◌∷◌}
use mathlib.Core.Bool.{true, false}
use mathlib.Core.Path.{refl, ◌∙◌}
use Prim.Native.Nat.{◌+◌, ◌-◌}
use Rattle.spec.specs.Weaver.{line, setting}
use Rattle.spec.specs.Facts.{value_is, work_is_next, ◌∪◌, one, provided}
use Rattle.spec.specs.Script.{word_for, fields_for, set_work, goto}
use Rattle.facts.specs.FactSets.{facts_of}
use Rattle.facts.proofs.OverLaws.{one_line, two_lines, written_then}
use Rattle.weaver.proofs.GrowthLaws.{add_first, add_second}
use native.Mathlib.Omega.{arith}
use Rattle.weaver.proofs.update.put_setting.Goals as goal

pub returns : goal.returns
unfolding word_for fields_for setting provided
returns g c = let a = c.args in let wide = g.W.Word.IS_WIDE in let out = g.W.Word.numbers a.out.now in let p0 = c.requires.0 in let p1 = c.requires.1 in let p2 = c.requires.2 in let p3 = c.requires.3 in let p4 = c.requires.4 in
    let F = facts_of a.x in
    let at = a.place - a.base in
    written_then wide at (at + 2) (line (set_work a.k true) (F ∪ one (value_is true) a.v) ∷ line (goto (a.place + 3)) (F ∪ one work_is_next a.k) ∷ []) (line (set_work a.k false) (F ∪ one (value_is false) a.v) ∷ []) out _ _ refl (omega arith)
    (two_lines wide at out _ _ _ (set_work a.k true) (goto (a.place + 3)) (F ∪ one (value_is true) a.v) (F ∪ one work_is_next a.k) _ _ c.encode.ensures (c.learn_value-y.ensures ∙ add_first F (one (value_is true) a.v) (one (value_is false) a.v)) c.encode-2.ensures c.with_work-z.ensures c.put_two.ensures)
    (one_line wide (at + 2) _ _ _ (set_work a.k false) (F ∪ one (value_is false) a.v) _ c.encode-3.ensures (c.learn_value.ensures ∙ add_second F (one (value_is true) a.v) (one (value_is false) a.v)) c.put_line.ensures)
