-- `weaver::update::put_left` meets its contract: two lines, and the code deciding left after them. Assumes nothing.
use mathlib.Core.List.{[], ◌∷◌, ◌++◌}
use mathlib.Core.Bool.{true, false}
use mathlib.Core.Path.{◌≡◌, refl, ap, ◌∙◌}
use Prim.Native.Nat.{◌+◌, ◌-◌}
use Rattle.spec.specs.Weaver.{line, decide}
use Rattle.spec.specs.Facts.{prior_is, ◌∪◌, one}
use Rattle.spec.specs.Script.{word_for, fields_for, branch, if_kept, goto}
use Rattle.rule.specs.Nodes.{table_in}
use Rattle.facts.specs.FactSets.{facts_of}
use Rattle.facts.proofs.OverLaws.{two_lines, written_then, written_as}
use Rattle.weaver.proofs.UpdateLaws.{deciding_some}
use Rattle.weaver.proofs.GrowthLaws.{add_first, add_second}
use Rattle.weaver.specs.Parts.{left_lines}
use native.Mathlib.Omega.{arith}
use Rattle.weaver.proofs.update.put_left.Goals as goal

pub encode-requires : goal.encode-requires
encode-requires g c = let s = deciding_some _ _ _ _ _ _ _ _ _ c.requires.2 in let i = c.requires.2.in_script in let o = c.requires.2.in_output in let t = c.requires.2.false_line in let k = c.requires.0 in let f = c.requires.1 in (omega arith, omega arith, omega arith, omega arith)

pub returns : goal.returns
unfolding word_for fields_for left_lines
returns g c = let a = c.args in let wide = g.W.Word.IS_WIDE in let out = g.W.Word.numbers a.out.now in let s = deciding_some _ _ _ _ _ _ _ _ _ c.requires.2 in let i = c.requires.2.in_script in let o = c.requires.2.in_output in let t = c.requires.2.false_line in let k = c.requires.0 in let f = c.requires.1 in
    let F = facts_of a.x in
    let t = table_in a.rule.now.nodes.now in
    let at = a.place - a.base in
    let two = line (branch (if_kept a.k) (a.place + 2)) F ∷ line (goto (a.set_at + 2)) (F ∪ one (prior_is false) a.k) ∷ [] in
    let then = decide t a.left (a.place + 2) a.set_at (a.set_at + 2) (facts_of c.learn_prior-z.result) in
    let next : a.place + 2 - a.base ≡ at + 2 = omega arith in
    written_as wide at (two ++ then) _ out _
    (ap (λ G. two ++ decide t a.left (a.place + 2) a.set_at (a.set_at + 2) G) (c.learn_prior-z.ensures ∙ add_first F (one (prior_is true) a.k) (one (prior_is false) a.k)))
    (written_then wide at (a.place + 2 - a.base) two then out _ _ next (omega arith)
    (two_lines wide at out _ _ _ (branch (if_kept a.k) (a.place + 2)) (goto (a.set_at + 2)) F (F ∪ one (prior_is false) a.k) _ _ c.encode.ensures refl c.encode-2.ensures (c.learn_prior-y.ensures ∙ add_second F (one (prior_is true) a.k) (one (prior_is false) a.k)) c.put_two.ensures)
    c.put_decision.ensures)
