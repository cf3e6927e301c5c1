-- `weaver::update::put_since` meets its contract: deciding right, and what follows after it (`UpdateLaws`). Assumes nothing.
use mathlib.Core.List.{◌++◌}
use mathlib.Core.Path.{◌≡◌}
use Prim.Native.Nat.{◌+◌, ◌-◌}
use lib.ListN.{length, get_or}
use Rattle.spec.proofs.WeaverLaws.{length_decide}
use Rattle.spec.proofs.RuleLaws.{rule_out}
use Rattle.spec.specs.Weaver.{decide}
use Rattle.rule.specs.Nodes.{form_in, table_in}
use Rattle.facts.specs.FactSets.{facts_of}
use Rattle.facts.proofs.OverLaws.{written_then, written_as}
use Rattle.weaver.proofs.DecisionLaws.{kept_length}
use Rattle.weaver.proofs.UpdateLaws.{since_space, since_size, right_size, since_right, since_end_lem, since_code}
use Rattle.weaver.specs.Parts.{since_end}
use native.Mathlib.Omega.{arith}
use Rattle.weaver.proofs.update.put_since.Goals as goal

pub offset_bounds-rule-right : goal.offset_bounds-rule-right
offset_bounds-rule-right g c = let a = c.args in let s = since_space c.requires.0 c.requires.1 in let s0 = s.0 in let s1 = s.1 in let s2 = s.2.0 in let i = s.2.1 in let b = s.2.2 in let o = s.2.3 in omega arith

pub bounds-rule-right : goal.bounds-rule-right
bounds-rule-right g c = let a = c.args in let s = since_space c.requires.0 c.requires.1 in let s0 = s.0 in let s1 = s.1 in let s2 = s.2.0 in let i = s.2.1 in let b = s.2.2 in let o = s.2.3 in omega arith

pub offset_bounds-rule-left : goal.offset_bounds-rule-left
offset_bounds-rule-left g c = let a = c.args in let s = since_space c.requires.0 c.requires.1 in let s0 = s.0 in let s1 = s.1 in let s2 = s.2.0 in let i = s.2.1 in let b = s.2.2 in let o = s.2.3 in omega arith

pub bounds-rule-left : goal.bounds-rule-left
bounds-rule-left g c = let a = c.args in let s = since_space c.requires.0 c.requires.1 in let s0 = s.0 in let s1 = s.1 in let s2 = s.2.0 in let i = s.2.1 in let b = s.2.2 in let o = s.2.3 in omega arith

pub put_decision-requires : goal.put_decision-requires
put_decision-requires g c = let a = c.args in since_right c.requires.0 c.requires.1

pub put_since_end-requires : goal.put_since_end-requires
put_since_end-requires g c = let a = c.args in since_end_lem c.requires.0 c.requires.1 _ (kept_length g.met.W.Word.each _ _ c.put_decision.auto.out)

pub returns : goal.returns
returns g c = let a = c.args in let wide = g.W.Word.IS_WIDE in let out = g.W.Word.numbers a.out.now in let s = since_space c.requires.0 c.requires.1 in let s0 = s.0 in let s1 = s.1 in let s2 = s.2.0 in let i = s.2.1 in let b = s.2.2 in let o = s.2.3 in
    let F = facts_of a.x in
    let t = table_in a.rule.now.nodes.now in
    let n = get_or a.rule.now.sizes.now a.right 0 in
    let m = get_or a.rule.now.sizes.now a.left 0 in
    let at = a.place - a.base in
    let first = decide t a.right a.place (a.place + n + 2 + m) (a.place + n) F in
    let z = right_size c.requires.0 c.requires.1 in
    let d = length_decide t (rule_out form_in a.rule.now.nodes.now c.requires.0.sized.0).ordered a.right a.place (a.place + n + 2 + m) (a.place + n) F in
    let next : a.place + n - a.base ≡ at + length first = omega arith in (
      since_size c.requires.0 c.requires.1,
      written_as wide at (first ++ since_end t a.k a.left a.right (a.place + n) F) _ out _ (since_code c.requires.0 c.requires.1 F)
          (written_then wide at (a.place + n - a.base) first (since_end t a.k a.left a.right (a.place + n) F) out _ _ next (omega arith) c.put_decision.ensures c.put_since_end.ensures),
    )
