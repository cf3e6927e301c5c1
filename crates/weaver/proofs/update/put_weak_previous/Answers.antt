-- `weaver::update::put_weak_previous` meets its contract: deciding the operand, and the setting after it (`UpdateLaws`). Assumes nothing.
use mathlib.Core.List.{◌++◌}
use mathlib.Core.Path.{◌≡◌}
use Prim.Native.Nat.{◌+◌, ◌-◌}
use lib.ListN.{length, get_or}
use Rattle.spec.proofs.WeaverLaws.{length_decide}
use Rattle.spec.proofs.RuleLaws.{rule_out}
use Rattle.spec.specs.Weaver.{decide, setting}
use Rattle.rule.specs.Nodes.{form_in, table_in}
use Rattle.facts.specs.FactSets.{facts_of}
use Rattle.facts.proofs.OverLaws.{written_then, written_as}
use Rattle.weaver.proofs.DecisionLaws.{kept_length}
use Rattle.weaver.proofs.UpdateLaws.{weak_space, weak_left_size, weak_size, weak_left, weak_code}
use native.Mathlib.Omega.{arith}
use Rattle.weaver.proofs.update.put_weak_previous.Goals as goal

pub offset_bounds-rule-left : goal.offset_bounds-rule-left
offset_bounds-rule-left g c = let a = c.args in let s = weak_space c.requires.0 c.requires.1 in let s0 = s.0 in let s1 = s.1.0 in let i = s.1.1 in let b = s.1.2 in let o = s.1.3 in omega arith

pub bounds-rule-left : goal.bounds-rule-left
bounds-rule-left g c = let a = c.args in let s = weak_space c.requires.0 c.requires.1 in let s0 = s.0 in let s1 = s.1.0 in let i = s.1.1 in let b = s.1.2 in let o = s.1.3 in omega arith

pub put_decision-requires : goal.put_decision-requires
put_decision-requires g c = let a = c.args in weak_left c.requires.0 c.requires.1

pub put_setting-requires : goal.put_setting-requires
put_setting-requires g c = let a = c.args in let s = weak_space c.requires.0 c.requires.1 in let s0 = s.0 in let s1 = s.1.0 in let i = s.1.1 in let b = s.1.2 in let o = s.1.3 in let m = (kept_length g.met.W.Word.each _ _ c.put_decision.auto.out) in (omega arith, omega arith, omega arith, omega arith, omega arith)

pub returns : goal.returns
returns g c = let a = c.args in let wide = g.W.Word.IS_WIDE in let out = g.W.Word.numbers a.out.now in let s = weak_space c.requires.0 c.requires.1 in let s0 = s.0 in let s1 = s.1.0 in let i = s.1.1 in let b = s.1.2 in let o = s.1.3 in
    let F = facts_of a.x in
    let t = table_in a.rule.now.nodes.now in
    let n = get_or a.rule.now.sizes.now a.left 0 in
    let at = a.place - a.base in
    let first = decide t a.left a.place (a.place + n) (a.place + n + 2) F in
    let z = weak_left_size c.requires.0 c.requires.1 in
    let d = length_decide t (rule_out form_in a.rule.now.nodes.now c.requires.0.sized.0).ordered a.left a.place (a.place + n) (a.place + n + 2) F in
    let next : a.place + n - a.base ≡ at + length first = omega arith in (
      weak_size c.requires.0 c.requires.1,
      written_as wide at (first ++ setting a.k a.left (a.place + n) F) _ out _ (weak_code c.requires.0 c.requires.1 F)
          (written_then wide at (a.place + n - a.base) first (setting a.k a.left (a.place + n) F) out _ _ next (omega arith) c.put_decision.ensures c.put_setting.ensures),
    )
