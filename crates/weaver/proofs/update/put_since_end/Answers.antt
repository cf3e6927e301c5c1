-- `weaver::update::put_since_end` meets its contract: `put_left`, and the setting after it (`UpdateLaws`). Assumes nothing.
use mathlib.Core.List.{◌++◌}
use mathlib.Core.Bool.{true, false}
use mathlib.Core.Path.{◌≡◌, ap₂, ◌∙◌}
use Prim.Native.Nat.{◌+◌, ◌-◌}
use lib.ListN.{length, get_or}
use Rattle.spec.proofs.RuleLaws.{rule_out}
use Rattle.spec.specs.Weaver.{setting}
use Rattle.spec.specs.Facts.{value_is, one}
use Rattle.rule.specs.Nodes.{form_in, table_in}
use Rattle.facts.specs.FactSets.{facts_of}
use Rattle.facts.proofs.OverLaws.{written_then, written_as}
use Rattle.weaver.proofs.DecisionLaws.{kept_length}
use Rattle.weaver.proofs.UpdateLaws.{end_few, end_size, end_left, length_left}
use Rattle.weaver.proofs.GrowthLaws.{add_second}
use Rattle.weaver.specs.Parts.{left_lines, since_end}
use native.Mathlib.Omega.{arith}
use Rattle.weaver.proofs.update.put_since_end.Goals as goal

pub bounds-rule-left : goal.bounds-rule-left
bounds-rule-left g c = let a = c.args in let z = end_size c.requires in let i = c.requires.in_script in let o = c.requires.in_output in let b = c.requires.from_base in let f0 = (end_few c.requires).0 in let f1 = (end_few c.requires).1 in let f2 = (end_few c.requires).2 in omega arith

pub learn_value-y-requires : goal.learn_value-y-requires
learn_value-y-requires g c = let a = c.args in let z = end_size c.requires in let i = c.requires.in_script in let o = c.requires.in_output in let b = c.requires.from_base in let f0 = (end_few c.requires).0 in let f1 = (end_few c.requires).1 in let f2 = (end_few c.requires).2 in omega arith

pub put_left-requires : goal.put_left-requires
put_left-requires g c = let a = c.args in let z = end_size c.requires in let i = c.requires.in_script in let o = c.requires.in_output in let b = c.requires.from_base in let f0 = (end_few c.requires).0 in let f1 = (end_few c.requires).1 in let f2 = (end_few c.requires).2 in (omega arith, b, end_left c.requires)

pub put_setting-requires : goal.put_setting-requires
put_setting-requires g c = let a = c.args in let z = end_size c.requires in let i = c.requires.in_script in let o = c.requires.in_output in let b = c.requires.from_base in let f0 = (end_few c.requires).0 in let f1 = (end_few c.requires).1 in let f2 = (end_few c.requires).2 in let s = (kept_length g.met.W.Word.each _ _ c.put_left.auto.out) in (omega arith, omega arith, omega arith, omega arith, omega arith)

pub returns : goal.returns
unfolding since_end
returns g c = let a = c.args in let wide = g.W.Word.IS_WIDE in let out = g.W.Word.numbers a.out.now in let z = end_size c.requires in let i = c.requires.in_script in let o = c.requires.in_output in let b = c.requires.from_base in let f0 = (end_few c.requires).0 in let f1 = (end_few c.requires).1 in let f2 = (end_few c.requires).2 in
    let F = facts_of a.x in
    let t = table_in a.rule.now.nodes.now in
    let n = get_or a.rule.now.sizes.now a.left 0 in
    let G = facts_of c.learn_value-y.result in
    let at = a.place - a.base in
    let set = a.place + 2 + n in
    let first = left_lines t a.k a.left a.place set G in
    let d = length_left t (rule_out form_in a.rule.now.nodes.now c.requires.sized.0).ordered a.k a.left a.place set G in
    let next : set - a.base ≡ at + length first = omega arith in
    written_as wide at (first ++ setting a.k a.k set F) _ out _
    (ap₂ (λ H m. left_lines t a.k a.left a.place (a.place + 2 + m) H ++ setting a.k a.k (a.place + 2 + m) F) (c.learn_value-y.ensures ∙ add_second F (one (value_is true) a.right) (one (value_is false) a.right)) z)
    (written_then wide at (set - a.base) first (setting a.k a.k set F) out _ _ next (omega arith) c.put_left.ensures c.put_setting.ensures)
