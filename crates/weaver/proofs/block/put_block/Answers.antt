-- `weaver::block::put_block` meets its contract: the code of the nodes with a work bit, and the guard after it (`BlockLaws`). Assumes nothing.
use mathlib.Core.List.{◌++◌}
use mathlib.Core.Path.{◌≡◌, ◌∙◌}
use Prim.Native.Nat.{◌+◌, ◌-◌}
use lib.ListN.{length}
use Rattle.spec.specs.Weaver.{done_facts, updates}
use Rattle.spec.proofs.RuleLaws.{rule_out}
use Rattle.rule.specs.Nodes.{form_in, table_in}
use Rattle.facts.specs.FactSets.{facts_of}
use Rattle.facts.proofs.OverLaws.{written_then, written_as}
use Rattle.weaver.proofs.DecisionLaws.{kept_length}
use Rattle.weaver.proofs.BlockLaws.{block_updatable, block_few, block_room, block_guarding, updates_length, block_code}
use Rattle.weaver.proofs.NotedLaws.{done_noted, work_set, all_below_lem}
use Rattle.weaver.specs.Parts.{guard_lines}
use native.Mathlib.Omega.{arith}
use Rattle.weaver.proofs.block.put_block.Goals as goal

pub put_updates-n-requires : goal.put_updates-n-requires
put_updates-n-requires g c = let a = c.args in let work = work_set (table_in a.rule.now.nodes.now) a.rule.now.past c.requires.2 a.rule.now.shared c.requires.0.shared_is _ c.union-work.ensures in (block_updatable c.requires.0, c.requires.2, work)

pub overflow_add-place : goal.overflow_add-place
overflow_add-place g c = omega (arith, block_few c.requires.0, c.requires.0.in_script, c.put_updates-n.ensures.0)

pub put_guard-requires : goal.put_guard-requires
put_guard-requires g c = let a = c.args in (block_guarding c.requires.0 c.put_updates-n.result a.size _ c.put_updates-n.ensures.0 c.requires.1 (kept_length g.met.W.Word.each _ _ c.put_updates-n.auto.out), c.requires.2)

pub returns : goal.returns
returns g c =
    let a = c.args in
    let wide = g.W.Word.IS_WIDE in
    let out = g.W.Word.numbers a.out.now in
    let r = block_room c.requires.0 in
    let e = c.put_updates-n.ensures.0 in
    let z = c.requires.1 in
    let work = work_set (table_in a.rule.now.nodes.now) a.rule.now.past c.requires.2 a.rule.now.shared c.requires.0.shared_is _ c.union-work.ensures in
    let t = table_in a.rule.now.nodes.now in
    let n = c.put_updates-n.result in
    let F = facts_of c.noted-x.result in
    let first = updates (length a.rule.now.nodes.now) t a.place in
    let then = guard_lines t (a.place + n) (a.place + a.size) F in
    let d = updates_length c.requires.0 in
    let ordered = (rule_out form_in a.rule.now.nodes.now c.requires.0.sized.0).ordered in
    let noted : F ≡ done_facts t (length t) = c.noted-x.ensures ∙ done_noted t a.rule.now.past c.requires.2 (length t) _ (all_below_lem t a.rule.now.past c.requires.2 ordered _ work) in
    let next : a.place + n - a.place ≡ 0 + length first = omega arith in
    written_as wide 0 (first ++ then) _ out _ (block_code c.requires.0 n a.size F e z noted)
    (written_then wide 0 (a.place + n - a.place) first then out _ _ next (omega arith) c.put_updates-n.ensures.1 c.put_guard.ensures)
