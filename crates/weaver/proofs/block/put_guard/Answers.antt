-- `weaver::block::put_guard` meets its contract: deciding the last node, and the present after it (`BlockLaws`). Assumes nothing.
use mathlib.Core.List.{◌++◌}
use mathlib.Core.Path.{◌≡◌}
use Prim.Native.Nat.{◌+◌, ◌-◌}
use lib.ListN.{length, get_or}
use Rattle.spec.specs.Weaver.{decide}
use Rattle.rule.specs.Nodes.{table_in}
use Rattle.facts.specs.FactSets.{facts_of}
use Rattle.facts.proofs.OverLaws.{written_then, written_as}
use Rattle.weaver.proofs.DecisionLaws.{kept_length}
use Rattle.weaver.proofs.BlockLaws.{guard_few, guard_size, guard_last, guard_length, guard_code}
use Rattle.weaver.specs.Parts.{present_lines}
use native.Mathlib.Omega.{arith}
use Rattle.weaver.proofs.block.put_guard.Goals as goal

pub overflow_sub-last : goal.overflow_sub-last
overflow_sub-last g c = omega (arith, (guard_few c.requires.0).0)

pub bounds-rule-last : goal.bounds-rule-last
bounds-rule-last g c = let few = guard_few c.requires.0 in omega (arith, few.0, few.1)

pub put_decision-requires : goal.put_decision-requires
put_decision-requires g c = guard_last c.requires.0

pub put_present-requires : goal.put_present-requires
put_present-requires g c =
    let few = guard_few c.requires.0 in
    (few.0, few.1, c.requires.1, omega (arith, guard_size c.requires.0, c.requires.0.in_output, c.requires.0.from_base, (kept_length g.met.W.Word.each _ _ c.put_decision.auto.out)))

pub returns : goal.returns
returns g c =
    let a = c.args in
    let wide = g.W.Word.IS_WIDE in
    let out = g.W.Word.numbers a.out.now in
    let z = guard_size c.requires.0 in
    let o = c.requires.0.in_output in
    let b = c.requires.0.from_base in
    let F = facts_of a.x in
    let t = table_in a.rule.now.nodes.now in
    let last = length a.rule.now.nodes.now - 1 in
    let n = get_or a.rule.now.sizes.now last 0 in
    let at = a.place - a.base in
    let first = decide t last a.place (a.place + n) a.end F in
    let d = guard_length c.requires.0 F in
    let next : a.place + n - a.base ≡ at + length first = omega arith in
    written_as wide at (first ++ present_lines t F) _ out _ (guard_code c.requires.0 F)
    (written_then wide at (a.place + n - a.base) first (present_lines t F) out _ _ next (omega arith) c.put_decision.ensures c.put_present.ensures)
