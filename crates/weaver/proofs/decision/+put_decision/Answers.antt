-- `weaver::decision::put_decision` meets its contract: a mention of a shared node by its work bit, any other node by what it is. The loop goes
-- on to the right operand of an implies, and keeps: what is still to be written completes the code (`DecisionLaws.Completes`). Recursion into
-- the left operand, the node's number the measure. Assumes nothing.
use mathlib.Core.List.{◌++◌}
use mathlib.Core.Path.{◌≡◌, sym, ap, ap₂, ◌∙◌}
use Prim.Native.Nat.{◌+◌, ◌-◌}
use native.Mathlib.Omega.{arith}
use lib.ListN.{length, get_or}
use Rattle.spec.proofs.WeaverLaws.{length_decide}
use Rattle.rule.proofs.NodeLaws.{node_at_lem}
use Rattle.rule.proofs.TagLaws.{rest_not_implies}
use Rattle.spec.specs.Script.{word_for, fields_for}
use Rattle.spec.specs.Weaver.{decide}
use Rattle.rule.specs.Nodes.{node_read, table_in}
use Rattle.facts.specs.FactSets.{facts_of}
use Rattle.weaver.proofs.DecisionLaws.{kept_length, falls_to, asked_as, implied, work_room, work_code_lem, simple_room, simple_code, few}
use Rattle.weaver.proofs.GrowthLaws.{add_first}
use Rattle.facts.proofs.OverLaws.{written_then, written_as}
use Rattle.weaver.proofs.decision.+put_decision.Goals as goal

pub encode-branch-requires : goal.encode-branch-requires
encode-branch-requires g t c =
    let a = c.args in
    let f = few _ _ _ _ _ _ _ _ _ _ c.loop-by_kind.invariant.0 in
    (omega arith, omega arith, omega arith, c.loop-by_kind.invariant.0.true_line)

pub put_leaf-requires : goal.put_leaf-requires
put_leaf-requires g t c =
    let a = c.args in
    let asked = asked_as _ _ c.loop-by_kind.by_kind _ c.has.ensures c.if-has-by_kind.true in
    (few _ _ _ _ _ _ _ _ _ _ c.loop-by_kind.invariant.0, c.loop-by_kind.invariant.0.false_line, work_room a.rule.now.nodes.now a.rule.now.sizes.now a.rule.now.shared c.loop-by_kind.by_kind c.loop-by_kind.j a.base c.loop-by_kind.here a.on_true a.on_false (g.W.Word.numbers c.loop-by_kind.out) c.loop-by_kind.invariant.0 asked)

pub returns-then-has-by_kind : goal.returns-then-has-by_kind
unfolding word_for fields_for
returns-then-has-by_kind g t c =
    let a = c.args in
    let wide = g.W.Word.IS_WIDE in
    let asked = asked_as _ _ c.loop-by_kind.by_kind _ c.has.ensures c.if-has-by_kind.true in
    c.loop-by_kind.invariant.2 _ (work_code_lem a.rule.now.nodes.now a.rule.now.sizes.now a.rule.now.shared c.loop-by_kind.by_kind c.loop-by_kind.j a.base c.loop-by_kind.here a.on_true a.on_false (g.W.Word.numbers c.loop-by_kind.out) c.loop-by_kind.invariant.0 asked wide (g.W.Word.numbers c.loop-by_kind.out) _ (facts_of c.loop-by_kind.y) _ c.encode-branch.ensures c.put_leaf.ensures)

pub put_decision-requires : goal.put_decision-requires
put_decision-requires g t c = let i = implied _ _ _ _ _ _ _ _ _ _ c.loop-by_kind.invariant.0 (asked_as _ _ c.loop-by_kind.by_kind _ c.has.ensures c.if-has-by_kind.false) c.in-Implies.left c.in-Implies.right
    (node_at_lem c.args.rule.now.nodes.now c.loop-by_kind.j ∙ sym c.read_node-node.ensures.node ∙ ap node_read c.in-Implies.is) in let l = i.lower.0 in let b = c.loop-by_kind.invariant.1 in
    λ κs within. (falls_to _ _ _ c.decreases (omega arith), (within, i.left))

pub loop-by_kind-smaller : goal.loop-by_kind-smaller
loop-by_kind-smaller g t c = (implied _ _ _ _ _ _ _ _ _ _ c.loop-by_kind.invariant.0 (asked_as _ _ c.loop-by_kind.by_kind _ c.has.ensures c.if-has-by_kind.false) c.in-Implies.left c.in-Implies.right
    (node_at_lem c.args.rule.now.nodes.now c.loop-by_kind.j ∙ sym c.read_node-node.ensures.node ∙ ap node_read c.in-Implies.is)).lower.1

pub loop-by_kind-preserved : goal.loop-by_kind-preserved
loop-by_kind-preserved g t c =
    let a = c.args in
    let wide = g.W.Word.IS_WIDE in
    let out = g.W.Word.numbers c.loop-by_kind.out in
    let i = implied _ _ _ _ _ _ _ _ _ _ c.loop-by_kind.invariant.0 (asked_as _ _ c.loop-by_kind.by_kind _ c.has.ensures c.if-has-by_kind.false) c.in-Implies.left c.in-Implies.right
    (node_at_lem c.args.rule.now.nodes.now c.loop-by_kind.j ∙ sym c.read_node-node.ensures.node ∙ ap node_read c.in-Implies.is) in
    let low = i.lower.1 in
    let most = c.loop-by_kind.invariant.1 in
    let u = table_in a.rule.now.nodes.now in
    let l = c.in-Implies.left in
    let r = c.in-Implies.right in
    let n = get_or a.rule.now.sizes.now l 0 in
    let place = c.loop-by_kind.here in
    let at = place - a.base in
    let F = facts_of c.loop-by_kind.y in
    let G = facts_of c.copied.result in
    let H = facts_of c.learn_value-y.result in
    let first = decide u l place (place + n) a.on_true G in
    let then = decide u r (place + n) a.on_true a.on_false H in
    let d = length_decide u i.ordered l place (place + n) a.on_true G in
    let e = i.size in
    let f = i.next in
    let next : place + n - a.base ≡ at + length first = omega arith in (
      i.right _ (kept_length g.met.W.Word.each _ _ c.put_decision.auto.out),
      omega arith,
      λ after rest. c.loop-by_kind.invariant.2 after
          (written_as wide at (first ++ then) _ out after
          (ap₂ (λ X Y. decide u l place (place + n) a.on_true X ++ decide u r (place + n) a.on_true a.on_false Y) c.copied.ensures (c.learn_value-y.ensures ∙ add_first _ _ _) ∙ i.code F)
          (written_then wide at (place + n - a.base) first then out _ after next i.room c.put_decision.ensures rest)),
    )

pub put_simple-requires : goal.put_simple-requires
put_simple-requires g t c =
    let a = c.args in
    let asked = asked_as _ _ c.loop-by_kind.by_kind _ c.has.ensures c.if-has-by_kind.false in
    let is = node_at_lem a.rule.now.nodes.now c.loop-by_kind.j ∙ sym c.read_node-node.ensures.node in
    let other = rest_not_implies c.read_node-node.result c.in_default.not-Implies in
    (c.read_node-node.ensures.small, other, few _ _ _ _ _ _ _ _ _ _ c.loop-by_kind.invariant.0, c.loop-by_kind.invariant.0.true_line, c.loop-by_kind.invariant.0.false_line, simple_room a.rule.now.nodes.now a.rule.now.sizes.now a.rule.now.shared c.loop-by_kind.by_kind c.loop-by_kind.j a.base c.loop-by_kind.here a.on_true a.on_false (g.W.Word.numbers c.loop-by_kind.out) c.loop-by_kind.invariant.0 asked _ is other)

pub returns-in_default : goal.returns-in_default
returns-in_default g t c =
    let a = c.args in
    let wide = g.W.Word.IS_WIDE in
    let asked = asked_as _ _ c.loop-by_kind.by_kind _ c.has.ensures c.if-has-by_kind.false in
    let is = node_at_lem a.rule.now.nodes.now c.loop-by_kind.j ∙ sym c.read_node-node.ensures.node in
    c.loop-by_kind.invariant.2 _ (written_as wide (c.loop-by_kind.here - a.base) _ _ (g.W.Word.numbers c.loop-by_kind.out) _
    (simple_code a.rule.now.nodes.now a.rule.now.sizes.now a.rule.now.shared c.loop-by_kind.by_kind c.loop-by_kind.j a.base c.loop-by_kind.here a.on_true a.on_false (g.W.Word.numbers c.loop-by_kind.out) c.loop-by_kind.invariant.0 asked _ is (facts_of c.loop-by_kind.y)) (c.put_simple.ensures _ _ _))
