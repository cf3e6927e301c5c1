-- `weaver::block::put_updates` meets its contract: the loop keeps: the code of the nodes below k is written
-- (`SeriesLaws.Filled`), and `done` has the nodes with a work bit among them. Assumes nothing.
use mathlib.Core.Path.{◌≡◌, ap, ◌∙◌}
use Prim.Native.Nat.{◌+◌, ◌-◌, ◌<◌}
use lib.ListN.{length}
use Rattle.spec.proofs.WeaverLaws.{length_updates}
use Rattle.spec.proofs.RuleLaws.{rule_out}
use Rattle.spec.specs.Weaver.{done_facts}
use Rattle.spec.specs.Rule.{form64, has_work}
use Rattle.sets.specs.Sets.{capacity}
use Rattle.facts.proofs.GroupLaws.{gather_start, gather_next}
use Rattle.rule.specs.Nodes.{form_in, table_in}
use Rattle.facts.specs.FactSets.{facts_of}
use Rattle.facts.proofs.OverLaws.{written_as}
use Rattle.weaver.proofs.BlockLaws.{updating_series, updatable_room, updating_few, updating_node, updating_size, updating_code}
use Rattle.weaver.proofs.SeriesLaws.{filled_start, filled_next, filled_end}
use Rattle.weaver.proofs.NotedLaws.{done_noted}
use native.Mathlib.Omega.{arith}
use Rattle.weaver.proofs.block.put_updates.Goals as goal

pub loop-k-init : goal.loop-k-init
loop-k-init g c = let a = c.args in let wide = g.W.Word.IS_WIDE in let out = g.W.Word.numbers a.out.now in (filled_start (updating_series (table_in a.rule.now.nodes.now) a.place) wide 0 out, gather_start (has_work (table_in a.rule.now.nodes.now)))

pub overflow_add-place : goal.overflow_add-place
overflow_add-place g c = let a = c.args in let wide = g.W.Word.IS_WIDE in let out = g.W.Word.numbers a.out.now in omega (arith, (updating_few wide out c.requires.0 c.loop-k.invariant.0 c.loop-k-test.true).0)

pub put_work-n-requires : goal.put_work-n-requires
put_work-n-requires g c = let a = c.args in let wide = g.W.Word.IS_WIDE in let out = g.W.Word.numbers a.out.now in updating_node wide out c.requires.0 c.loop-k.invariant.0 c.loop-k-test.true

pub overflow_add-n : goal.overflow_add-n
overflow_add-n g c = let a = c.args in let wide = g.W.Word.IS_WIDE in let out = g.W.Word.numbers a.out.now in omega (arith, (updating_few wide out c.requires.0 c.loop-k.invariant.0 c.loop-k-test.true).1, c.put_work-n.ensures.0)

pub loop-k-preserved : goal.loop-k-preserved
unfolding form64
loop-k-preserved g c = let a = c.args in
    let wide = g.W.Word.IS_WIDE in
    let out = g.W.Word.numbers a.out.now in
    let t = table_in a.rule.now.nodes.now in
    let u = c.requires.0 in
    let h = c.loop-k-test.true in
    let few = (rule_out form_in a.rule.now.nodes.now u.sized.0).few_nodes in
    let small : c.loop-k.k < capacity = omega arith in
    let noted : facts_of c.noted-x.result ≡ done_facts t c.loop-k.k = c.noted-x.ensures ∙ done_noted t a.rule.now.past c.requires.1 c.loop-k.k c.loop-k.done c.loop-k.invariant.1 in (
      filled_next (updating_series (table_in a.rule.now.nodes.now) a.place) wide 0 out (g.W.Word.numbers c.loop-k.out) c.loop-k.n c.loop-k.k (length a.rule.now.nodes.now) c.loop-k.invariant.0 c.loop-k.auto.k-end (updatable_room wide out c.requires.0) h c.put_work-n.result (a.place + c.loop-k.n - a.place) _
          (updating_size wide out c.requires.0 c.loop-k.invariant.0 c.loop-k-test.true c.put_work-n.result c.put_work-n.ensures.0) (omega arith)
          (written_as wide (a.place + c.loop-k.n - a.place) _ _ _ _ (updating_code wide out c.requires.0 c.loop-k.invariant.0 c.loop-k-test.true (facts_of c.noted-x.result) noted) c.put_work-n.ensures.1),
      gather_next (has_work t) c.loop-k.k c.loop-k.done c.with_if-done.result c.has.result small (c.has.ensures ∙ ap (λ s. s c.loop-k.k) c.requires.2) c.with_if-done.ensures c.loop-k.invariant.1,
    )

pub returns : goal.returns
returns g c = let a = c.args in
    let wide = g.W.Word.IS_WIDE in
    let out = g.W.Word.numbers a.out.now in
    let t = table_in a.rule.now.nodes.now in
    let e = filled_end (updating_series (table_in a.rule.now.nodes.now) a.place) wide 0 out (g.W.Word.numbers c.loop-k.out) c.loop-k.n c.loop-k.k (length a.rule.now.nodes.now) c.loop-k.invariant.0 c.loop-k.auto.k-end c.loop-k-test.false in
    (e.0 ∙ length_updates t (rule_out form_in a.rule.now.nodes.now c.requires.0.sized.0).ordered (length a.rule.now.nodes.now) a.place, e.1)
