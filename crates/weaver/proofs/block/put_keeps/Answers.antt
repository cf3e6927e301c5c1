-- `weaver::block::put_keeps` meets its contract: the loop keeps: the 12s of the nodes below k are written
-- (`SeriesLaws.Filled`), and `done` has the past nodes among them. Assumes nothing.
use mathlib.Core.List.{[], ◌∷◌}
use mathlib.Core.Bool.{cond}
use mathlib.Core.Path.{◌≡◌, refl, sym, ap, ap₂, ◌∙◌}
use Prim.Native.Nat.{ℕ, ◌+◌, ◌<◌}
use lib.ListN.{length}
use Rattle.spec.specs.Weaver.{line, keep_facts}
use Rattle.spec.specs.Script.{keep}
use Rattle.spec.specs.Rule.{is_past, node_at}
use Rattle.sets.specs.Sets.{capacity}
use Rattle.rule.proofs.EachLaws.{length_each}
use Rattle.facts.proofs.GroupLaws.{gather_start, gather_next}
use Rattle.rule.specs.Nodes.{table_in}
use Rattle.facts.specs.FactSets.{facts_of}
use Rattle.facts.proofs.OverLaws.{written_as}
use Rattle.weaver.proofs.BlockLaws.{keeping_series, keep_length, keeping_room, keeping_node}
use Rattle.weaver.proofs.SeriesLaws.{filled_start, filled_next}
use Rattle.weaver.proofs.NotedLaws.{keep_noted}
use Rattle.weaver.specs.Parts.{past_nodes}
use native.Mathlib.Omega.{arith}
use Rattle.weaver.proofs.block.put_keeps.Goals as goal

pub loop-k-init : goal.loop-k-init
loop-k-init g c = let a = c.args in let wide = g.W.Word.IS_WIDE in let out = g.W.Word.numbers a.out.now in (filled_start (keeping_series (table_in a.rule.now.nodes.now)) wide a.at out, gather_start (past_nodes (table_in a.rule.now.nodes.now)))

pub overflow_add-at : goal.overflow_add-at
overflow_add-at g c =
    let part = keeping_node g.W.Word.IS_WIDE c.args.rule.now.nodes.now c.args.at (g.W.Word.numbers c.args.out.now) c.requires.0 c.requires.2 c.loop-k.invariant.0 c.loop-k-test.true in
    omega (arith, part.0, length_each g.met.W.Word.each c.loop-k.out, c.well_formed)

pub put_keep-n-requires : goal.put_keep-n-requires
put_keep-n-requires g c =
    let part = keeping_node g.W.Word.IS_WIDE c.args.rule.now.nodes.now c.args.at (g.W.Word.numbers c.args.out.now) c.requires.0 c.requires.2 c.loop-k.invariant.0 c.loop-k-test.true in
    let few = c.requires.0 in
    let i = ap {B = ℕ} (λ b. cond b 1 0) (c.has-is_past.ensures ∙ ap (λ s. s c.loop-k.k) c.requires.1) in
    (omega arith, omega (arith, part.0))

pub overflow_add-n : goal.overflow_add-n
overflow_add-n g c =
    let part = keeping_node g.W.Word.IS_WIDE c.args.rule.now.nodes.now c.args.at (g.W.Word.numbers c.args.out.now) c.requires.0 c.requires.2 c.loop-k.invariant.0 c.loop-k-test.true in
    let i = ap {B = ℕ} (λ b. cond b 1 0) (c.has-is_past.ensures ∙ ap (λ s. s c.loop-k.k) c.requires.1) in
    omega (arith, part.1, c.put_keep-n.ensures.0)

pub loop-k-preserved : goal.loop-k-preserved
loop-k-preserved g c = let a = c.args in
    let wide = g.W.Word.IS_WIDE in
    let out = g.W.Word.numbers a.out.now in
    let t = table_in a.rule.now.nodes.now in
    let h = c.loop-k-test.true in
    let few = c.requires.0 in
    let small : c.loop-k.k < capacity = omega arith in
    let is = (c.has-is_past.ensures ∙ (ap (λ s. s c.loop-k.k) c.requires.1)) in
    let noted : facts_of c.noted-x.result ≡ keep_facts t c.loop-k.k = c.noted-x.ensures ∙ keep_noted t a.rule.now.past c.requires.1 c.loop-k.k c.loop-k.done c.loop-k.invariant.1 in (
      filled_next (keeping_series (table_in a.rule.now.nodes.now)) wide a.at out (g.W.Word.numbers c.loop-k.out) c.loop-k.n c.loop-k.k (length a.rule.now.nodes.now) c.loop-k.invariant.0 c.loop-k.auto.k-end (keeping_room a.rule.now.nodes.now a.at out c.requires.2) h c.put_keep-n.result (a.at + c.loop-k.n) _
          (c.put_keep-n.ensures.0 ∙ ap (λ b. cond b 1 0) is ∙ sym (keep_length (is_past (node_at t c.loop-k.k)) c.loop-k.k (keep_facts t c.loop-k.k))) refl
          (written_as wide (a.at + c.loop-k.n) _ _ _ _ (ap₂ (λ b F. cond b (line (keep c.loop-k.k) F ∷ []) []) is noted) c.put_keep-n.ensures.1),
      gather_next (past_nodes t) c.loop-k.k c.loop-k.done c.with_if-done.result c.has-is_past.result small is c.with_if-done.ensures c.loop-k.invariant.1,
    )
