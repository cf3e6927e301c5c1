-- `rule::judging::watch` meets its contract. The loop keeps `Left`: what is left of the states tells what all of them do (`WatchLaws`). The
-- measure is the number of states left. Assumes nothing.
use Prim.Native.Nat.{◌-◌, ◌*◌, ◌+◌}
use mathlib.Core.Path.{◌≡◌, sym, ap, ap₂, ◌∙◌}
use native.Mathlib.Omega.{arith}
use lib.ListN.{take, drop}
use Rattle.spec.specs.Monitor.{moment_of, last_true}
use Rattle.sets.specs.Sets.{set_of}
use Rattle.rule.specs.Nodes.{table_in}
use Rattle.rule.proofs.WatchLaws.{watch_on, watch_stop, watch_end}
use Rattle.rule.proofs.judging.watch.Goals as goal

pub returns-then-not-has_node : goal.returns-then-not-has_node
returns-then-not-has_node c =
    let a = c.args in
    let l = c.loop-i in
    let t = table_in a.rule.now in
    let h = a.history.now in
    let z : 16 * l.i + 16 - 16 * l.i ≡ 16 = omega arith in
    let s = take (16 * l.i + 16 - 16 * l.i) (drop (16 * l.i) h) in
    let e : s ≡ take 16 (drop (16 * l.i) h) = ap (λ n. take n (drop (16 * l.i) h)) z in
    let moment = c.evaluate-m.ensures in
    let v : c.has_node.result ≡ last_true t (moment_of t s (set_of l.priors)) =
    c.has_node.ensures ∙ ap₂ (λ m k. m.values k) moment c.last_node-last.ensures.0 in
    watch_stop t h (set_of a.first) l.i c.loop-i-test.true (set_of l.priors) l.invariant s e (sym v ∙ c.if-not-has_node.true) _ (ap (λ m. m.priors) moment)

pub loop-i-preserved : goal.loop-i-preserved
loop-i-preserved c =
    let a = c.args in
    let l = c.loop-i in
    let t = table_in a.rule.now in
    let h = a.history.now in
    let z : 16 * l.i + 16 - 16 * l.i ≡ 16 = omega arith in
    let s = take (16 * l.i + 16 - 16 * l.i) (drop (16 * l.i) h) in
    let e : s ≡ take 16 (drop (16 * l.i) h) = ap (λ n. take n (drop (16 * l.i) h)) z in
    let moment = c.evaluate-m.ensures in
    let v : c.has_node.result ≡ last_true t (moment_of t s (set_of l.priors)) =
    c.has_node.ensures ∙ ap₂ (λ m k. m.values k) moment c.last_node-last.ensures.0 in
    watch_on t h (set_of a.first) l.i c.loop-i-test.true (set_of l.priors) l.invariant s e (sym v ∙ c.if-not-has_node.false) _ (ap (λ m. m.priors) moment)

pub returns : goal.returns
returns c =
    let a = c.args in
    watch_end (table_in a.rule.now) a.history.now (set_of a.first) _ _ c.loop-i-test.false c.loop-i.invariant
