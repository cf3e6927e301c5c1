-- `stations::running::run_turns` meets its contract. The loop keeps: from here, what is left of the budget makes the whole run
-- (`RunningLaws.InRun`), and the lent histories keep their lengths. The measure is what is left of the budget. Each branch is the turn of
-- one station (`RunningLaws.turned`). Assumes nothing.
use mathlib.Core.Path.{◌≡◌, refl, ◌∙◌}
use Prim.Native.Nat.{◌%◌}
use native.Mathlib.Omega.{arith}
use Rattle.turns.specs.Stations.{four}
use Rattle.stations.proofs.RunningLaws.{turned, in_run_start, in_run_next, in_run_ends}
use Rattle.stations.proofs.running.run_turns.Goals as goal

pub loop-counts-init : goal.loop-counts-init
loop-counts-init g c =
    let a = c.args in
    let lent = four a.history0.now a.history1.now a.history2.now a.history3.now in
    (refl, refl, refl, refl, in_run_start _ _ _ _ c.start-p.result lent (c.start-p.ensures lent))

pub loop-counts-preserved-in-0 : goal.loop-counts-preserved-in-0
loop-counts-preserved-in-0 g c = (
  c.take_turn-t.auto.history ∙ c.loop-counts.invariant.0,
  c.loop-counts.invariant.1,
  c.loop-counts.invariant.2,
  c.loop-counts.invariant.3,
  in_run_next _ _ _ _ _ _ c.loop-counts.invariant.4 c.loop-counts-test.true _ _ (turned _ _ _ _ 0 c.take_turn-t.result _ (c.take_turn-t.ensures c.args.history0.now) c.in-0.is _ c.count_turn-counts.ensures),
)

pub loop-counts-preserved-in-1 : goal.loop-counts-preserved-in-1
loop-counts-preserved-in-1 g c = (
  c.loop-counts.invariant.0,
  c.take_turn-t-in-1.auto.history ∙ c.loop-counts.invariant.1,
  c.loop-counts.invariant.2,
  c.loop-counts.invariant.3,
  in_run_next _ _ _ _ _ _ c.loop-counts.invariant.4 c.loop-counts-test.true _ _ (turned _ _ _ _ 1 c.take_turn-t-in-1.result _ (c.take_turn-t-in-1.ensures c.args.history1.now) c.in-1.is _ c.count_turn-counts-in-1.ensures),
)

pub loop-counts-preserved-in-2 : goal.loop-counts-preserved-in-2
loop-counts-preserved-in-2 g c = (
  c.loop-counts.invariant.0,
  c.loop-counts.invariant.1,
  c.take_turn-t-in-2.auto.history ∙ c.loop-counts.invariant.2,
  c.loop-counts.invariant.3,
  in_run_next _ _ _ _ _ _ c.loop-counts.invariant.4 c.loop-counts-test.true _ _ (turned _ _ _ _ 2 c.take_turn-t-in-2.result _ (c.take_turn-t-in-2.ensures c.args.history2.now) c.in-2.is _ c.count_turn-counts-in-2.ensures),
)

pub loop-counts-preserved : goal.loop-counts-preserved
loop-counts-preserved g c =
    let here : c.loop-counts.counts.turns % 4 ≡ 3 = omega arith in (
      c.loop-counts.invariant.0,
      c.loop-counts.invariant.1,
      c.loop-counts.invariant.2,
      c.take_turn-t-in_default.auto.history ∙ c.loop-counts.invariant.3,
      in_run_next _ _ _ _ _ _ c.loop-counts.invariant.4 c.loop-counts-test.true _ _ (turned _ _ _ _ 3 c.take_turn-t-in_default.result _ (c.take_turn-t-in_default.ensures c.args.history3.now) here _ c.count_turn-counts-in_default.ensures),
    )

pub returns : goal.returns
returns g c = in_run_ends _ _ _ _ _ _ c.loop-counts.invariant.4 c.loop-counts-test.false
