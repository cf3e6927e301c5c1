-- The run of four stations on this crate's values (`specs/Views.antt`).
--     turned                                       what a turn of station k leaves
--     InRun, in_run_start, in_run_goes, in_run_next    from here, what is left of the budget makes the whole run
--     in_run_ends                                  and where it ends
-- Assumes nothing.
use mathlib.Core.Path.{◌≡◌, refl, sym, ap, ◌∙◌}
use mathlib.Core.Logic.{inl, inr}
use mathlib.Core.Bool.{Bool, true, false, cond, ◌&&◌}
use mathlib.Core.List.{List}
use Prim.Native.Nat.{ℕ, zero, suc, ◌+◌, ◌-◌, ◌≤◌, ◌<◌}
use native.Mathlib.Numerals.{add-one}
use native.Mathlib.Omega.{arith}
use lib.Dec.{ltb}
use borrow.Author.Tests.{eq-eqb, ne_eqb, ltb-true, ltb-false}
use Rattle.spec.specs.Rule.{Form}
use Rattle.spec.specs.Ready.{MachineState}
use Rattle.turns.specs.Stations as stationed
use Rattle.turns.specs.Stations.{Four, pick, put, Station, started, station_at, passed_over, with_pass, with_step, turn_of, turn, run_turns}
use Rattle.spec.proofs.BoolLaws.{and_both, decided}
use Rattle.turns.proofs.StationsLaws.{turns_turn, passes_turn}
use Rattle.machine.specs.Machines.{state_of}
use Rattle.stations.specs.declared.Counts.{Counts}
use Rattle.stations.specs.declared.Progress.{Progress}
use Rattle.stations.specs.declared.turning.Turn.{Turn}
use Rattle.stations.specs.Views.{progress_of}
use Rattle.stations.specs.Turns.{Taken, counted}

-- ---- one turn

put_pick : {A : Type 0} (f : Four A) (k : ℕ) → put f k (pick f k) ≡ f
put_pick f zero = refl
put_pick f (suc zero) = refl
put_pick f (suc (suc zero)) = refl
put_pick f (suc (suc (suc k))) = refl

abbrev mk : Four MachineState → (left passes turns : ℕ) → stationed.Progress
mk ms left passes turns = record { machines = ms; left = left; passes = passes; turns = turns }

module _ (form : Form) (s : Four Station) (p : Progress) (hs : Four (List ℕ)) (k : ℕ) where
  abbrev P : stationed.Progress
  P = progress_of p hs

  -- with station k's machine as `t` leaves it, and these counts
  abbrev pub with_machine : Turn → List ℕ → Counts → stationed.Progress
  with_machine t h c = mk (put P.machines k (state_of t.machine h)) c.left c.passes c.turns

  module _ (t : Turn) (h : List ℕ) (taken : Taken form (pick s k) p.counts.left (pick P.machines k) t h) where
    abbrev over : Bool
    over = passed_over form (pick s k) p.counts.left (pick P.machines k).machine

    taken_is : (b : Bool) → over ≡ b → with_machine t h (counted p.counts t.left t.moved) ≡ cond b (with_pass P) (with_step form s k P)
    taken_is true e =
        let machine : state_of t.machine h ≡ pick P.machines k = rw e at taken.machine in
        let left : t.left ≡ p.counts.left = rw e at taken.left in
        let moved : t.moved ≡ false = rw e at taken.moved in
        let machines = ap (put P.machines k) machine ∙ put_pick P.machines k in
        let passes = ap (λ b. cond b 0 (p.counts.passes + 1)) moved ∙ add-one p.counts.passes in
        let turns = add-one p.counts.turns in
        λ i. mk (machines i) (left i) (passes i) (turns i)
    taken_is false e =
        let machine = rw e at taken.machine in
        let left = rw e at taken.left in
        let moved : t.moved ≡ true = rw e at taken.moved in
        let machines = ap (put P.machines k) machine in
        let passes = ap (λ b. cond b 0 (p.counts.passes + 1)) moved in
        let turns = add-one p.counts.turns in
        λ i. mk (machines i) (left i) (passes i) (turns i)

    pub turned : station_at p.counts.turns ≡ k → (c : Counts) → c ≡ counted p.counts t.left t.moved → with_machine t h c ≡ turn form s P
    unfolding turn
    turned here c e = ap (with_machine t h) e ∙ taken_is over refl ∙ ap (λ j. turn_of form s j P) (sym here)

-- ---- the loop

module _ (form : Form) (budget : ℕ) (s : Four Station) (allowance : ℕ) where
  abbrev pub whole_run : stationed.Progress
  whole_run = run_turns budget form s (started form s allowance)

  pub record InRun (p : Progress) (hs : Four (List ℕ)) : Type 0 where
    pub within : p.counts.turns ≤ budget
    pub few : p.counts.passes ≤ 4
    pub same : run_turns (budget - p.counts.turns) form s (progress_of p hs) ≡ whole_run

  started_none : ((started form s allowance).turns ≡ 0) × ((started form s allowance).passes ≡ 0)
  unfolding started
  started_none = (refl, refl)

  pub in_run_start : (p : Progress) (hs : Four (List ℕ)) → progress_of p hs ≡ started form s allowance → InRun p hs
  in_run_start p hs e =
      let turns : p.counts.turns ≡ 0 = ap (λ (x : stationed.Progress). x.turns) e ∙ started_none.0 in
      let passes : p.counts.passes ≡ 0 = ap (λ (x : stationed.Progress). x.passes) e ∙ started_none.1 in
      let rest : budget - p.counts.turns ≡ budget = omega arith in
      record {
        within = omega arith;
        few = omega arith;
        same = ap (λ n. run_turns n form s (progress_of p hs)) rest ∙ ap (run_turns budget form s) e;
      }

  run_more : (rest : ℕ) (x : stationed.Progress) → (x.passes ≡ 4 → ⊥) → run_turns (suc rest) form s x ≡ run_turns rest form s (turn form s x)
  unfolding run_turns
  run_more rest x ne = rw (ne_eqb x.passes 4 ne)

  run_over : (rest : ℕ) (x : stationed.Progress) → x.passes ≡ 4 → run_turns rest form s x ≡ x
  unfolding run_turns
  run_over zero x e = refl
  run_over (suc rest) x e = rw (eq-eqb x.passes 4 e)

  run_spent : (x : stationed.Progress) → run_turns 0 form s x ≡ x
  unfolding run_turns
  run_spent x = refl

  module _ (p : Progress) (hs : Four (List ℕ)) (now : InRun p hs) where
    in_run_pass : p.counts.passes ≡ 4 → progress_of p hs ≡ whole_run
    in_run_pass e = sym (run_over (budget - p.counts.turns) (progress_of p hs) e) ∙ now.same

    in_run_spent : budget ≤ p.counts.turns → progress_of p hs ≡ whole_run
    in_run_spent h =
        let rest : budget - p.counts.turns ≡ 0 = omega arith in
        sym (ap (λ n. run_turns n form s (progress_of p hs)) rest ∙ run_spent (progress_of p hs)) ∙ now.same

    pub in_run_ends : (ltb p.counts.turns budget && ltb p.counts.passes 4) ≡ false → progress_of p hs ≡ whole_run
    in_run_ends e = elim (decided (ltb p.counts.turns budget)) [
      | inl less ↦ (
          let many : 4 ≤ p.counts.passes = ltb-false p.counts.passes 4 (ap (λ b. b && ltb p.counts.passes 4) (sym less) ∙ e) in
          let few = now.few in
          in_run_pass (omega arith))
      | inr spent ↦ in_run_spent (ltb-false p.counts.turns budget spent)
    ]

    pub in_run_goes : (ltb p.counts.turns budget && ltb p.counts.passes 4) ≡ true → (p.counts.turns < budget) × (p.counts.passes < 4)
    in_run_goes goes =
        let (less, few) = and_both (ltb p.counts.turns budget) (ltb p.counts.passes 4) goes in
        (ltb-true p.counts.turns budget less, ltb-true p.counts.passes 4 few)

    module _ (goes : (ltb p.counts.turns budget && ltb p.counts.passes 4) ≡ true) (n : Progress) (gs : Four (List ℕ))
        (e : progress_of n gs ≡ turn form s (progress_of p hs)) where
      pub in_run_turns : n.counts.turns ≡ suc p.counts.turns
      in_run_turns = ap (λ (x : stationed.Progress). x.turns) e ∙ turns_turn form s (progress_of p hs)

      pub in_run_next : InRun n gs
      in_run_next =
          let turns = in_run_turns in
          let (less, few) = in_run_goes goes in
          let ne : (p.counts.passes ≡ 4 → ⊥) = (λ e. absurd (omega arith)) in
          let passes : n.counts.passes ≡ (turn form s (progress_of p hs)).passes = ap (λ (x : stationed.Progress). x.passes) e in
          let most = passes_turn form s (progress_of p hs) in
          let rest : budget - p.counts.turns ≡ suc (budget - n.counts.turns) = omega arith in
          record {
            within = omega arith;
            few = omega arith;
            same =
                ap (run_turns (budget - n.counts.turns) form s) e
                ∙ sym (run_more (budget - n.counts.turns) (progress_of p hs) ne)
                ∙ ap (λ j. run_turns j form s (progress_of p hs)) (sym rest)
                ∙ now.same;
          }
