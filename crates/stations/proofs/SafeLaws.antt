-- A run that is not refused is safe (`specs/Safe.antt`): crate turns's `stations_kept`, on this crate's states and histories.
--     four_safe, list_safe      of four machines, and of a list of states
-- Assumes nothing.
use mathlib.Core.Path.{◌≡◌, refl, sym, ap, subst, ◌∙◌}
use mathlib.Core.List.{List}
use Prim.Native.Nat.{ℕ, zero, suc, ◌+◌, ◌<◌}
use native.Mathlib.Omega.{arith}
use lib.Dec.{eqb}
use borrow.Author.Tests.{eqb-true}
use Rattle.spec.specs.Logic.{Satisfies}
use Rattle.spec.specs.Questions.{Answer, passed, refused}
use Rattle.spec.specs.Rule.{Form, table_of, rule_of}
use Rattle.spec.specs.Machine.{trace}
use Rattle.spec.specs.Ready.{MachineState}
use Rattle.turns.specs.Stations as stationed
use Rattle.turns.specs.Stations.{Four, each_of, pick, Station, question21, check_stations, running_stations, StationsReport, stations_report}
use Rattle.turns.specs.StationsPromise.{after_turns, presented, StationsPromise}
use Rattle.spec.proofs.QuestionLaws.{both_passed, once_out}
use Rattle.turns.proofs.StationsDemand.{stations_kept}
use Rattle.std.specs.Prelude.{Result, Ok, Err}
use Rattle.rule.specs.declared.answer.Refusal.{Refusal}
use Rattle.machine.specs.declared.Machine.{Machine}
use Rattle.machine.specs.Machines.{machine_of, state_of}
use Rattle.stations.specs.declared.Ran.{Ran}
use Rattle.stations.specs.Views.{machines_of, report_in, four_in, LeftAs, ListLeftAs, Answered, ListAnswered}
use Rattle.stations.specs.Safe.{Kept, Safe}

pick_state : (ms : Four Machine) (hs : Four (List ℕ)) (k : ℕ) → pick (machines_of ms hs) k ≡ state_of (pick ms k) (pick hs k)
pick_state ms hs zero = refl
pick_state ms hs (suc zero) = refl
pick_state ms hs (suc (suc zero)) = refl
pick_state ms hs (suc (suc (suc k))) = refl

module _ (form : Form) (s : Four Station) (lent : Four (List ℕ)) (budget allowance : ℕ) where
  abbrev rules : Four (List ℕ)
  rules = each_of (λ x. x.rule) s

  pick_rule : (k : ℕ) → (pick s k).rule ≡ pick rules k
  pick_rule zero = refl
  pick_rule (suc zero) = refl
  pick_rule (suc (suc zero)) = refl
  pick_rule (suc (suc (suc k))) = refl

  four_states : (n : ℕ) (p : stationed.Progress) → running_stations form n s budget allowance ≡ passed p → n ≡ 4
  unfolding running_stations check_stations question21
  four_states n p e =
      let (checked, rest) = both_passed (check_stations form n s) _ p e in
      let (once, more) = both_passed (question21 n) _ tt checked in
      eqb-true n 4 (once_out 21 (eqb n 4) once)

  module _ (ms : Four Machine) (left : Four (List ℕ)) (p : stationed.Progress) (kept : StationsPromise form s budget allowance p)
      (are : machines_of ms left ≡ p.machines) where
    ended : (after_turns p.turns form s allowance).machines ≡ machines_of ms left
    ended = ap (λ (x : stationed.Progress). x.machines) (sym kept.reached) ∙ sym are

    kept_end : Kept form rules allowance p.left ms left
    kept_end = record {
      obeyed = λ k within i h. at_end_lem k within i h;
      conserved =
          ap (λ x. presented x + p.left) (sym ended)
          ∙ ap (λ (x : stationed.Progress). presented (after_turns p.turns form s allowance).machines + x.left) kept.reached
          ∙ kept.conserved p.turns;
    }
      where
        at_end_lem : (k : ℕ) → k < 4 → (i : ℕ) → i < (pick ms k).presentations
            → Satisfies (trace (machine_of (pick ms k) (pick left k))) (rule_of (table_of form (pick rules k))) i
        at_end_lem k within i =
            let same : pick (after_turns p.turns form s allowance).machines k ≡ state_of (pick ms k) (pick left k)
            = ap (λ x. pick x k) ended ∙ pick_state ms left k in
            subst (λ r. i < (pick ms k).presentations → Satisfies (trace (machine_of (pick ms k) (pick left k))) (rule_of (table_of form r)) i) (pick_rule k)
            (subst (λ (y : MachineState). i < y.machine.presentations → Satisfies (trace y.machine) (rule_of (table_of form (pick s k).rule)) i) same
            (kept.obeyed k within p.turns i))

  -- where a run was made, these are the machines and histories of its end
  abbrev EndsAs : Answer stationed.Progress → Four Machine → (histories : Four (List ℕ)) → Type 0
  EndsAs (passed p) ms left = machines_of ms left ≡ p.machines
  EndsAs (refused q i) ms left = Unit {0}

  module _ (n : ℕ) (ms : Four Machine) (left : Four (List ℕ)) where
    run_safe : (a : Result Ran Refusal) → report_in a ≡ stations_report (running_stations form n s budget allowance)
        → EndsAs (running_stations form n s budget allowance) ms left → Safe form rules allowance a ms left
    run_safe (Ok r) told ends = go (running_stations form n s budget allowance) refl told ends
      where
        go : (x : Answer stationed.Progress) → running_stations form n s budget allowance ≡ x → report_in (Ok r) ≡ stations_report x
            → EndsAs x ms left → Kept form rules allowance r.left ms left
        go (passed p) e told ends =
            let promise = stations_kept form s budget allowance p (subst (λ k. running_stations form k s budget allowance ≡ passed p) (four_states n p e) e) in
            let same : p.left ≡ r.left = sym (ap (λ (x : StationsReport). x.left) told) in
            subst (λ l. Kept form rules allowance l ms left) same (kept_end ms left p promise ends)
        go (refused q i) e told ends = let v = ap (λ (x : StationsReport). x.verdict) told in let z : ◌≡◌ {A = ℕ} 0 1 = cc in absurd (omega arith)
    run_safe (Err r) told ends = tt

    four_ends : (x : Answer stationed.Progress) (before : Four Machine) → LeftAs x before ms lent left → EndsAs x ms left
    four_ends (passed p) before kept = kept
    four_ends (refused q i) before kept = tt

    pub four_safe : (a : Result Ran Refusal) (before : Four Machine) → Answered (running_stations form n s budget allowance) a before ms lent left
        → Safe form rules allowance a ms left
    four_safe a before h = run_safe a h.report (four_ends (running_stations form n s budget allowance) before h.kept)

  module _ (before after : List Machine) (left : Four (List ℕ)) where
    list_ends : (x : Answer stationed.Progress) → ListLeftAs x before after lent left → EndsAs x (four_in after) left
    list_ends (passed p) kept = kept.1
    list_ends (refused q i) kept = tt

    pub list_safe : (n : ℕ) (a : Result Ran Refusal) → ListAnswered (running_stations form n s budget allowance) a before after lent left
        → Safe form rules allowance a (four_in after) left
    list_safe n a h = run_safe n (four_in after) left a h.report (list_ends (running_stations form n s budget allowance) h.kept)
