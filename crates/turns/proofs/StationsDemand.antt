-- Request 2026-10: `stations_kept : (form : Form) → StationsKept form`. `specs/StationsPromise.antt` has the statement; its parts are
-- proved turn by turn in `StationsLaws`, and each station's rule is demand 3's `safe` at its own steps. Assumes nothing.
use mathlib.Core.Path.{◌≡◌, refl, sym, subst, ap, ◌∙◌}
use mathlib.Core.Logic.{inl, inr}
use mathlib.Core.Bool.{true, false}
use Prim.Native.Nat.{ℕ, zero, suc, ◌+◌, ◌≤◌, ◌<◌}
use native.Mathlib.Nat.{zero-add}
use native.Mathlib.Omega.{arith}
use Rattle.spec.specs.Logic.{Satisfies}
use Rattle.spec.specs.Rule.{Form, table_of, rule_of}
use Rattle.spec.specs.Machine.{trace, move}
use Rattle.spec.specs.Ready.{MachineState, would_keep}
use Rattle.turns.specs.Stations.{station_count, Four, pick, Station, Progress, started, station_at, instruction_for, station_step, with_step, is_passed, run_turns, check_stations, running_stations}
use Rattle.turns.specs.StationsPromise.{after_turns, Able, FourPassed, StationsPromise, StationsKept}
use Rattle.spec.proofs.BoolLaws.{decided}
use Rattle.spec.proofs.QuestionLaws.{both_passed}
use Rattle.turns.proofs.StationsLaws.{AllAccepted, checked_all, pick_put_same, pick_put_other, after_obeys, after_ready, station_below, able_out, able_in, able_moves, kept_after, turn_pass, turn_step, after_next, turns_after, RanOut, ran_out}

module _ (form : Form) (s : Four Station) (allowance : ℕ) where
  abbrev P : ℕ → Progress
  P n = after_turns n form s allowance

  -- whose turn number n is
  turn_at : (n : ℕ) → station_at (P n).turns ≡ station_at n
  turn_at n = ap station_at (turns_after form s allowance n)

  counts : (n : ℕ) → is_passed form s (station_at n) (P n) ≡ true → (P (suc n)).passes ≡ suc (P n).passes
  counts n e =
      ap (λ p. p.passes) (after_next form s allowance n)
      ∙ ap (λ p. p.passes) (turn_pass form s (P n) (ap (λ k. is_passed form s k (P n)) (turn_at n) ∙ e))

  restarts : (n : ℕ) → is_passed form s (station_at n) (P n) ≡ false → (P (suc n)).passes ≡ 0
  restarts n e =
      ap (λ p. p.passes) (after_next form s allowance n)
      ∙ ap (λ p. p.passes) (turn_step form s (P n) (ap (λ k. is_passed form s k (P n)) (turn_at n) ∙ e))

  -- ---- four successive passes, by the count

  -- a pass that is counted was made at the turn before
  record Before (n k : ℕ) : Type 0 where
    at : ℕ
    is : n ≡ suc at
    over : is_passed form s (station_at at) (P at) ≡ true
    less : (P at).passes ≡ k

  none_yet : (P 0).passes ≡ 0
  unfolding after_turns started
  none_yet = refl

  before : (n k : ℕ) → (P n).passes ≡ suc k → Before n k
  before zero k e = absurd (omega (arith, none_yet, e))
  before (suc n) k e = elim (decided (is_passed form s (station_at n) (P n))) [
    | inl h ↦ record { at = n; is = refl; over = h; less = (let c = counts n h in omega arith) }
    | inr h ↦ (let c = restarts n h in absurd (omega arith))
  ]

  four_passed : (n : ℕ) → (P n).passes ≡ 4 → FourPassed form s allowance n
  four_passed n e =
      let d = before n 3 e in
      let c = before d.at 2 d.less in
      let b = before c.at 1 c.less in
      let a = before b.at 0 b.less in
      let d-is = d.is in
      let c-is = c.is in
      let b-is = b.is in
      let a-is = a.is in
      record { from = a.at; up_to = omega arith; over = go a.at b.at c.at d.at (omega arith) (omega arith) (omega arith) a.over b.over c.over d.over }
    where
      go : (a b c d : ℕ) → b ≡ a + 1 → c ≡ a + 2 → d ≡ a + 3
          → is_passed form s (station_at a) (P a) ≡ true → is_passed form s (station_at b) (P b) ≡ true
          → is_passed form s (station_at c) (P c) ≡ true → is_passed form s (station_at d) (P d) ≡ true
          → (j : ℕ) → j < 4 → is_passed form s (station_at (a + j)) (P (a + j)) ≡ true
      go a b c d eb ec ed ha hb hc hd zero h = let ea : a ≡ a + 0 = omega arith in subst (λ i. is_passed form s (station_at i) (P i) ≡ true) ea ha
      go a b c d eb ec ed ha hb hc hd (suc zero) h = subst (λ i. is_passed form s (station_at i) (P i) ≡ true) eb hb
      go a b c d eb ec ed ha hb hc hd (suc (suc zero)) h = subst (λ i. is_passed form s (station_at i) (P i) ≡ true) ec hc
      go a b c d eb ec ed ha hb hc hd (suc (suc (suc zero))) h = subst (λ i. is_passed form s (station_at i) (P i) ≡ true) ed hd
      go a b c d eb ec ed ha hb hc hd (suc (suc (suc (suc j)))) h = absurd (omega arith)

  -- after j passes from turn m on, at least j are counted
  many_passed : (m j : ℕ) → ((i : ℕ) → i < j → is_passed form s (station_at (m + i)) (P (m + i)) ≡ true) → j ≤ (P (m + j)).passes
  many_passed m zero over = omega arith
  many_passed m (suc j) over =
      let h = many_passed m j (λ i l. over i (omega arith)) in
      let c = counts (m + j) (over j (omega arith)) in
      let e : m + suc j ≡ suc (m + j) = omega arith in
      subst (λ i. suc j ≤ (P i).passes) (sym e) (omega arith)

  not_four : (n : ℕ) → (P n).passes < 4 → FourPassed form s allowance n → ⊥
  not_four n few f =
      let h = many_passed f.from 4 f.over in
      let g : 4 ≤ (P n).passes = subst (λ i. 4 ≤ (P i).passes) (sym f.up_to) h in
      omega arith

  stays : (n k : ℕ) → k < 4 → (k ≡ station_at n → ⊥) → pick (P (suc n)).machines k ≡ pick (P n).machines k
  stays n k within ne = elim (decided (is_passed form s (station_at (P n).turns) (P n))) [
    | inl h ↦ ap (λ p. pick p.machines k) (after_next form s allowance n ∙ turn_pass form s (P n) h)
    | inr h ↦ ap (λ p. pick p.machines k) (after_next form s allowance n ∙ turn_step form s (P n) h)
        ∙ pick_put_other (P n).machines (station_at (P n).turns) k _ (station_below (P n).turns) within (λ e. ne (e ∙ turn_at n))
  ]

  waits : (n : ℕ) → (Able form (pick s (station_at n)) (P n).left (pick (P n).machines (station_at n)).machine → ⊥) → (P (suc n)).machines ≡ (P n).machines
  waits n unable = elim (decided (is_passed form s (station_at (P n).turns) (P n))) [
    | inl h ↦ ap (λ p. p.machines) (after_next form s allowance n ∙ turn_pass form s (P n) h)
    | inr h ↦ absurd (unable (able_out form (pick s (station_at n)) (P n).left (pick (P n).machines (station_at n)).machine
        (ap (λ k. is_passed form s k (P n)) (sym (turn_at n)) ∙ h)))
  ]

  module _ (accepted : AllAccepted form s) where
    obeyed : (k : ℕ) → k < 4 → (n i : ℕ) → i < (pick (P n).machines k).machine.presentations
        → Satisfies (trace (pick (P n).machines k).machine) (rule_of (table_of form (pick s k).rule)) i
    obeyed k within n i =
        let (count, is) = (kept_after form s accepted allowance n).stepped k within in
        let x = pick s k in
        subst (λ (y : MachineState). i < y.machine.presentations → Satisfies (trace y.machine) (rule_of (table_of form x.rule)) i) (sym is)
        (after_obeys form x (accepted k) count i)

    ready : (k : ℕ) → k < 4 → (n : ℕ)
        → (pick (P n).machines k).readiness.ready ≡ would_keep (table_of form (pick s k).rule) (pick (P n).machines k).machine
    ready k within n =
        let (count, is) = (kept_after form s accepted allowance n).stepped k within in
        let x = pick s k in
        subst (λ (y : MachineState). y.readiness.ready ≡ would_keep (table_of form x.rule) y.machine) (sym is) (after_ready form x (accepted k) count)

    moves_at : (n k : ℕ) → k < 4 → station_at (P n).turns ≡ k → Able form (pick s k) (P n).left (pick (P n).machines k).machine
        → (pick (P (suc n)).machines k).machine
        ≡ move (pick s k).inputs (instruction_for form (pick s k) (pick (P n).machines k).machine) (pick (P n).machines k).machine
    moves_at n k within here able =
        let x = pick s k in
        let y = pick (P n).machines k in
        let (count, is) = (kept_after form s accepted allowance n).stepped k within in
        let e : is_passed form s (station_at (P n).turns) (P n) ≡ false = ap (λ j. is_passed form s j (P n)) here ∙ able_in form x (P n).left y.machine able in
        ap (λ (p : Progress). (pick p.machines k).machine) (after_next form s allowance n ∙ turn_step form s (P n) e)
        ∙ subst (λ j. (pick (with_step_machines j) k).machine ≡ (station_step form x y).machine) (sym here)
        (ap (λ (z : MachineState). z.machine) (pick_put_same (P n).machines k (station_step form x y)))
        ∙ able_moves form x (accepted k) y count is able.runs
      where
        with_step_machines : ℕ → Four MachineState
        with_step_machines j = (with_step form s j (P n)).machines

-- three others come between two turns of a booth
others : (n i j : ℕ) → i < j → j < 4 → station_at (n + i) ≡ station_at (n + j) → ⊥
others n i j a b e = omega arith

next : (n : ℕ) → station_at (n + 4) ≡ station_at n
next n = omega arith

-- ---- the run

module _ (form : Form) (s : Four Station) (budget allowance : ℕ) where
  from_start : RanOut form s allowance budget 0 (run_turns budget form s (started form s allowance))
  unfolding after_turns started
  from_start = ran_out form s allowance budget 0 (omega arith)

  promised : AllAccepted form s → (e : Progress) → RanOut form s allowance budget 0 e → StationsPromise form s budget allowance e
  promised accepted e out =
      let turns : e.turns ≡ out.many = ap (λ p. p.turns) out.reached ∙ turns_after form s allowance out.many in
      record {
        reached = out.reached ∙ ap (P form s allowance) (sym turns);
        counted = turns_after form s allowance;
        ends = elim out.ends [
          | inl h ↦ inl (turns ∙ h ∙ zero-add budget)
          | inr h ↦ inr (subst (FourPassed form s allowance) (sym turns) (four_passed form s allowance out.many h))
        ];
        goes_on = λ n h. within n (out.goes_on n (omega arith) (omega arith));
        obeyed = obeyed form s allowance accepted;
        own = λ k within n. (kept_after form s accepted allowance n).stepped k within;
        ready = ready form s allowance accepted;
        moves = λ n. moves_at form s allowance accepted n (station_at n) (station_below n) (turn_at form s allowance n);
        waits = waits form s allowance;
        stays = stays form s allowance;
        next = next;
        others = others;
        conserved = λ n. (kept_after form s accepted allowance n).conserved;
      }
    where
      within : (n : ℕ) → (n < 0 + budget) × ((P form s allowance n).passes < 4) → (n < budget) × (FourPassed form s allowance n → ⊥)
      within n h = (omega (arith, h.0), not_four form s allowance n h.1)

pub stations_kept : (form : Form) → StationsKept form
unfolding running_stations
stations_kept form s budget allowance e ran =
    let (checked, run) = both_passed (check_stations form station_count s) _ e ran in
    let ended : run_turns budget form s (started form s allowance) ≡ e = cc in
    promised form s budget allowance (checked_all form station_count s checked) e
    (subst (RanOut form s allowance budget 0) ended (from_start form s budget allowance))
