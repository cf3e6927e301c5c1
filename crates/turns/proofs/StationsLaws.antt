-- The laws of `specs/Stations.antt`, turn by turn.
--     pick_put_same, pick_put_other, presented_put    one of four put in its place
--     after_inside, able_moves, stepped_on            a step of an accepted station that nothing stops is what its instruction does
--     after_obeys, after_ready                        n steps after its fresh start it has obeyed its rule, and its state holds whether
--                                                     it is ready
--     AllAccepted, checked_all                        stations that are not refused are accepted, each for its own rule
--     Kept, kept_start, kept_turn, kept_after         what every turn keeps: each machine is some steps after its fresh start, and
--                                                     presentations plus what is left are the starting allowance
--     RanOut, ran_out                                 where a run ends
-- Assumes nothing.
use mathlib.Core.Path.{◌≡◌, refl, sym, subst, ap, ◌∙◌}
use mathlib.Core.Logic.{◌⊎◌, inl, inr}
use mathlib.Core.Bool.{Bool, true, false, cond, ◌&&◌, ◌||◌}
use mathlib.Core.Option.{Option, none, some, Option-elim}
use mathlib.Core.List.{List}
use Prim.Native.Nat.{ℕ, zero, suc, ◌+◌, ◌-◌, ◌≤◌, ◌<◌}
use native.Mathlib.Omega.{arith}
use lib.ListN.{length}
use lib.Dec.{eqb, eqb-suc-zero}
use borrow.Author.Tests.{eqb-true, eqb-false}
use Rattle.spec.specs.Logic.{Satisfies}
use Rattle.spec.specs.Questions.{passed, refused, Checked}
use Rattle.spec.specs.Rule.{Form, table_of, rule_of}
use Rattle.spec.specs.Script.{Instruction, halt, write, branch, goto, present, set_work, keep, is_present}
use Rattle.spec.specs.Check.{lines_of, check_script}
use Rattle.spec.specs.Machine.{Machine, trace, fresh, fresh_of, Stop, stops, move, step, acting, unless_stopped}
use Rattle.spec.specs.Ready.{MachineState, would_keep, fresh_state_of, state_step_of, state_after}
use Rattle.spec.specs.Promise.{Accepted, after}
use Rattle.turns.specs.Stations.{Four, pick, put, Station, Progress, started, station_at, instruction_for, is_stopped, passed_at, passed_over, left_at, left_after, station_step, with_pass, with_step, is_passed, turn, run_turns, at_station, ask_stations, question21, check_stations}
use Rattle.turns.specs.StationsPromise.{after_turns, presented, Able}
use Rattle.spec.proofs.BoolLaws.{clash, decided, le_or_lt}
use Rattle.spec.proofs.QuestionLaws.{both_passed}
use Rattle.spec.proofs.AcceptedLaws.{accepted_rule, accepted_good}
use Rattle.spec.proofs.SafetyLaws.{steps_inside}
use Rattle.spec.proofs.ReadyLaws.{right}
use Rattle.spec.proofs.RunLaws.{step_of_is, after_is, after_safe}

-- ---- one of four

pub pick_put_same : {A : Type 0} (f : Four A) (k : ℕ) (x : A) → pick (put f k x) k ≡ x
pick_put_same f zero x = refl
pick_put_same f (suc zero) x = refl
pick_put_same f (suc (suc zero)) x = refl
pick_put_same f (suc (suc (suc k))) x = refl

pub pick_put_other : {A : Type 0} (f : Four A) (k j : ℕ) (x : A) → k < 4 → j < 4 → (j ≡ k → ⊥) → pick (put f k x) j ≡ pick f j
pick_put_other f zero zero x hk hj ne = absurd (ne refl)
pick_put_other f zero (suc zero) x hk hj ne = refl
pick_put_other f zero (suc (suc zero)) x hk hj ne = refl
pick_put_other f zero (suc (suc (suc j))) x hk hj ne = refl
pick_put_other f (suc zero) zero x hk hj ne = refl
pick_put_other f (suc zero) (suc zero) x hk hj ne = absurd (ne refl)
pick_put_other f (suc zero) (suc (suc zero)) x hk hj ne = refl
pick_put_other f (suc zero) (suc (suc (suc j))) x hk hj ne = refl
pick_put_other f (suc (suc zero)) zero x hk hj ne = refl
pick_put_other f (suc (suc zero)) (suc zero) x hk hj ne = refl
pick_put_other f (suc (suc zero)) (suc (suc zero)) x hk hj ne = absurd (ne refl)
pick_put_other f (suc (suc zero)) (suc (suc (suc j))) x hk hj ne = refl
pick_put_other f (suc (suc (suc k))) zero x hk hj ne = refl
pick_put_other f (suc (suc (suc k))) (suc zero) x hk hj ne = refl
pick_put_other f (suc (suc (suc k))) (suc (suc zero)) x hk hj ne = refl
pick_put_other f (suc (suc (suc k))) (suc (suc (suc j))) x hk hj ne = absurd (ne (omega arith))

pub presented_put : (ms : Four MachineState) (k : ℕ) (y : MachineState)
    → presented (put ms k y) + (pick ms k).machine.presentations ≡ presented ms + y.machine.presentations
presented_put ms zero y = omega arith
presented_put ms (suc zero) y = omega arith
presented_put ms (suc (suc zero)) y = omega arith
presented_put ms (suc (suc (suc k))) y = omega arith

-- ---- a step that nothing stops

presents : (inputs : List ℕ) (i : Instruction) (m : Machine)
    → (move inputs i m).presentations ≡ cond (is_present i) (suc m.presentations) m.presentations
unfolding move
presents inputs halt m = refl
presents inputs (write r v) m = refl
presents inputs (branch q l) m = refl
presents inputs (goto l) m = refl
presents inputs present m = refl
presents inputs (set_work k b) m = refl
presents inputs (keep k) m = refl

acts : (inputs : List ℕ) (i : Instruction) (m : Machine) → stops inputs i m ≡ none → acting inputs i m ≡ move inputs i m
acts inputs i m e = ap (λ o. unless_stopped o m (move inputs i m)) e

module _ (form : Form) (x : Station) (accepted : Accepted form x.rule x.script) where
  -- n steps after a fresh start
  abbrev pub stepped_to : ℕ → MachineState
  stepped_to n = state_after form n x.rule x.script x.inputs x.lent

  first_line : 0 < length (lines_of form x.script) → (fresh (table_of form x.rule) x.lent).line < length (lines_of form x.script)
  unfolding fresh
  first_line h = h

  pub after_inside : (n : ℕ) → (stepped_to n).machine.line < length (lines_of form x.script)
  unfolding after
  after_inside n =
      let good = accepted_good form x.rule x.script accepted in
      subst (λ (m : Machine). m.line < length (lines_of form x.script)) (sym (after_is form x.rule x.script accepted x.inputs x.lent n))
      (steps_inside (table_of form x.rule) (lines_of form x.script) good x.inputs n (fresh (table_of form x.rule) x.lent) (first_line good.some_line))

  pub able_moves : (y : MachineState) (n : ℕ) → y ≡ stepped_to n → stops x.inputs (instruction_for form x y.machine) y.machine ≡ none
      → (station_step form x y).machine ≡ move x.inputs (instruction_for form x y.machine) y.machine
  unfolding step
  able_moves y n e none-stops =
      step_of_is form x.rule x.script accepted x.inputs y.machine
      (subst (λ (z : MachineState). z.machine.line < length (lines_of form x.script)) (sym e) (after_inside n))
      ∙ acts x.inputs (instruction_for form x y.machine) y.machine none-stops

  pub stepped_on : (y : MachineState) (n : ℕ) → y ≡ stepped_to n → station_step form x y ≡ stepped_to (suc n)
  unfolding state_after
  stepped_on y n e = ap (state_step_of form x.rule x.script x.inputs) e

  pub after_obeys : (n i : ℕ) → i < (stepped_to n).machine.presentations
      → Satisfies (trace (stepped_to n).machine) (rule_of (table_of form x.rule)) i
  unfolding after
  after_obeys n i = after_safe form x.rule x.script accepted x.inputs x.lent n i

  pub after_ready : (n : ℕ) → (stepped_to n).readiness.ready ≡ would_keep (table_of form x.rule) (stepped_to n).machine
  after_ready n = right form x.rule (accepted_rule form x.rule x.script accepted) x.script x.inputs x.lent n

-- ---- able to move

module _ (form : Form) (x : Station) (left : ℕ) (m : Machine) where
  abbrev here : Instruction
  here = instruction_for form x m

  not_stopped : (o : Option Stop) (b : Bool) → (is_stopped o || b) ≡ false → (o ≡ none) × (b ≡ false)
  unfolding Option-elim
  not_stopped none b e = (refl, e)
  not_stopped (some s) b e = clash refl e

  some_left : (b : Bool) → (b && eqb left 0) ≡ false → b ≡ true → 0 < left
  some_left true e h = let ne = eqb-false left 0 e in go left ne
    where
      go : (n : ℕ) → (n ≡ 0 → ⊥) → 0 < n
      go zero ne = absurd (ne refl)
      go (suc n) ne = omega arith
  some_left false e h = clash h refl

  pub able_out : passed_over form x left m ≡ false → Able form x left m
  unfolding passed_at
  able_out e =
      let (a, b) = not_stopped (stops x.inputs here m) (is_present here && eqb left 0) e in
      record { runs = a; allowed = some_left (is_present here) b }

  pub able_in : Able form x left m → passed_over form x left m ≡ false
  unfolding passed_at Option-elim
  able_in a = go (stops x.inputs here m) (is_present here) left a.runs a.allowed
    where
      go : (o : Option Stop) (b : Bool) (l : ℕ) → o ≡ none → (b ≡ true → 0 < l) → (is_stopped o || (b && eqb l 0)) ≡ false
      go none true zero e h = let z = h refl in absurd (omega arith)
      go none true (suc l) e h = eqb-suc-zero l
      go none false l e h = refl
      go (some s) b l e h = let z : ◌≡◌ {A = ℕ} 0 1 = cc in absurd (omega arith)

  -- a present takes one
  pub spends : Able form x left m → (after : Machine) → after ≡ move x.inputs here m
      → after.presentations + left_after form x left m ≡ m.presentations + left
  unfolding left_at
  spends a after e = go (is_present here) a.allowed (ap (λ y. y.presentations) e ∙ presents x.inputs here m)
    where
      go : (b : Bool) → (b ≡ true → 0 < left) → after.presentations ≡ cond b (suc m.presentations) m.presentations
          → after.presentations + cond b (left - 1) left ≡ m.presentations + left
      go true h e = let l = h refl in omega arith
      go false h e = omega arith

-- ---- stations that are not refused

abbrev pub AllAccepted : Form → Four Station → Type 0
AllAccepted form s = (k : ℕ) → Accepted form (pick s k).rule (pick s k).script

at_passed : (k : ℕ) (c : Checked) → at_station k c ≡ passed tt → c ≡ passed tt
unfolding at_station
at_passed k (passed u) e = refl
at_passed k (refused q i) e = let z : ◌≡◌ {A = ℕ} 0 1 = cc in absurd (omega arith)

asked_all : (q : Station → Checked) (s : Four Station) → ask_stations q s ≡ passed tt → (k : ℕ) → q (pick s k) ≡ passed tt
unfolding ask_stations
asked_all q s e =
    let (a, e₁) = both_passed (at_station 0 (q s.first)) _ tt e in
    let (b, e₂) = both_passed (at_station 1 (q s.second)) _ tt e₁ in
    let (c, d) = both_passed (at_station 2 (q s.third)) _ tt e₂ in
    go (at_passed 0 _ a) (at_passed 1 _ b) (at_passed 2 _ c) (at_passed 3 _ d)
  where
    go : q s.first ≡ passed tt → q s.second ≡ passed tt → q s.third ≡ passed tt → q s.fourth ≡ passed tt
        → (k : ℕ) → q (pick s k) ≡ passed tt
    go a b c d zero = a
    go a b c d (suc zero) = b
    go a b c d (suc (suc zero)) = c
    go a b c d (suc (suc (suc k))) = d

pub checked_all : (form : Form) (n : ℕ) (s : Four Station) → check_stations form n s ≡ passed tt → AllAccepted form s
unfolding check_stations
checked_all form n s e =
    let (a, e₁) = both_passed (question21 n) _ tt e in
    let (b, c) = both_passed (ask_stations (λ x. check_script form x.rule x.script) s) _ tt e₁ in
    asked_all (λ x. check_script form x.rule x.script) s b

-- ---- what every turn keeps

-- the state n steps after a station's fresh start
abbrev pub made_of : Form → Station → ℕ → MachineState
made_of form x n = state_after form n x.rule x.script x.inputs x.lent

pub record Kept (form : Form) (s : Four Station) (allowance : ℕ) (p : Progress) : Type 0 where
  pub stepped : (k : ℕ) → k < 4 → (n : ℕ) × (pick p.machines k ≡ made_of form (pick s k) n)
  pub conserved : presented p.machines + p.left ≡ allowance

-- whose turn it is
pub station_below : (t : ℕ) → station_at t < 4
station_below t = omega arith

module _ (form : Form) (s : Four Station) (accepted : AllAccepted form s) (allowance : ℕ) where
  fresh_none : (x : Station) → (fresh_state_of form x.rule x.lent).machine.presentations ≡ 0
  unfolding fresh_state_of fresh_of fresh
  fresh_none x = refl

  pub kept_start : Kept form s allowance (started form s allowance)
  unfolding started state_after
  kept_start = record {
    stepped = λ k h. (0, go k);
    conserved = (
        let a = fresh_none s.first in let b = fresh_none s.second in let c = fresh_none s.third in let d = fresh_none s.fourth in
        omega arith
        );
  }
    where
      go : (k : ℕ) → pick (started form s allowance).machines k ≡ fresh_state_of form (pick s k).rule (pick s k).lent
      go zero = refl
      go (suc zero) = refl
      go (suc (suc zero)) = refl
      go (suc (suc (suc k))) = refl

  -- station k, whose turn it is, moves
  kept_step : (k : ℕ) → k < 4 → (p : Progress) → Kept form s allowance p → is_passed form s k p ≡ false
      → Kept form s allowance (with_step form s k p)
  kept_step k within p kept e =
      let x = pick s k in
      let y = pick p.machines k in
      let (n, is) = kept.stepped k within in
      let able = able_out form x p.left y.machine e in
      let moved = able_moves form x (accepted k) y n is able.runs in
      let spent = spends form x p.left y.machine able (station_step form x y).machine moved in
      let total = presented_put p.machines k (station_step form x y) in
      let before = kept.conserved in
      record {
        stepped = λ j h. others j h (decided (eqb j k)) (suc n, pick_put_same p.machines k (station_step form x y) ∙ stepped_on form x (accepted k) y n is);
        conserved = omega arith;
      }
    where
      others : (j : ℕ) → j < 4 → (eqb j k ≡ true) ⊎ (eqb j k ≡ false)
          → ((n : ℕ) × (pick (with_step form s k p).machines k ≡ made_of form (pick s k) n))
          → (n : ℕ) × (pick (with_step form s k p).machines j ≡ made_of form (pick s j) n)
      others j h (inl e) mine = rw (eqb-true j k e) mine
      others j h (inr e) mine =
          let (n, is) = kept.stepped j h in
          (n, pick_put_other p.machines k j (station_step form (pick s k) (pick p.machines k)) within h (eqb-false j k e) ∙ is)

  pub kept_turn : (p : Progress) → Kept form s allowance p → Kept form s allowance (turn form s p)
  unfolding turn
  kept_turn p kept = go (is_passed form s (station_at p.turns) p) (kept_step (station_at p.turns) (station_below p.turns) p kept)
    where
      go : (b : Bool) → (b ≡ false → Kept form s allowance (with_step form s (station_at p.turns) p))
          → Kept form s allowance (cond b (with_pass p) (with_step form s (station_at p.turns) p))
      go true h = record { stepped = kept.stepped; conserved = kept.conserved }
      go false h = h refl

  pub kept_after : (n : ℕ) → Kept form s allowance (after_turns n form s allowance)
  unfolding after_turns
  kept_after zero = kept_start
  kept_after (suc n) = kept_turn (after_turns n form s allowance) (kept_after n)

-- ---- turns

later_than : (n j : ℕ) → n ≤ j → (j ≡ n → ⊥) → suc n ≤ j
later_than n j a ne = elim (le_or_lt j n) [ inl h ↦ absurd (ne (omega arith)) | inr h ↦ h ]

below_four : (n : ℕ) → n ≤ 4 → (n ≡ 4 → ⊥) → n < 4
below_four n a ne = elim (le_or_lt 4 n) [ inl h ↦ absurd (ne (omega arith)) | inr h ↦ h ]

module _ (form : Form) (s : Four Station) where
  pub turn_pass : (p : Progress) → is_passed form s (station_at p.turns) p ≡ true → turn form s p ≡ with_pass p
  unfolding turn
  turn_pass p e = ap (λ b. cond b (with_pass p) (with_step form s (station_at p.turns) p)) e

  pub turn_step : (p : Progress) → is_passed form s (station_at p.turns) p ≡ false → turn form s p ≡ with_step form s (station_at p.turns) p
  unfolding turn
  turn_step p e = ap (λ b. cond b (with_pass p) (with_step form s (station_at p.turns) p)) e

  pub turns_turn : (p : Progress) → (turn form s p).turns ≡ suc p.turns
  turns_turn p = elim (decided (is_passed form s (station_at p.turns) p)) [
    | inl e ↦ ap (λ q. q.turns) (turn_pass p e)
    | inr e ↦ ap (λ q. q.turns) (turn_step p e)
  ]

  pub passes_turn : (p : Progress) → (turn form s p).passes ≤ suc p.passes
  passes_turn p = elim (decided (is_passed form s (station_at p.turns) p)) [
    | inl e ↦ (let h = ap (λ q. q.passes) (turn_pass p e) in omega arith)
    | inr e ↦ (let h = ap (λ q. q.passes) (turn_step p e) in omega arith)
  ]

  module _ (allowance : ℕ) where
    abbrev P : ℕ → Progress
    P n = after_turns n form s allowance

    pub after_next : (n : ℕ) → P (suc n) ≡ turn form s (P n)
    unfolding after_turns
    after_next n = refl

    pub turns_after : (n : ℕ) → (P n).turns ≡ n
    unfolding after_turns started
    turns_after zero = refl
    turns_after (suc n) = turns_turn (P n) ∙ ap suc (turns_after n)

    -- ---- where a run ends

    -- from turn n on, with `rest` turns of the budget left
    pub record RanOut (rest n : ℕ) (e : Progress) : Type 0 where
      pub many : ℕ
      pub later : n ≤ many
      pub reached : e ≡ P many
      pub ends : (many ≡ n + rest) ⊎ ((P many).passes ≡ 4)
      pub goes_on : (j : ℕ) → n ≤ j → j < many → (j < n + rest) × ((P j).passes < 4)

    pub ran_out : (rest n : ℕ) → (P n).passes ≤ 4 → RanOut rest n (run_turns rest form s (P n))
    unfolding run_turns after_turns
    ran_out zero n few =
        record { many = n; later = omega arith; reached = refl; ends = inl (omega arith); goes_on = λ j a b. absurd (omega arith) }
    ran_out (suc rest) n few =
        go (decided (eqb (P n).passes 4)) (ran_out rest (suc n))
      where
        stopped : eqb (P n).passes 4 ≡ true → RanOut (suc rest) n (P n)
        stopped e = record {
          many = n;
          later = omega arith;
          reached = refl;
          ends = inr (eqb-true (P n).passes 4 e);
          goes_on = λ j a b. absurd (omega arith);
        }

        first : (P n).passes < 4 → (r : RanOut rest (suc n) (run_turns rest form s (P (suc n)))) → RanOut (suc rest) n (run_turns rest form s (P (suc n)))
        first h r = record {
          many = r.many;
          later = (let l = r.later in omega arith);
          reached = r.reached;
          ends = elim r.ends [ inl e ↦ inl (omega arith) | inr e ↦ inr e ];
          goes_on = λ j a b. now j a b (decided (eqb j n));
        }
          where
            now : (j : ℕ) → n ≤ j → j < r.many → (eqb j n ≡ true) ⊎ (eqb j n ≡ false) → (j < n + suc rest) × ((P j).passes < 4)
            now j a b (inl e) = let is = eqb-true j n e in (omega arith, subst (λ i. (P i).passes < 4) (sym is) h)
            now j a b (inr e) =
                let ne : (j ≡ n → ⊥) = eqb-false j n e in
                let above : suc n ≤ j = later_than n j a ne in
                let (x, y) = r.goes_on j above b in
                (omega arith, y)

        go : (eqb (P n).passes 4 ≡ true) ⊎ (eqb (P n).passes 4 ≡ false)
            → ((P (suc n)).passes ≤ 4 → RanOut rest (suc n) (run_turns rest form s (P (suc n))))
            → RanOut (suc rest) n (cond (eqb (P n).passes 4) (P n) (run_turns rest form s (turn form s (P n))))
        go (inl e) ih = rw e (stopped e)
        go (inr e) ih =
            let ne = eqb-false (P n).passes 4 e in
            let h : (P n).passes < 4 = below_four (P n).passes few ne in
            let g : (P (suc n)).passes ≤ suc (P n).passes = passes_turn (P n) in
            rw e (first h (ih (omega arith)))
