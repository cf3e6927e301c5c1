-- A run of four stations as numbers (`specs/Stations.antt`).
--     counted_even, counted_odd      how many states the words are
--     part_put, four_put             a state's words in the list of states, and the four one after the other
--     run_four                       four states are lent where a run was made
--     stations_unlent, stations_noted      what is handed back and left, for either stored form
-- Assumes nothing.
use mathlib.Core.Path.{◌≡◌, refl, sym, ap, subst, ◌∙◌}
use mathlib.Core.Bool.{Bool, true, false, cond}
use mathlib.Core.List.{List, ◌++◌, append_assoc, append-nil}
use Prim.Native.Nat.{ℕ, ◌+◌, ◌-◌, ◌≤◌, ◌<◌, ◌/◌, ◌%◌}
use native.Mathlib.Omega.{arith}
use lib.Dec.{eqb}
use lib.ListN.{length, take, drop, length-append, length-drop, drop_of_length-le}
use lib.Seq.{length-take-le, take_at, take_all, drop-append-add, drop-drop}
use borrow.Author.Tests.{eq-eqb, ne_eqb, eqb-true}
use Rattle.spec.specs.Questions.{Answer, passed, refused}
use Rattle.spec.specs.Rule.{Form}
use Rattle.turns.specs.Stations as stationed
use Rattle.turns.specs.Stations.{Four, each_of, Station, question21, check_stations, running_stations, StationsReport, stations_report}
use Rattle.spec.proofs.QuestionLaws.{both_passed, once_out}
use Rattle.machine.specs.declared.Machine.{Machine}
use Rattle.std.specs.Prelude.{Result, Ok, Err}
use Rattle.rule.specs.declared.answer.Refusal.{Refusal}
use Rattle.stations.specs.declared.Ran.{Ran}
use Rattle.stations.specs.Views.{stations_of, machines_of, report_in, LeftAs, Answered}
use Rattle.numbers.specs.Numbers.{number_of}
use Rattle.numbers.specs.States.{states_in}
use Rattle.numbers.specs.Stations.{ran_over, stations_words, states_words, states_after, histories_after, states_left, FourWords, StationsNoted}
use Rattle.numbers.proofs.NoteLaws.{room, no_room, noted, unlent}

-- ---- how many states the words are

pub counted_odd : (ws : List ℕ) → (length ws % 25 ≡ 0 → ⊥) → 0 ≡ states_in ws
unfolding states_in
counted_odd ws h = rw (ne_eqb (length ws % 25) 0 h)

pub counted_even : (ws : List ℕ) → length ws % 25 ≡ 0 → length ws / 25 ≡ states_in ws
unfolding states_in
counted_even ws h = rw (eq-eqb (length ws % 25) 0 h)

-- ---- states in the list

dropped : (n : ℕ) (p s : List ℕ) → length p ≡ n → drop (n + 25) (p ++ drop n s) ≡ drop (n + 25) s
dropped n p s e = ap (λ k. drop (k + 25) (p ++ drop n s)) (sym e) ∙ drop-append-add p (drop n s) 25 ∙ drop-drop 25 n s

-- the n words before are written already
next : (n : ℕ) (p w s : List ℕ) → length p ≡ n → take n (p ++ drop n s) ++ w ++ drop (n + 25) (p ++ drop n s) ≡ p ++ w ++ drop (n + 25) s
next n p w s e =
    ap (λ (l : List ℕ). l ++ w ++ drop (n + 25) (p ++ drop n s)) (take_at p (drop n s) n e)
    ∙ ap (λ (l : List ℕ). p ++ w ++ l) (dropped n p s e)

-- a part from n on that is lent and comes back with its first 25 words written
pub part_put : (n : ℕ) (s w after : List ℕ) → n + 25 ≤ length s → after ≡ w ++ drop 25 (take (length s - n) (drop n s))
    → take n s ++ (after ++ drop (length s - n) (drop n s)) ≡ take n s ++ w ++ drop (n + 25) s
part_put n s w after h e =
    let part = drop n s in
    let all : length part ≤ length s - n = omega (arith, length-drop n s) in
    ap (λ (l : List ℕ). take n s ++ (after ++ l)) (drop_of_length-le part all)
    ∙ ap (λ (l : List ℕ). take n s ++ l)
    (append-nil after ∙ e ∙ ap (λ (l : List ℕ). w ++ drop 25 l) (take_all (length s - n) part all) ∙ ap (λ (l : List ℕ). w ++ l) (drop-drop 25 n s))
    ∙ sym (append_assoc (take n s) w (drop (n + 25) s))

-- words that took the place of 25
length_put : (n : ℕ) (w s after : List ℕ) → n + 25 ≤ length s → after ≡ take n s ++ w ++ drop (n + 25) s → length after ≡ length s → length w ≡ 25
length_put n w s after h e same =
    omega (arith, simp length-append at (ap length e), length-take-le n s (omega arith), length-drop (n + 25) s)

module _ (s₀ s₁ s₂ s₃ s₄ a b c d : List ℕ) (all : length s₀ ≡ 100)
    (e₁ : s₁ ≡ a ++ drop 25 s₀) (n₁ : length s₁ ≡ length s₀)
    (e₂ : s₂ ≡ take 25 s₁ ++ b ++ drop 50 s₁) (n₂ : length s₂ ≡ length s₁)
    (e₃ : s₃ ≡ take 50 s₂ ++ c ++ drop 75 s₂) (n₃ : length s₃ ≡ length s₂)
    (e₄ : s₄ ≡ take 75 s₃ ++ d ++ drop 100 s₃) where
  pub four_put : s₄ ≡ a ++ b ++ c ++ d
  four_put =
      let la = length_put 0 a s₀ s₁ (omega arith) e₁ n₁ in
      let lb = length_put 25 b s₁ s₂ (omega arith) e₂ n₂ in
      let lc = length_put 50 c s₂ s₃ (omega arith) e₃ n₃ in
      let two : s₂ ≡ a ++ b ++ drop 50 s₀ = e₂ ∙ ap (λ (l : List ℕ). take 25 l ++ b ++ drop 50 l) e₁ ∙ next 25 a b s₀ la in
      let three : s₃ ≡ a ++ b ++ c ++ drop 75 s₀
      = e₃ ∙ ap (λ (l : List ℕ). take 50 l ++ c ++ drop 75 l) two ∙ next 50 (a ++ b) c s₀ (omega (arith, length-append a b)) in
      e₄ ∙ ap (λ (l : List ℕ). take 75 l ++ d ++ drop 100 l) three
      ∙ next 75 (a ++ b ++ c) d s₀ (omega (arith, length-append (a ++ b) c, length-append a b))
      ∙ ap (λ (l : List ℕ). a ++ b ++ c ++ d ++ l) (drop_of_length-le s₀ {i = 100} (omega arith)) ∙ append-nil (a ++ b ++ c ++ d)

-- ---- four states are lent where a run was made

whole : (ws : List ℕ) → (b : Bool) → eqb (length ws % 25) 0 ≡ b → cond b (length ws / 25) 0 ≡ 4 → length ws ≡ 100
whole ws true e h = let z : length ws % 25 ≡ 0 = eqb-true (length ws % 25) 0 e in omega arith
whole ws false e h = absurd (omega (arith, h))

hundred : (ws : List ℕ) → states_in ws ≡ 4 → length ws ≡ 100
unfolding states_in
hundred ws h = whole ws (eqb (length ws % 25) 0) refl h

four_counted : (form : Form) (n : ℕ) (s : Four Station) (budget allowance : ℕ) (p : stationed.Progress)
    → running_stations form n s budget allowance ≡ passed p → n ≡ 4
unfolding running_stations check_stations question21
four_counted form n s budget allowance p e =
    let (checked, rest) = both_passed (check_stations form n s) _ p e in
    let (once, more) = both_passed (question21 n) _ tt checked in
    eqb-true n 4 (once_out 21 (eqb n 4) once)

-- ---- the answer, by its cases

report_number : (a : Answer stationed.Progress) → number_of (stations_report a).verdict ≡ number_of a
report_number (passed p) = refl
report_number (refused q i) = refl

module _ (ms before : Four Machine) (lent left : Four (List ℕ)) (ws : List ℕ) where
  states_after_lem : (x : Answer stationed.Progress) (a : Result Ran Refusal) → Answered x a before ms lent left
      → states_left a (machines_of ms left) ws ≡ states_after x ws
  states_after_lem (passed p) (Ok r) h = ap states_words h.kept
  states_after_lem (passed p) (Err r) h = let v = ap (λ (x : StationsReport). x.verdict) h.report in let z : ◌≡◌ {A = ℕ} 0 1 = cc in absurd (omega arith)
  states_after_lem (refused q i) (Ok r) h = let v = ap (λ (x : StationsReport). x.verdict) h.report in let z : ◌≡◌ {A = ℕ} 0 1 = cc in absurd (omega arith)
  states_after_lem (refused q i) (Err r) h = refl

  histories_after_lem : (x : Answer stationed.Progress) → LeftAs x before ms lent left → left ≡ histories_after x lent
  histories_after_lem (passed p) h = ap (each_of (λ x. x.machine.history)) h
  histories_after_lem (refused q i) h = h.1

-- ---- what is handed back, for any stored form

module _ (form : Form) (states : List ℕ) (rules scripts inputs lent : Four (List ℕ)) (budget allowance : ℕ) (numbers : List ℕ) where
  abbrev ran : Answer stationed.Progress
  ran = ran_over form states rules scripts inputs lent budget allowance

  abbrev words : Answer stationed.Progress → List ℕ
  words x = stations_words (stations_report x)

  pub stations_unlent : length numbers < 3 → StationsNoted ran 99 numbers numbers states states lent lent
  stations_unlent h =
      let (handed, written) = unlent 3 words numbers ran h in
      record {
        number = handed;
        noted = written;
        put = no_room 3 numbers h (states_after ran states) states;
        made = no_room 3 numbers h (histories_after ran lent) lent;
      }

  module _ (n : ℕ) (counted : n ≡ states_in states) (a : Result Ran Refusal) (before ms : Four Machine) (left : Four (List ℕ))
      (answered : Answered (running_stations form n (stations_of rules scripts inputs lent) budget allowance) a before ms lent left) where
    is : Answered ran a before ms lent left
    is = subst (λ k. Answered (running_stations form k (stations_of rules scripts inputs lent) budget allowance) a before ms lent left) counted answered

    pub run_four : FourWords a states
    run_four = go a ran refl is.report
      where
        go : (b : Result Ran Refusal) (x : Answer stationed.Progress) → ran ≡ x → report_in b ≡ stations_report x → FourWords b states
        go (Ok r) (passed p) e told = hundred states (four_counted form (states_in states) _ budget allowance p e)
        go (Ok r) (refused q i) e told = let v = ap (λ (x : StationsReport). x.verdict) told in let z : ◌≡◌ {A = ℕ} 0 1 = cc in absurd (omega arith)
        go (Err r) x e told = tt

    pub stations_noted : 3 ≤ length numbers → (r : ℕ) (written after : List ℕ) → r ≡ number_of (report_in a).verdict
        → written ≡ stations_words (report_in a) ++ drop 3 numbers → after ≡ states_left a (machines_of ms left) states
        → StationsNoted ran r numbers written states after lent left
    stations_noted h r written after told wrote put =
        let report = is.report in
        let (handed, noted₁) = noted 3 words numbers ran ran refl h r (told ∙ ap (λ (x : StationsReport). number_of x.verdict) report ∙ report_number ran)
        written (wrote ∙ ap (λ (x : StationsReport). stations_words x ++ drop 3 numbers) report) in
        record {
          number = handed;
          noted = noted₁;
          put = put ∙ states_after_lem ms before lent left states ran a is ∙ room 3 numbers h (states_after ran states) states;
          made = histories_after_lem ms before lent left states ran is.kept ∙ room 3 numbers h (histories_after ran lent) lent;
        }
