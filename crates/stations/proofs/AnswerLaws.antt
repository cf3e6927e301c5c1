-- What a run of four stations answers and leaves (`specs/Views.antt`).
--     asked_no, asked_on                  the questions in turn
--     all_refused, all_ran                a no of these, or the turns; scripts_no and inputs_no of each kind of question
--     counted_refused, counted_ran        the same where so many states are counted
--     list_refused, list_ran              and of a list of states
-- Assumes nothing.
use mathlib.Core.Path.{◌≡◌, refl, sym, ap, subst, ◌∙◌}
use mathlib.Core.Bool.{true, false}
use mathlib.Core.List.{List, [], ◌∷◌}
use Prim.Native.Nat.{ℕ, suc}
use native.Mathlib.Omega.{arith}
use lib.Dec.{eqb}
use lib.ListN.{length}
use borrow.Author.Tests.{eqb-true, ne_eqb}
use Rattle.spec.specs.Questions.{Answer, passed, refused, Checked, ◌then◌, ask_once}
use Rattle.spec.specs.Rule.{Form}
use Rattle.spec.specs.Judging.{question15}
use Rattle.spec.specs.Check.{check_script}
use Rattle.turns.specs.Stations as stationed
use Rattle.turns.specs.Stations.{station_count, Four, four, Station, started, run_turns, ask_stations, question21, check_stations, running_stations, stations_report}
use Rattle.spec.proofs.QuestionLaws.{then_passed, then_refused, first_no, go_on}
use Rattle.std.specs.Prelude.{Result, Ok, Err}
use Rattle.rule.specs.declared.answer.Question.TheVariants.{StationCount}
use Rattle.rule.specs.declared.answer.Refusal.{Refusal}
use Rattle.rule.specs.Answers.{number_of}
use Rattle.machine.specs.declared.Machine.{Machine}
use Rattle.stations.specs.declared.Progress.{Progress}
use Rattle.stations.specs.declared.Ran.{Ran}
use Rattle.stations.specs.Views.{progress_of, report_in, LeftAs, four_in, ListLeftAs, Answered, ListAnswered}

module _ (form : Form) (s : Four Station) where
  abbrev scripts : Checked
  scripts = ask_stations (λ x. check_script form x.rule x.script) s

  abbrev numbers : Checked
  numbers = ask_stations (λ x. question15 x.inputs) s

  -- four states: the stations are asked
  asked : check_stations form 4 s ≡ (scripts then numbers)
  unfolding check_stations question21 ask_once ◌then◌
  asked = refl

  pub asked_no : (q i : ℕ) → refused q i ≡ scripts → refused q i ≡ check_stations form 4 s
  asked_no q i e = first_no _ scripts numbers q i refl e ∙ sym asked

  pub asked_on : passed tt ≡ scripts → (x : Checked) → x ≡ numbers → x ≡ check_stations form 4 s
  asked_on e x is = go_on x scripts numbers (sym e) is ∙ sym asked

module _ (form : Form) (s : Four Station) (budget allowance : ℕ) where
  abbrev end : stationed.Progress
  end = run_turns budget form s (started form s allowance)

  refuses : (q i : ℕ) → refused q i ≡ check_stations form 4 s → running_stations form 4 s budget allowance ≡ refused q i
  unfolding running_stations
  refuses q i e = then_refused (check_stations form 4 s) (passed end) q i (sym e)

  runs : passed tt ≡ check_stations form 4 s → running_stations form 4 s budget allowance ≡ passed end
  unfolding running_stations
  runs e = then_passed (check_stations form 4 s) (passed end) (sym e)

  module _ (ms : Four Machine) (lent : Four (List ℕ)) where
    pub all_refused : (r : Refusal) → refused (number_of r.question) r.place ≡ check_stations form 4 s
        → Answered (running_stations form 4 s budget allowance) (Err r) ms ms lent lent
    all_refused r e = rw (refuses _ _ e) (record { report = refl; kept = (refl, refl) })

    pub scripts_no : (r : Refusal) → refused (number_of r.question) r.place ≡ scripts form s
        → Answered (running_stations form 4 s budget allowance) (Err r) ms ms lent lent
    scripts_no r e = all_refused r (asked_no form s _ _ e)

    pub inputs_no : passed tt ≡ scripts form s → (r : Refusal) → refused (number_of r.question) r.place ≡ numbers form s
        → Answered (running_stations form 4 s budget allowance) (Err r) ms ms lent lent
    inputs_no e₀ r e = all_refused r (asked_on form s e₀ _ e)

    pub all_ran : passed tt ≡ check_stations form 4 s → (p : Progress) (hs : Four (List ℕ)) → progress_of p hs ≡ end
        → Answered (running_stations form 4 s budget allowance) (Ok (record { turns = p.counts.turns; left = p.counts.left })) ms
        (four p.first p.second p.third p.fourth) lent hs
    all_ran e₀ p hs e = rw (runs e₀ ∙ ap passed (sym e)) (record { report = refl; kept = refl })

-- ---- a list of states

abbrev pub list_of : Four Machine → List Machine
list_of f = f.first ∷ f.second ∷ f.third ∷ f.fourth ∷ []

no_such : {n : ℕ} → suc (suc (suc (suc (suc n)))) ≡ 4 → ⊥
no_such e = omega (arith, e)

list_is : (ys : List Machine) → length ys ≡ 4 → list_of (four_in ys) ≡ ys
list_is [] e = absurd (omega (arith, e))
list_is (a ∷ []) e = absurd (omega (arith, e))
list_is (a ∷ b ∷ []) e = absurd (omega (arith, e))
list_is (a ∷ b ∷ c ∷ []) e = absurd (omega (arith, e))
list_is (a ∷ b ∷ c ∷ d ∷ []) e = refl
list_is (a ∷ b ∷ c ∷ d ∷ f ∷ ys) e = absurd (no_such e)

module _ (form : Form) (s : Four Station) (budget allowance : ℕ) (lent : Four (List ℕ)) where
  abbrev answer : ℕ → Answer stationed.Progress
  answer n = running_stations form n s budget allowance

  refused_is : (n : ℕ) → eqb n 4 ≡ false → answer n ≡ refused 21 0
  unfolding running_stations check_stations question21 ask_once ◌then◌
  refused_is n e = rw e

  abbrev no_four : Result Ran Refusal
  no_four = Err (record { question = StationCount; place = 0 })

  -- a count of other than four
  pub counted_refused : (n : ℕ) → (n ≡ 4 → ⊥) → (a : Result Ran Refusal) → a ≡ no_four → (ms after : Four Machine) → after ≡ ms
      → Answered (answer n) a ms after lent lent
  counted_refused n ne a is ms after same = rw (refused_is n (ne_eqb n 4 ne)) (record { report = ap report_in is; kept = (same, refl) })

  pub counted_ran : (n : ℕ) → n ≡ 4 → (a : Result Ran Refusal) (before ms after : Four Machine) (left : Four (List ℕ)) → before ≡ ms
      → Answered (answer 4) a before after lent left → Answered (answer n) a ms after lent left
  counted_ran n e a before ms after left same h =
      subst (λ k. Answered (answer k) a ms after lent left) (sym e) (subst (λ m. Answered (answer 4) a m after lent left) same h)

  module _ (ys : List Machine) where
    pub list_refused : eqb (length ys) 4 ≡ false → (a : Result Ran Refusal) → a ≡ no_four → ListAnswered (answer (length ys)) a ys ys lent lent
    list_refused e a is = rw (refused_is (length ys) e) (record { report = ap report_in is; kept = (refl, refl) })

    left_as : (x : Answer stationed.Progress) (after : Four Machine) (left : Four (List ℕ)) → length ys ≡ 4
        → LeftAs x (four_in ys) after lent left → ListLeftAs x ys (list_of after) lent left
    left_as (passed p) after left e h = (refl, h)
    left_as (refused q i) after left e h = (ap list_of h.0 ∙ list_is ys e, h.1)

    pub list_ran : eqb (length ys) 4 ≡ true → (a : Result Ran Refusal) (after : Four Machine) (left : Four (List ℕ))
        → Answered (answer 4) a (four_in ys) after lent left → ListAnswered (answer (length ys)) a ys (list_of after) lent left
    list_ran e a after left h =
        let four : length ys ≡ 4 = eqb-true (length ys) 4 e in
        rw four (record { report = h.report; kept = left_as (answer 4) after left four h.kept })
