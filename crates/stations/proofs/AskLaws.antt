-- A question put to the four stations in turn (`ask_stations`, `specs/Stations.antt` of crate turns).
--     moved                         a no of station k has the station as its place
--     no_0, no_1, no_2, last_3      it stops at the lowest that has a no; the last answer is that of station 3
-- Assumes nothing.
use mathlib.Core.Path.{◌≡◌, refl, sym, ap, ◌∙◌}
use Prim.Native.Nat.{ℕ}
use Rattle.spec.specs.Questions.{passed, refused, Checked}
use Rattle.std.specs.Prelude.{Result, Ok, Err, MatchResult, IsErrAnd}
use Rattle.rule.specs.declared.answer.Refusal.{Refusal}
use Rattle.rule.specs.Answers.{answer_of}
use Rattle.std.proofs.lemmas.Result.{err_from_is_err_and}
use Rattle.turns.specs.Stations.{Four, Station, at_station, ask_stations}
use Rattle.spec.proofs.QuestionLaws.{first_no, go_on}

pub moved : (k : ℕ) (a r : Result (Unit {0}) Refusal) (Given : Refusal → Refusal → Type 0)
    → ((e d : Refusal) → Given e d → d ≡ record { question = e.question; place = k })
    → MatchResult a (λ u. r ≡ Ok u) (λ e. IsErrAnd r (Given e)) → answer_of r ≡ at_station k (answer_of a)
unfolding at_station
moved k (Ok u) r Given gives h = ap answer_of h
moved k (Err e) r Given gives h = let (d, is, given) = err_from_is_err_and r h in ap answer_of (is ∙ ap Err (gives e d given))

module _ (q : Station → Checked) (s : Four Station) where
  abbrev a₀ : Checked
  a₀ = at_station 0 (q s.first)

  abbrev a₁ : Checked
  a₁ = at_station 1 (q s.second)

  abbrev a₂ : Checked
  a₂ = at_station 2 (q s.third)

  abbrev a₃ : Checked
  a₃ = at_station 3 (q s.fourth)

  pub no_0 : (n i : ℕ) → refused n i ≡ a₀ → refused n i ≡ ask_stations q s
  unfolding ask_stations
  no_0 n i is = first_no _ a₀ _ n i refl is

  module _ (yes₀ : passed tt ≡ a₀) where
    pub no_1 : (n i : ℕ) → refused n i ≡ a₁ → refused n i ≡ ask_stations q s
    unfolding ask_stations
    no_1 n i is = go_on _ a₀ _ (sym yes₀) (first_no _ a₁ _ n i refl is)

    module _ (yes₁ : passed tt ≡ a₁) where
      pub no_2 : (n i : ℕ) → refused n i ≡ a₂ → refused n i ≡ ask_stations q s
      unfolding ask_stations
      no_2 n i is = go_on _ a₀ _ (sym yes₀) (go_on _ a₁ _ (sym yes₁) (first_no _ a₂ _ n i refl is))

      pub last_3 : passed tt ≡ a₂ → (x : Checked) → x ≡ a₃ → x ≡ ask_stations q s
      unfolding ask_stations
      last_3 yes₂ x is = go_on x a₀ _ (sym yes₀) (go_on x a₁ _ (sym yes₁) (go_on x a₂ _ (sym yes₂) is))
