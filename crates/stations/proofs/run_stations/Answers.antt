-- `stations::run_stations` meets its contract: other than four states are refused; of four, `run_all` says what their machines are, and they are
-- stored back (`AnswerLaws.list_refused`, `list_ran`, `SafeLaws.list_safe`). Assumes nothing.
use Rattle.std.proofs.Common.{◌≡◌, refl, subst, List, [], ◌∷◌, length, get_or, arith}
use Rattle.std.proofs.Math.ListN.{set}
use borrow.Author.Tests.{eq-eqb, ne_eqb}
use Rattle.turns.specs.Stations.{four, running_stations}
use Rattle.rule.specs.Nodes.{form_by}
use Rattle.machine.specs.declared.Machine.{Machine}
use Rattle.stations.specs.Views.{given_of, states_of, four_in, Answered, ListAnswered}
use Rattle.stations.proofs.AnswerLaws.{list_of, list_refused, list_ran}
use Rattle.stations.proofs.SafeLaws.{list_safe}
use Rattle.stations.proofs.run_stations.Goals as goal

-- four states, stored one after another
stored : (ys : List Machine) (a b c d : Machine) → length ys ≡ 4 → list_of (four a b c d) ≡ set (set (set (set ys 0 a) 1 b) 2 c) 3 d
stored [] a b c d e = absurd (omega (arith, e))
stored (_ ∷ []) a b c d e = absurd (omega (arith, e))
stored (_ ∷ _ ∷ []) a b c d e = absurd (omega (arith, e))
stored (_ ∷ _ ∷ _ ∷ []) a b c d e = absurd (omega (arith, e))
stored (_ ∷ _ ∷ _ ∷ _ ∷ []) a b c d e = refl
stored (_ ∷ _ ∷ _ ∷ _ ∷ y ∷ ys) a b c d e = absurd (omega (arith, e))

-- four states, read one after another, whatever stands where there is none
read : (ys : List Machine) (d : Machine) → length ys ≡ 4 → four (get_or ys 0 d) (get_or ys 1 d) (get_or ys 2 d) (get_or ys 3 d) ≡ four_in ys
read [] d e = absurd (omega (arith, e))
read (_ ∷ []) d e = absurd (omega (arith, e))
read (_ ∷ _ ∷ []) d e = absurd (omega (arith, e))
read (_ ∷ _ ∷ _ ∷ []) d e = absurd (omega (arith, e))
read (_ ∷ _ ∷ _ ∷ _ ∷ []) d e = refl
read (_ ∷ _ ∷ _ ∷ _ ∷ y ∷ ys) d e = absurd (omega (arith, e))

pub returns-then-states-ne4-clause-answered : goal.returns-then-states-ne4-clause-answered
returns-then-states-ne4-clause-answered g c =
    list_refused (form_by g.W.Word.IS_WIDE) _ c.args.budget c.args.allowance _ c.args.states.now (ne_eqb _ 4 c.if-states-ne4.true) c.no_four.result c.no_four.ensures

pub returns-clause-safe : goal.returns-clause-safe
returns-clause-safe g c =
    let a = c.args in
    let xs = four a.station0 a.station1 a.station2 a.station3 in
    let lent = four a.history0.now a.history1.now a.history2.now a.history3.now in
    let s = given_of g.W.Word.numbers xs lent in
    let left = four c.run_all-ran.new.history0 c.run_all-ran.new.history1 c.run_all-ran.new.history2 c.run_all-ran.new.history3 in
    let r = c.run_all-ran.result in
    let ran = running_stations (form_by g.W.Word.IS_WIDE) (length a.states.now) s a.budget a.allowance in
    let four_ran = running_stations (form_by g.W.Word.IS_WIDE) 4 s a.budget a.allowance in
    let answered = list_ran (form_by g.W.Word.IS_WIDE) s a.budget a.allowance lent a.states.now (eq-eqb _ 4 c.if-states-ne4.false) r.answer (states_of r) left
    (subst (λ m. Answered four_ran r.answer m (states_of r) lent left) (read a.states.now _ c.if-states-ne4.false) c.run_all-ran.ensures) in
    list_safe (form_by g.W.Word.IS_WIDE) s lent a.budget a.allowance a.states.now _ left (length a.states.now) r.answer
    (subst (λ l. ListAnswered ran r.answer a.states.now l lent left) (stored a.states.now r.first r.second r.third r.fourth c.if-states-ne4.false) answered)
