-- A monitor over states (`specs/Monitor.antt`).
--     watch_on, watch_stop, watch_end     the loop over the states
--     watch_false                         of an accepted rule, from the first priors on: the first state at which it is false
--     watch_one                           one state
-- Assumes nothing.
use mathlib.Core.Path.{◌≡◌, refl, sym, ap, subst, ◌∙◌}
use mathlib.Core.Bool.{Bool, true, false, cond}
use mathlib.Core.Option.{none, some}
use mathlib.Core.List.{List, [], ◌∷◌}
use Prim.Native.Nat.{ℕ, zero, suc, ◌+◌, ◌*◌, ◌/◌, ◌≤◌, ◌<◌}
use native.Mathlib.Omega.{arith}
use native.Mathlib.Numerals.{add-one}
use lib.ListN.{length, get_or, take, drop, length-drop}
use lib.Seq.{drop-cons, take_all}
use Rattle.spec.specs.Logic.{State, Trace, state_at}
use Rattle.spec.specs.Questions.{passed}
use Rattle.spec.specs.Rule.{Table, check_rule}
use Rattle.spec.specs.Monitor.{moment_of, last_true}
use Rattle.spec.specs.Judging.{states, state_count, states_of, first_false}
use Rattle.spec.proofs.JudgingLaws.{length_states, state_at_lem}
use Rattle.sets.specs.Sets.{Nodes}
use Rattle.rule.specs.Nodes.{form_in, table_in}
use Rattle.rule.specs.Monitor.{Watch, watching, first_priors}
use Rattle.rule.proofs.JudgeLaws.{Judged, judged_start, judged_next, judged_stop, judged_end}

drop_past : (σ : Trace) (i : ℕ) → length σ ≤ i → drop i σ ≡ []
drop_past [] zero h = refl
drop_past [] (suc i) h = refl
drop_past (s ∷ σ) zero h = absurd (omega arith)
drop_past (s ∷ σ) (suc i) h = drop_past σ i (omega arith)

-- ---- one state after another

module _ (t : Table) (i : ℕ) (s : State) (σ : Trace) (p : Nodes) where
  true_on : last_true t (moment_of t s p) ≡ true → watching t i (s ∷ σ) p ≡ watching t (suc i) σ (moment_of t s p).priors
  unfolding watching
  true_on e = rw e

  false_stop : last_true t (moment_of t s p) ≡ false → watching t i (s ∷ σ) p ≡ record { found = some i; priors = (moment_of t s p).priors }
  unfolding watching
  false_stop e = rw e

module _ (t : Table) (ws : List ℕ) (p₀ : Nodes) where
  abbrev σ : Trace
  σ = states_of ws

  -- what is left of the states, from index i on, tells what all of them do
  abbrev pub Left : ℕ → Nodes → Type 0
  Left i p = watching t i (drop i σ) p ≡ watching t 0 σ p₀

  here : (i : ℕ) → i < state_count ws → (s : State) → s ≡ take 16 (drop (16 * i) ws) → drop i σ ≡ s ∷ drop (suc i) σ
  here i h s e =
      drop-cons σ i [] (omega (arith, length_states (state_count ws) ws))
      ∙ ap (λ x. x ∷ drop (suc i) σ) (state_at_lem (state_count ws) ws i h ∙ sym e)

  module _ (i : ℕ) (h : i < state_count ws) (p : Nodes) (left : Left i p) (s : State) (e : s ≡ take 16 (drop (16 * i) ws)) where
    pub watch_on : last_true t (moment_of t s p) ≡ true → (p' : Nodes) → p' ≡ (moment_of t s p).priors → Left (i + 1) p'
    watch_on v p' d =
        rw (add-one i) (ap (watching t (suc i) (drop (suc i) σ)) d ∙ sym (true_on t i s (drop (suc i) σ) p v) ∙ ap (λ τ. watching t i τ p) (sym (here i h s e)) ∙ left)

    pub watch_stop : last_true t (moment_of t s p) ≡ false → (p' : Nodes) → p' ≡ (moment_of t s p).priors
        → record { found = some i; priors = p' } ≡ watching t 0 σ p₀
    watch_stop v p' d =
        ap (λ (q : Nodes). record { found = some i; priors = q }) d ∙ sym (false_stop t i s (drop (suc i) σ) p v)
        ∙ ap (λ τ. watching t i τ p) (sym (here i h s e)) ∙ left

  pub watch_end : (i : ℕ) (p : Nodes) → state_count ws ≤ i → Left i p → record { found = none; priors = p } ≡ watching t 0 σ p₀
  unfolding watching
  watch_end i p h left =
      ap (λ τ. watching t i τ p) (sym (drop_past σ i (omega (arith, length_states (state_count ws) ws)))) ∙ left

-- ---- of an accepted rule

module _ (rule ws : List ℕ) (accepted : check_rule form_in rule ≡ passed tt) where
  abbrev held : Table
  held = table_in rule

  abbrev all : Trace
  all = states_of ws

  judged : (τ : Trace) (i : ℕ) (p : Nodes) → τ ≡ drop i all → Judged rule ws i p → (watching held i τ p).found ≡ first_false held all
  unfolding watching
  judged [] i p e j =
      judged_end rule ws accepted i p (omega (arith, ap length e, length-drop i all, length_states (state_count ws) ws)) j
  judged (s ∷ τ) i p e j = go (last_true held (moment_of held s p)) refl (judged τ (suc i) (moment_of held s p).priors)
    where
      inside : i < state_count ws
      inside = omega (arith, ap length e, length-drop i all, length_states (state_count ws) ws)

      split : s ∷ τ ≡ state_at all i ∷ drop (suc i) all
      split = e ∙ drop-cons all i [] (omega (arith, inside, length_states (state_count ws) ws))

      state : s ≡ take 16 (drop (16 * i) ws)
      state = ap (λ (l : Trace). get_or l 0 []) split ∙ state_at_lem (state_count ws) ws i inside

      go : (b : Bool) → last_true held (moment_of held s p) ≡ b
          → (τ ≡ drop (suc i) all → Judged rule ws (suc i) (moment_of held s p).priors → (watching held (suc i) τ (moment_of held s p).priors).found ≡ first_false held all)
          → (cond b (watching held (suc i) τ (moment_of held s p).priors) (record { found = some i; priors = (moment_of held s p).priors })).found ≡ first_false held all
      go true v rest = rest (ap (drop 1) split)
          (subst (λ n. Judged rule ws n (moment_of held s p).priors) (add-one i) (judged_next rule ws accepted i inside p j s state v _ refl))
      go false v rest = judged_stop rule ws accepted i inside p j s state v

  pub watch_false : (watching held 0 all (first_priors held)).found ≡ first_false held all
  watch_false = judged all 0 (first_priors held) refl (judged_start rule ws accepted (first_priors held) refl)

-- ---- one state

pub watch_one : (t : Table) (s : State) (p : Nodes) → length s ≡ 16
    → watching t 0 (states_of s) p ≡ record { found = cond (last_true t (moment_of t s p)) none (some 0); priors = (moment_of t s p).priors }
unfolding watching states
watch_one t s p n =
    let one : length s / 16 ≡ 1 = omega arith in
    ap (λ k. watching t 0 (states k s) p) one ∙ ap (λ x. watching t 0 (x ∷ []) p) (take_all 16 s (omega arith)) ∙ go (last_true t (moment_of t s p))
  where
    go : (b : Bool) → ◌≡◌ {A = Watch} (cond b (record { found = none; priors = (moment_of t s p).priors }) (record { found = some 0; priors = (moment_of t s p).priors }))
        (record { found = cond b none (some 0); priors = (moment_of t s p).priors })
    go true = refl
    go false = refl
