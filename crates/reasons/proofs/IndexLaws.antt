-- Index after index: what the answers depend on.
--     Told, told_start, told_next      a loop over the indices
-- Assumes nothing.
use mathlib.Core.Path.{◌≡◌, refl, sym, ap, subst, ◌∙◌}
use mathlib.Core.Logic.{inl, inr}
use mathlib.Core.List.{List}
use Prim.Native.Nat.{ℕ, zero, suc, ◌+◌, ◌-◌, ◌*◌, ◌≤◌, ◌<◌}
use native.Mathlib.Omega.{arith}
use native.Mathlib.Numerals.{add-one}
use lib.ListN.{length, get_or, set, take, drop, replicate, length-set}
use lib.Seq.{get_or-set_same, get_or-set_other, drop-set-lt}
use Rattle.spec.specs.Logic.{State, Trace}
use Rattle.spec.specs.Questions.{passed}
use Rattle.spec.specs.Rule.{Table, last_node, next_of}
use Rattle.spec.specs.Judging.{state_count, states_of}
use Rattle.spec.proofs.BoolLaws.{le_or_lt}
use Rattle.spec.proofs.RuleLaws.{RuleOut, rule_out, length_table, past_in}
use Rattle.sets.specs.Sets.{set_of}
use Rattle.sets.proofs.SetLaws.{empty_is}
use Rattle.rule.specs.Nodes.{form_in, table_in}
use Rattle.intervals.specs.Limits.{check_limits}
use Rattle.intervals.specs.Reasons.{depends_on}
use Rattle.intervals.proofs.LimitsLaws.{Asked, asked_out}
use Rattle.limits.specs.Monitor.{NodeValues, Now, now_at, first_cans}
use Rattle.limits.proofs.MonitorLaws.{PriorsAt}
use Rattle.limits.proofs.AnswerLaws.{start_here, values_here, priors_here}
use Rattle.reasons.specs.Registers.{registers_at, sets_in}
use Rattle.reasons.proofs.RegisterLaws.{next_few, node_reason, EarlierAt, earlier_first, registers_here, earlier_next}

-- an array that was made of zeros
pub zeros : (n k : ℕ) → ◌≡◌ {A = ℕ} (get_or (replicate n 0) k 0) 0
zeros zero k = refl
zeros (suc n) zero = refl
zeros (suc n) (suc k) = zeros n k

module _ (rule lows highs : List ℕ) where
  abbrev t : Table
  t = table_in rule

  abbrev ls : Trace
  ls = states_of lows

  abbrev hs : Trace
  hs = states_of highs

  -- the sets of the first i indices stand in the output; p holds the priors after them, and `earlier` what these depend on
  pub record Told (before : List ℕ) (i : ℕ) (p : NodeValues) (earlier out : List ℕ) : Type 0 where
    pub inside : i ≤ state_count lows
    pub priors : PriorsAt t ls hs i p
    pub depend : EarlierAt t ls hs i (sets_in earlier)
    pub each : (j : ℕ) → j < i → sets_in out j ≡ depends_on form_in rule lows highs j
    pub rest : drop (state_count lows) out ≡ drop (state_count lows) before
    pub kept : length out ≡ length before

  module _ (before : List ℕ) (yes-all : check_limits form_in rule lows highs before ≡ passed tt) where
    asked : Asked form_in rule lows highs before
    asked = asked_out form_in rule lows highs before yes-all

    accepted : RuleOut form_in rule
    accepted = rule_out form_in rule asked.rule_yes

    pub told_start : (p : NodeValues) (es : List ℕ) → p ≡ first_cans t → ((k : ℕ) → get_or es k 0 ≡ 0) → Told before 0 p es before
    told_start p es e none = record {
      inside = omega arith;
      priors = subst (PriorsAt t ls hs 0) (sym e) (start_here rule lows highs before yes-all);
      depend = earlier_first t ls hs (sets_in es) (λ k. ap set_of (none k) ∙ empty_is);
      each = λ j h. absurd (omega arith);
      rest = refl;
      kept = refl;
    }

    module _ (i : ℕ) (h : i < state_count lows) (p : NodeValues) (es out : List ℕ) (w : Told before i p es out) where
      pub in_output_lem : i < length out
      in_output_lem = let e = w.kept in let r = asked.room in omega arith

      module _ (low high : State) (el : low ≡ take 16 (drop (16 * i) lows)) (eh : high ≡ take 16 (drop (16 * i) highs)) (m : Now) (d : m ≡ now_at t low high p)
          (ws : List ℕ) (filled : (k : ℕ) → k < length rule → sets_in ws k ≡ registers_at t m.values p (sets_in es) k) where
        -- what every node depends on here
        node_at_here : (k : ℕ) → k < length rule → sets_in ws k ≡ (node_reason t ls hs k i).registers
        node_at_here k l =
            filled k l
            ∙ registers_here t ls hs accepted.ordered i m.values p (sets_in es)
            (λ j g. ap (λ n. n.values j) d ∙ values_here rule lows highs before yes-all i h p w.priors low high el eh j (omega (arith, length_table form_in rule)))
            w.priors w.depend k (omega (arith, length_table form_in rule))

        last_here : sets_in ws (length rule - 1) ≡ depends_on form_in rule lows highs i
        unfolding depends_on
        last_here =
            let last : length rule - 1 ≡ last_node t = ap (λ n. n - 1) (sym (length_table form_in rule)) in
            node_at_here (length rule - 1) (let n = accepted.some_node in omega arith) ∙ ap (λ k. (node_reason t ls hs k i).registers) last

        pub told_next : (es' : List ℕ) → ((k : ℕ) → k < length rule → sets_in es' k ≡ sets_in ws (next_of t k))
            → Told before (i + 1) m.priors es' (set out i (get_or ws (length rule - 1) 0))
        told_next es' moved =
            let v = get_or ws (length rule - 1) 0 in
            rw add-one (record {
              inside = omega arith;
              priors = subst (λ (n : Now). PriorsAt t ls hs (suc i) n.priors) (sym d) (priors_here rule lows highs before yes-all i h p w.priors low high el eh);
              depend = earlier_next t ls hs i (sets_in es') (λ k past.
                  let inside = past_in t k past in
                  let few = next_few t accepted.ordered k in
                  moved k (omega (arith, length_table form_in rule)) ∙ node_at_here (next_of t k) (omega (arith, length_table form_in rule)));
              each = λ j l. elim (le_or_lt i j) [
                | inl a ↦
                    let z : j ≡ i = omega arith in
                    ap (sets_in (set out i v)) z ∙ ap set_of (get_or-set_same out i v 0 in_output_lem) ∙ last_here ∙ ap (depends_on form_in rule lows highs) (sym z)
                | inr a ↦ ap set_of (get_or-set_other out i j v 0 (λ z. omega arith)) ∙ w.each j a
              ];
              rest = drop-set-lt (state_count lows) out i v h ∙ w.rest;
              kept = length-set out i v ∙ w.kept;
            })
