-- The answers index by index.
--     in_limits, values_here, priors_here       what the monitor works out at index i of limits that pass the questions
--     Worked, worked_start, worked_next, worked_end, in_output_lem, keeps_length      a loop over the indices
--     Judged, judged, judged_no, judged_yes     the answer, the output and the promise
-- Assumes nothing.
use mathlib.Core.Path.{◌≡◌, refl, sym, ap, ap₂, subst, ◌∙◌}
use mathlib.Core.Logic.{inl, inr}
use mathlib.Core.Bool.{true, false}
use mathlib.Core.List.{List, ◌++◌}
use Prim.Native.Nat.{ℕ, suc, ◌+◌, ◌-◌, ◌*◌, ◌≤◌, ◌<◌}
use native.Mathlib.Omega.{arith}
use native.Mathlib.Numerals.{add-one}
use lib.ListN.{length, get_or, set, take, drop, length-append, length-drop, get_or-eq_default}
use lib.Seq.{drop-cons, set_at, append_snoc}
use borrow.Author.Tests.{leb-true}
use Rattle.spec.specs.Logic.{State, Trace, state_at}
use Rattle.spec.specs.Questions.{Answer, passed, refused}
use Rattle.spec.specs.Rule.{Form, Table, last_node}
use Rattle.spec.specs.Judging.{state_count, states_of}
use Rattle.spec.proofs.BoolLaws.{le_or_lt}
use Rattle.spec.proofs.JudgingLaws.{state_at_lem}
use Rattle.spec.proofs.QuestionLaws.{then_passed, then_refused, ask_out}
use Rattle.spec.proofs.RuleLaws.{RuleOut, rule_out, length_table}
use Rattle.rule.specs.Nodes.{form_in, table_in}
use Rattle.intervals.specs.Limits.{Truth₃, can, open_if, rule_truth, question23, check_limits, limiting, byte_of, bytes_for, answers_for, limits_output}
use Rattle.intervals.specs.LimitsPromise.{LimitsRight, register_at}
use Rattle.intervals.proofs.TruthLaws.{open_can}
use Rattle.intervals.proofs.LimitsLaws.{in_order, length_bytes, Asked, asked_out, limits_kept}
use Rattle.limits.specs.Monitor.{Values, NodeValues, Now, now_at, first_cans}
use Rattle.limits.proofs.MonitorLaws.{few_held, node_truth, PriorsAt, values_at, priors_next, priors_first}

module _ (rule lows highs : List ℕ) where
  abbrev t : Table
  t = table_in rule

  abbrev ls : Trace
  ls = states_of lows

  abbrev hs : Trace
  hs = states_of highs

  abbrev f : ℕ → Truth₃
  f = rule_truth form_in rule lows highs

  -- the bytes of the first i indices stand in the output, and p holds the priors after them
  pub record Worked (before : List ℕ) (i : ℕ) (p : NodeValues) (out : List ℕ) : Type 0 where
    pub inside : i ≤ state_count lows
    pub priors : PriorsAt t ls hs i p
    pub bytes : out ≡ bytes_for f i ++ drop i before

  module _ (before : List ℕ) (yes-all : check_limits form_in rule lows highs before ≡ passed tt) where
    asked : Asked form_in rule lows highs before
    asked = asked_out form_in rule lows highs before yes-all

    abbrev accepted : RuleOut form_in rule
    accepted = rule_out form_in rule asked.rule_yes

    few : length t ≤ 64
    few = let h = few_held rule asked.rule_yes in omega (arith, length_table form_in rule)

    numbers_order : (i : ℕ) → get_or lows i 0 ≤ get_or highs i 0
    unfolding question23
    numbers_order i =
        elim (le_or_lt (length lows) i) [
          | inl h ↦ let a = get_or-eq_default lows 0 h in omega arith
          | inr h ↦ leb-true (get_or lows i 0) (get_or highs i 0) (ask_out 23 (length lows) _ asked.ordered i h)
        ]

    pub in_limits : (i r : ℕ) → register_at lows i r ≤ register_at highs i r
    in_limits i r = in_order lows highs asked.same_length numbers_order i r

    pub start_here : PriorsAt t ls hs 0 (first_cans t)
    start_here = priors_first t ls hs few

    module _ (i : ℕ) (h : i < state_count lows) (p : NodeValues) (priors : PriorsAt t ls hs i p) (low high : State)
        (el : low ≡ take 16 (drop (16 * i) lows)) (eh : high ≡ take 16 (drop (16 * i) highs)) where
      low_is : low ≡ state_at ls i
      low_is = el ∙ sym (state_at_lem (state_count lows) lows i h)

      high_is : high ≡ state_at hs i
      high_is = eh ∙ sym (state_at_lem (state_count highs) highs i (let e = asked.same_length in omega arith))

      pub values_here : (k : ℕ) → k < length rule → (now_at t low high p).values k ≡ can (node_truth t ls hs k i)
      values_here k l =
          ap₂ (λ x y. (now_at t x y p).values k) low_is high_is
          ∙ values_at t ls hs accepted.ordered in_limits i p priors k (omega (arith, length_table form_in rule))

      pub priors_here : PriorsAt t ls hs (suc i) (now_at t low high p).priors
      priors_here =
          subst (PriorsAt t ls hs (suc i)) (ap₂ (λ x y. (now_at t x y p).priors) (sym low_is) (sym high_is))
          (priors_next t ls hs accepted.ordered in_limits i p priors)

    pub worked_start : (p : NodeValues) → p ≡ first_cans t → Worked before 0 p before
    unfolding bytes_for
    worked_start p e = record { inside = omega arith; priors = subst (PriorsAt t ls hs 0) (sym e) start_here; bytes = refl }

    pub keeps_length : (i : ℕ) (p : NodeValues) (out : List ℕ) → Worked before i p out → length out ≡ length before
    keeps_length i p out w =
        let l = length_bytes f i in
        let j = w.inside in
        let r = asked.room in
        omega (arith, ap length w.bytes, length-append (bytes_for f i) (drop i before), length-drop i before)

    module _ (i : ℕ) (h : i < state_count lows) (p : NodeValues) (out : List ℕ) (w : Worked before i p out) where
      pub in_output_lem : i < length out
      in_output_lem = let e = keeps_length i p out w in let r = asked.room in omega arith

      module _ (low high : State) (el : low ≡ take 16 (drop (16 * i) lows)) (eh : high ≡ take 16 (drop (16 * i) highs)) where
        -- what the last node can be is the answer here
        last_here : (x : Values) → x ≡ (now_at t low high p).values (last_node t) → byte_of (open_if (x true) (x false)) ≡ byte_of (f i)
        unfolding rule_truth
        last_here x e =
            let v = e ∙ values_here i h p w.priors low high el eh (last_node t) (let n = accepted.some_node in omega (arith, length_table form_in rule)) in
            ap byte_of (ap₂ open_if (ap (λ c. c true) v) (ap (λ c. c false) v) ∙ open_can (f i))

        pub worked_next : (m : Now) → m ≡ now_at t low high p → (x : Values) → x ≡ m.values (length rule - 1) → (b : ℕ) → b ≡ byte_of (open_if (x true) (x false))
            → Worked before (i + 1) m.priors (set out i b)
        unfolding bytes_for
        worked_next m d x e b c =
            let last : length rule - 1 ≡ last_node t = ap (λ n. n - 1) (sym (length_table form_in rule)) in
            let byte : b ≡ byte_of (f i) = c ∙ last_here x (e ∙ ap₂ (λ n k. n.values k) d last) in
            rw add-one (record {
              inside = omega arith;
              priors = subst (λ (n : Now). PriorsAt t ls hs (suc i) n.priors) (sym d) (priors_here i h p w.priors low high el eh);
              bytes =
                  ap₂ (λ l y. set l i y) (w.bytes ∙ ap (λ l. bytes_for f i ++ l) (drop-cons before i 0 (let r = asked.room in omega arith))) byte
                  ∙ set_at (bytes_for f i) (get_or before i 0) (drop (suc i) before) (byte_of (f i)) i (length_bytes f i)
                  ∙ sym (append_snoc (bytes_for f i) (byte_of (f i)) (drop (suc i) before));
            })

    pub worked_end : (i : ℕ) (p : NodeValues) (out : List ℕ) → state_count lows ≤ i → Worked before i p out → out ≡ bytes_for f (state_count lows) ++ drop (state_count lows) before
    worked_end i p out h w =
        let z : i ≡ state_count lows = let l = w.inside in omega arith in
        w.bytes ∙ ap (λ n. bytes_for f n ++ drop n before) z

-- ---- the answer, the output and the promise, for any stored form

module _ (form : Form) (rule lows highs out : List ℕ) where
  -- an answer and an output that are those of the definition
  abbrev pub Judged : (answer : Answer ℕ) (after : List ℕ) → Type 0
  Judged a after =
      (a ≡ limiting form rule lows highs out) × ((after ≡ limits_output form rule lows highs out) × ((n : ℕ) → a ≡ passed n → LimitsRight form rule lows highs after))

  pub judged : (a : Answer ℕ) (after : List ℕ) → a ≡ limiting form rule lows highs out → after ≡ limits_output form rule lows highs out → Judged a after
  judged a after e d = (e, (d, λ n g. subst (LimitsRight form rule lows highs) (sym d) (limits_kept form rule lows highs out n (sym e ∙ g))))

  pub judged_no : (a : Answer ℕ) (q i : ℕ) → a ≡ refused q i → check_limits form rule lows highs out ≡ refused q i → Judged a out
  unfolding limiting limits_output
  judged_no a q i said e =
      let no_answer = then_refused (check_limits form rule lows highs out) (passed (state_count lows)) q i e in
      judged a out (said ∙ sym no_answer) (sym (ap (λ x. answers_for (rule_truth form rule lows highs) x out) no_answer))

  pub judged_yes : check_limits form rule lows highs out ≡ passed tt → (after : List ℕ)
      → after ≡ bytes_for (rule_truth form rule lows highs) (state_count lows) ++ drop (state_count lows) out → Judged (passed (state_count lows)) after
  unfolding limiting limits_output
  judged_yes e after d =
      let answer = then_passed (check_limits form rule lows highs out) (passed (state_count lows)) e in
      judged (passed (state_count lows)) after (sym answer) (d ∙ sym (ap (λ a. answers_for (rule_truth form rule lows highs) a out) answer))
