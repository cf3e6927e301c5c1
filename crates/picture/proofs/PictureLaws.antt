-- The laws of `specs/Picture.antt`.
--     limits_no, limits_yes                   the text of a judging, refused and not
--     sets_asked, count_is                    what the registers are asked by, and that the lines have space
--     text_widen                              a rule in its table of the second form
--     loaded_text                             the lows and the highs as they were loaded
--     file_no, file_few, file_judged          the text of a file
--     picture_is                              and of the rule as it was loaded
-- Assumes nothing.
use mathlib.Core.Path.{◌≡◌, refl, sym, ap, ap₂, ◌∙◌}
use mathlib.Core.Bool.{true, false}
use mathlib.Core.List.{List, ◌++◌}
use Prim.Native.Nat.{ℕ, ◌+◌, ◌*◌, ◌≤◌, ◌<◌}
use native.Mathlib.Omega.{arith}
use lib.ListN.{length, get_or, take, drop, replicate, get_or-append, length-replicate}
use lib.Seq.{length-take-le, get_or-take}
use borrow.Author.Tests.{le-leb}
use Rattle.spec.specs.Ascii.{ascii}
use Rattle.spec.specs.Questions.{Answer, passed, refused, Checked, ◌then◌}
use Rattle.spec.specs.Rule.{Form, form32, form64, Table, table_of, rule_of, check_rule}
use Rattle.spec.specs.Judging.{state_count, states_of, question14, question15}
use Rattle.spec.proofs.QuestionLaws.{both_passed, once_in}
use Rattle.sets.specs.Sets.{set_of}
use Rattle.moves.specs.Moves.{widen_rule}
use Rattle.moves.proofs.NodeMoveLaws.{table_widen, check_widen}
use Rattle.print.specs.Decimal.{newline, number, refused_text}
use Rattle.print.specs.Written.{Added}
use Rattle.print.proofs.AddedLaws.{each_same, loaded, front_is}
use Rattle.intervals.specs.Limits.{Truth₃, truth_at, rule_truth, question22, question13, question23, check_limits, limiting, byte_of, bytes_for, answers_for, limits_output}
use Rattle.intervals.specs.Reasons.{reason_at, depends_on}
use Rattle.intervals.proofs.LimitsLaws.{length_bytes, byte_at}
use Rattle.reasons.specs.Written.{RegistersPut}
use Rattle.words.specs.Words.{word_at}
use Rattle.words.specs.Counted.{counted}
use Rattle.picture.specs.File.{is_whole, limits_from, lows_in, highs_in}
use Rattle.picture.specs.Lines.{index_text, lines_text}
use Rattle.picture.specs.Picture.{answer_text, limits_text, too_few, file_text, picture_of}

-- ---- an output with space for every index changes no answer

room_yes : (lows out : List ℕ) → state_count lows ≤ length out → question13 lows out ≡ passed tt
unfolding question13
room_yes lows out h = once_in 13 _ (le-leb (state_count lows) (length out) h)

module _ (form : Form) (rule lows highs : List ℕ) where
  -- two such outputs
  same_check : (out out' : List ℕ) → state_count lows ≤ length out → state_count lows ≤ length out' → check_limits form rule lows highs out ≡ check_limits form rule lows highs out'
  unfolding check_limits
  same_check out out' h g = rw (room_yes lows out h, room_yes lows out' g)

  module _ (out : List ℕ) (room : state_count lows ≤ length out) where
    just_room : state_count lows ≤ length (replicate {A = ℕ} (state_count lows) 0)
    just_room = let e = length-replicate {A = ℕ} (state_count lows) 0 in omega arith

    text_by_lem : (a : Answer ℕ) → a ≡ limiting form rule lows highs out → answer_text form rule lows highs a ≡ limits_text form rule lows highs
    unfolding limits_text limiting
    text_by_lem a e = ap (answer_text form rule lows highs) (e ∙ ap (λ q. q then passed (state_count lows)) (same_check out (replicate (state_count lows) 0) room just_room))

    pub limits_no : (q i : ℕ) → refused q i ≡ limiting form rule lows highs out → refused_text q i ≡ limits_text form rule lows highs
    limits_no q i e = text_by_lem (refused q i) e

    module _ (n : ℕ) (e : passed n ≡ limiting form rule lows highs out) where
      asked : (check_limits form rule lows highs out ≡ passed tt) × (passed (state_count lows) ≡ passed n)
      unfolding limiting
      asked = both_passed (check_limits form rule lows highs out) (passed (state_count lows)) n (sym e)

      pub sets_asked : (sets : List ℕ) → state_count lows ≤ length sets → check_limits form rule lows highs sets ≡ passed tt
      sets_asked sets h = same_check sets out h room ∙ asked.0

      pub count_is : n ≡ state_count lows
      count_is = let d = asked.1 in cc

      answer_at : (after : List ℕ) → after ≡ limits_output form rule lows highs out → (i : ℕ) → i < n → get_or after i 0 ≡ byte_of (rule_truth form rule lows highs i)
      unfolding limits_output
      answer_at after d i h =
          let f : ℕ → Truth₃ = rule_truth form rule lows highs in
          ap (λ l. get_or l i 0) (d ∙ ap (λ a. answers_for f a out) (sym e))
          ∙ get_or-append (bytes_for f n) (drop n out) 0 i (let l = length_bytes f n in omega arith) ∙ byte_at f n i h 0

      pub limits_yes : (after : List ℕ) → after ≡ limits_output form rule lows highs out → n ≤ length after → (before sets : List ℕ)
          → RegistersPut form rule lows highs before sets
          → lines_text (length (take n after)) (λ i. get_or (take n after) i 0) (λ i. set_of (get_or sets i 0)) ≡ limits_text form rule lows highs
      unfolding lines_text
      limits_yes after d long before sets r =
          ap (λ m. lines_text m (λ i. get_or (take n after) i 0) (λ i. set_of (get_or sets i 0))) (length-take-le n after long)
          ∙ ap (λ l. ascii "indices " ++ number n newline ++ l)
          (each_same _ _ n (λ i h. ap₂ (index_text i) (get_or-take n after i 0 h ∙ answer_at after d i h) (r.each i (let c = count_is in omega arith))))
          ∙ text_by_lem (passed n) e

-- ---- a rule in its table of the second form

module _ (lows highs : List ℕ) where
  -- the text by the table
  text_by : Table → Answer ℕ → List ℕ
  text_by t (passed n) = lines_text n (λ i. byte_of (truth_at (states_of lows) (states_of highs) (rule_of t) i)) (λ i. (reason_at (states_of lows) (states_of highs) (rule_of t) i).registers)
  text_by t (refused q i) = refused_text q i

  by_table : (form : Form) (rule : List ℕ) (a : Answer ℕ) → answer_text form rule lows highs a ≡ text_by (table_of form rule) a
  unfolding text_by rule_truth depends_on
  by_table form rule (passed n) = refl
  by_table form rule (refused q i) = refl

  pub text_widen : (rule : List ℕ) → length rule ≤ 32 → limits_text form64 (widen_rule rule) lows highs ≡ limits_text form32 rule lows highs
  unfolding limits_text limiting check_limits
  text_widen rule few =
      let c = check_widen rule few in
      let t = table_widen rule in
      by_table form64 (widen_rule rule) _
      ∙ ap₂ (λ (u : Table) (q : Checked). text_by u ((q then question14 lows then question14 highs then question22 lows highs
      then question13 lows (replicate (state_count lows) 0) then question15 lows then question15 highs then question23 lows highs) then passed (state_count lows))) t c
      ∙ sym (by_table form32 rule _)

-- ---- the lows and the highs as they were loaded

pub loaded_text : (rule bytes lows highs l₀ h₀ : List ℕ) (at n : ℕ) → n ≡ word_at bytes at
    → Added (limits_from bytes (4 * at + 4) 0 (16 * n)) 0 (16 * n) l₀ lows → Added (limits_from bytes (4 * at + 4) 16 (16 * n)) 0 (16 * n) h₀ highs
    → limits_text form32 rule (take (16 * n) lows) (take (16 * n) highs) ≡ limits_text form32 rule (lows_in bytes at) (highs_in bytes at)
unfolding lows_in highs_in
loaded_text rule bytes lows highs l₀ h₀ at n e l h =
    let a = front_is _ (16 * n) l₀ lows l ∙ ap (λ m. limits_from bytes (4 * at + 4) 0 (16 * m)) e in
    let b = front_is _ (16 * n) h₀ highs h ∙ ap (λ m. limits_from bytes (4 * at + 4) 16 (16 * m)) e in
    λ i. limits_text form32 rule (a i) (b i)

-- ---- the text of a file

module _ (rule bytes : List ℕ) (at : ℕ) where
  pub file_no : (q i : ℕ) → check_rule form32 rule ≡ refused q i → refused_text q i ≡ file_text rule bytes at
  unfolding file_text
  file_no q i e = rw e

  module _ (accepted : check_rule form32 rule ≡ passed tt) where
    pub file_few : is_whole bytes at ≡ false → too_few ≡ file_text rule bytes at
    unfolding file_text
    file_few e = rw (accepted, e)

    pub file_judged : is_whole bytes at ≡ true → limits_text form32 rule (lows_in bytes at) (highs_in bytes at) ≡ file_text rule bytes at
    unfolding file_text
    file_judged e = rw (accepted, e)

-- ---- the rule as it was loaded

module _ (bytes : List ℕ) (n : ℕ) (before rule : List ℕ) (loaded-rule : Added (counted 32 bytes 0) 0 n before rule) where
  pub picture_is : file_text (take n rule) bytes (n + 1) ≡ picture_of bytes
  unfolding picture_of form32
  picture_is =
      let e = loaded _ n before rule loaded-rule in
      ap₂ (λ r k. file_text r bytes (k + 1)) (front_is _ n before rule loaded-rule) e
