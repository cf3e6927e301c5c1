-- A rule moved between the stored forms (`specs/Moves.antt`) is the same rule.
--     fields_widen, table_widen, check_widen     a node's fields, the table, the answer to questions 1 to 4
--     check_many                   a rule of the old form that is too long to move
--     narrowable                   a rule that passes and has at most 32 nodes has fields that the old form has space for
--     widen_narrow, narrow_widen   there and back, word by word
--     rule_there_lem, rule_again_lem       and for rules
--     widen_bits, narrow_bits      moved words are words of the form moved to
-- Assumes nothing.
use mathlib.Core.Path.{◌≡◌, refl, sym, subst, ap, ap₂, ◌∙◌}
use mathlib.Core.Logic.{inl, inr}
use mathlib.Core.Bool.{Bool, true, ◌&&◌, ◌||◌}
use mathlib.Core.List.{List, [], ◌∷◌}
use Prim.Native.Nat.{ℕ, suc, ◌^◌, ◌≤◌, ◌<◌}
use native.Mathlib.Omega.{arith}
use lib.ListN.{length, get_or, length-map, get_or-map}
use lib.Dec.{eqb, leb, ltb}
use borrow.Author.Tests.{le-leb, lt-leb, lt-ltb, eqb-true}
use Rattle.spec.specs.Questions.{all, passed, refused, ◌then◌, ask}
use Rattle.spec.specs.Rule.{NodeFields, node_fields, node_word, node_fields64, node_word64, form32, form64, false_node, by_kind, node_of, table_of, operands, unused_zero, node_allowed, fields_fit, question1, question2, question3, question4, check_rule}
use Rattle.moves.specs.Moves.{Narrow, widen_node, narrow_node, widen_rule, narrow_rule}
use Rattle.moves.specs.Moved.{Bits}
use Rattle.spec.proofs.BoolLaws.{and_both, or_either}
use Rattle.spec.proofs.QuestionLaws.{then_refused, once_no}
use Rattle.spec.proofs.NodeWordLaws.{FieldsWithin, fields_within, word_over_lt, fields_over_lem, word_over_lem}
use Rattle.spec.proofs.RuleLaws.{both_lower, one_lower, node_read_lem, rule_out}
use Rattle.spec.proofs.StoredLaws.{good64}

-- ---- to the second form

-- a node of the old form has space in the second, its unused field too
wider : (w : ℕ) → FieldsWithin 6 31 (node_fields w)
wider w =
    let s = fields_within 5 1 w in
    record {
      kind_within = s.kind_within;
      register_within = s.register_within;
      constant_within = s.constant_within;
      left_within = omega (arith, s.left_within);
      right_within = omega (arith, s.right_within);
      spare_within = omega (arith, s.spare_within);
    }

pub fields_widen : (w : ℕ) → form64.read_node (widen_node w) ≡ form32.read_node w
unfolding widen_node form32 form64
fields_widen w = fields_over_lem 6 31 (node_fields w) (wider w)

pub table_widen : (rule : List ℕ) → table_of form64 (widen_rule rule) ≡ table_of form32 rule
unfolding table_of
table_widen [] = refl
table_widen (w ∷ ws) = ap₂ ◌∷◌ (ap node_of (fields_widen w)) (table_widen ws)

widen_at : (rule : List ℕ) (k : ℕ) → get_or (widen_rule rule) k 0 ≡ widen_node (get_or rule k 0)
unfolding widen_node form32 form64
widen_at rule k = get_or-map widen_node rule k 0

ask_one : (rule : List ℕ) → length rule ≤ 32 → question1 form64 (widen_rule rule) ≡ question1 form32 rule
unfolding question1 form32 form64
ask_one rule few = rw (length-map rule widen_node, le-leb (length rule) 64 (omega arith), le-leb (length rule) 32 few) refl

ask_two : (rule : List ℕ) → question2 form64 (widen_rule rule) ≡ question2 form32 rule
unfolding question2
ask_two rule i =
    ask 2 (length-map rule widen_node i) (λ k. fields_fit ((ap form64.read_node (widen_at rule k) ∙ fields_widen (get_or rule k 0)) i))

-- the same answer to questions 1 to 4, question 2 at the same node
pub check_widen : (rule : List ℕ) → length rule ≤ 32 → check_rule form64 (widen_rule rule) ≡ check_rule form32 rule
unfolding check_rule
check_widen rule few =
    ap₂ ◌then◌ (ask_one rule few) (ap₂ ◌then◌ (ask_two rule) (ap (λ t. question3 t then question4 t) (table_widen rule)))

-- a longer rule has a no in the old form
pub check_many : (rule : List ℕ) → 32 < length rule → check_rule form32 rule ≡ refused 1 0
unfolding check_rule question1 form32
check_many rule h =
    then_refused (question1 form32 rule) _ 1 0 (once_no 1 _ (rw (lt-leb (length rule) 32 h, lt-ltb 0 (length rule) (omega arith))))

-- ---- and back

-- a node k ≤ 32 that questions 2 and 3 let pass: an operand is lower than k, or zero
module _ (f : NodeFields) (k : ℕ) (few : k ≤ 32) (fit : fields_fit f ≡ true) (lower : all (λ j. ltb j k) (operands (node_of f)) ≡ true) where
  -- is it of kind n?
  abbrev is : ℕ → Bool
  is n = eqb f.kind n

  at_kind : (n : ℕ) → is n ≡ true → all (λ j. ltb j k) (operands (get_or (by_kind f) n false_node)) ≡ true
  unfolding node_of
  at_kind n e = subst (λ m. all (λ j. ltb j k) (operands (get_or (by_kind f) m false_node)) ≡ true) (eqb-true f.kind n e) lower

  below : (f.left < k) × (f.right < k) → (f.left < 32) × (f.right < 32)
  below (l, r) = (omega arith, omega arith)

  both : (is 3 || is 4) ≡ true → (f.left < 32) × (f.right < 32)
  both e = below (elim (or_either (is 3) (is 4) e) [
    | inl a ↦ both_lower k f.left f.right (at_kind 3 a)
    | inr a ↦ both_lower k f.left f.right (at_kind 4 a)
  ])

  left : (is 3 || is 4 || is 5 || eqb f.left 0) ≡ true → f.left < 32
  left e = elim (or_either (is 3 || is 4 || is 5) (eqb f.left 0) e) [
    | inl a ↦ elim (or_either (is 3 || is 4) (is 5) a) [ inl b ↦ (both b).0 | inr b ↦ let l = one_lower k f.left (at_kind 5 b) in omega arith ]
    | inr a ↦ let z = eqb-true f.left 0 a in omega arith
  ]

  right : (is 3 || is 4 || eqb f.right 0) ≡ true → f.right < 32
  right e = elim (or_either (is 3 || is 4) (eqb f.right 0) e) [ inl a ↦ (both a).1 | inr a ↦ let z = eqb-true f.right 0 a in omega arith ]

  narrow_fields : Narrow f
  unfolding fields_fit unused_zero
  narrow_fields =
      let c = is 1 || is 2 || is 6 || eqb f.register 0 && eqb f.constant 0 in
      let l = is 3 || is 4 || is 5 || eqb f.left 0 in
      let r = is 3 || is 4 || eqb f.right 0 in
      let unused = (and_both (leb f.kind 6) (unused_zero f) (and_both (leb f.kind 6 && unused_zero f) (node_allowed (node_of f)) fit).0).1 in
      let (e₁, no_spare) = and_both (c && l && r) (eqb f.spare 0) unused in
      let (e₂, on-right) = and_both (c && l) r e₁ in
      record { left_small = left (and_both c l e₂).1; right_small = right on-right; spare_zero = eqb-true f.spare 0 no_spare }

pub narrowable : (rule : List ℕ) → check_rule form64 rule ≡ passed tt → length rule ≤ 32 → (k : ℕ) → k < length rule
    → Narrow (form64.read_node (get_or rule k 0))
narrowable rule passes few k l =
    let out = rule_out form64 rule passes in
    let lower = rw (node_read_lem form64 good64.no_node rule k) at (out.ordered.lower k) in
    narrow_fields (form64.read_node (get_or rule k 0)) k (omega arith) (out.fields_fit_lem k l) lower

narrower : (w : ℕ) → Narrow (node_fields64 w) → FieldsWithin 5 1 (node_fields64 w)
narrower w n =
    let s = fields_within 6 31 w in
    record {
      kind_within = s.kind_within;
      register_within = s.register_within;
      constant_within = s.constant_within;
      left_within = n.left_small;
      right_within = n.right_small;
      spare_within = subst (λ x. x < 2) (sym n.spare_zero) (omega arith);
    }

-- back and there: the same word
pub widen_narrow : (w : ℕ) → w < 2 ^ 64 → Narrow (form64.read_node w) → widen_node (narrow_node w) ≡ w
unfolding widen_node narrow_node form32 form64
widen_narrow w h n = ap node_word64 (fields_over_lem 5 1 (node_fields64 w) (narrower w n)) ∙ word_over_lem 6 31 w h

-- there and back
pub narrow_widen : (w : ℕ) → w < 2 ^ 32 → narrow_node (widen_node w) ≡ w
unfolding widen_node narrow_node form32 form64
narrow_widen w h = ap node_word (fields_over_lem 6 31 (node_fields w) (wider w)) ∙ word_over_lem 5 1 w h

pub rule_there_lem : (rule : List ℕ) → Bits 32 rule → narrow_rule (widen_rule rule) ≡ rule
rule_there_lem [] bits = refl
rule_there_lem (w ∷ ws) bits = ap₂ ◌∷◌ (narrow_widen w (bits 0 (omega arith))) (rule_there_lem ws (λ i l. bits (suc i) (omega arith)))

again : (rule : List ℕ) → Bits 64 rule → ((k : ℕ) → k < length rule → Narrow (form64.read_node (get_or rule k 0))) → widen_rule (narrow_rule rule) ≡ rule
again [] bits n = refl
again (w ∷ ws) bits n =
    ap₂ ◌∷◌ (widen_narrow w (bits 0 (omega arith)) (n 0 (omega arith))) (again ws (λ i l. bits (suc i) (omega arith)) (λ k l. n (suc k) (omega arith)))

pub rule_again_lem : (rule : List ℕ) → Bits 64 rule → check_rule form64 rule ≡ passed tt → length rule ≤ 32 → widen_rule (narrow_rule rule) ≡ rule
rule_again_lem rule bits passes few = again rule bits (narrowable rule passes few)

-- ---- moved words are words of the form moved to

widen_lt : (w : ℕ) → widen_node w < 2 ^ 64
unfolding widen_node form32 form64
widen_lt w = word_over_lt 6 31 (node_fields w) (wider w)

narrow_lt : (w : ℕ) → Narrow (form64.read_node w) → narrow_node w < 2 ^ 32
unfolding narrow_node form32 form64
narrow_lt w n = word_over_lt 5 1 (node_fields64 w) (narrower w n)

pub widen_bits : (rule : List ℕ) → Bits 64 (widen_rule rule)
widen_bits rule k l = subst (λ w. w < 2 ^ 64) (sym (widen_at rule k)) (widen_lt (get_or rule k 0))

pub narrow_bits : (rule : List ℕ) → check_rule form64 rule ≡ passed tt → length rule ≤ 32 → Bits 32 (narrow_rule rule)
unfolding narrow_node form32 form64
narrow_bits rule passes few k l =
    subst (λ w. w < 2 ^ 32) (sym (get_or-map narrow_node rule k 0))
    (narrow_lt (get_or rule k 0) (narrowable rule passes few k (let e = length-map rule narrow_node in omega arith)))
