-- Request 2026-09's promise (`specs/Union.antt`): the union of two accepted annotations is accepted; closing twice adds nothing; more
-- facts never pass on fewer.
--     length_union, word_union         the words of a union
--     instructions_same, facts_both    what they are read as
--     union_obeys, union_known         questions 8 to 11 of the union of two notes, since closing and passing on are monotone
--     together                         the promise, for every stored form
-- Assumes nothing.
use mathlib.Core.Path.{◌≡◌, refl, sym, subst, ap, ap₂, ◌∙◌, fun_ext}
use mathlib.Core.Logic.{inl, inr}
use mathlib.Core.Bool.{Bool, true, false, cond}
use mathlib.Core.List.{List, [], ◌∷◌}
use Prim.Native.Nat.{ℕ, zero, suc, ◌+◌, ◌*◌, ◌/◌, ◌%◌, ◌≤◌, ◌<◌}
use native.Mathlib.Omega.{arith}
use lib.ListN.{length, get_or}
use lib.Seq.{ext_get_or}
use lib.Dec.{eqb}
use lib.Bits.{bit_or}
use borrow.Author.Tests.{eqb-true, eq-eqb, ne_eqb}
use Rattle.spec.specs.Rule.{Form, Table, table_of, last_node}
use Rattle.spec.specs.Script.{Instruction, halt, Code, instruction_at, is_present, instruction_read, annotated_opcode, check_code}
use Rattle.spec.specs.Facts.{Fact, word_number, value_is, belongs, ◌∪◌, ◌⊑◌, first_facts}
use Rattle.spec.specs.Check.{line_at, code_of, nodes_in, lines_of, annotated_stored, present_known}
use Rattle.spec.specs.Promise.{Accepted}
use Rattle.sets.specs.Sets.{uniting}
use Rattle.largest.specs.Notes.{Notes, notes_of, passed_at, Obeys}
use Rattle.union.specs.Union.{union_word, union_from, union_words, SameInstructions, Together}
use Rattle.spec.proofs.BoolLaws.{either_not, not_either, le_or_lt}
use Rattle.spec.proofs.RuleLaws.{InOrder, rule_out}
use Rattle.spec.proofs.FactLaws.{⊑_trans, number_small, in_left, in_right, union_least}
use Rattle.spec.proofs.ClosingLaws.{close_mono, close_twice, passed_on_mono}
use Rattle.spec.proofs.StoredLaws.{length_read, instruction_of_lem, facts_of_lem}
use Rattle.spec.proofs.CodeLaws.{code_out}
use Rattle.spec.proofs.PlaceLaws.{past_end}
use Rattle.sets.proofs.WordLaws.{nodes_or}
use Rattle.largest.proofs.ObeyLaws.{length_codes, same_line, AcceptedNotes, accepted_out, accepted_in}

-- ---- the words of a union

length_from : (i : ℕ) (xs ys : List ℕ) → length xs ≡ length ys → length (union_from i xs ys) ≡ length xs
unfolding union_from
length_from i [] ys e = refl
length_from i (x ∷ xs) [] e = absurd (omega arith)
length_from i (x ∷ xs) (y ∷ ys) e = ap suc (length_from (suc i) xs ys (omega arith))

-- one of two words that are both 0
neither : (b : Bool) → ◌≡◌ {A = ℕ} 0 (cond b 0 0)
neither true = refl
neither false = refl

word_from : (i : ℕ) (xs ys : List ℕ) (j : ℕ) → length xs ≡ length ys
    → get_or (union_from i xs ys) j 0 ≡ union_word (i + j) (get_or xs j 0) (get_or ys j 0)
unfolding union_from
word_from i [] [] j e = neither (eqb ((i + j) % 8) 0)
word_from i [] (y ∷ ys) j e = absurd (omega arith)
word_from i (x ∷ xs) [] j e = absurd (omega arith)
word_from i (x ∷ xs) (y ∷ ys) zero e = let z : i + 0 ≡ i = omega arith in rw z
word_from i (x ∷ xs) (y ∷ ys) (suc j) e = let z : i + suc j ≡ suc i + j = omega arith in rw z (word_from (suc i) xs ys j (omega arith))

module _ (a b : List ℕ) (e : length a ≡ length b) where
  abbrev u : List ℕ
  u = union_words a b

  pub length_union : length u ≡ length a
  unfolding union_words
  length_union = length_from 0 a b e

  pub word_union : (i : ℕ) → get_or u i 0 ≡ union_word i (get_or a i 0) (get_or b i 0)
  unfolding union_words
  word_union i = let z : 0 + i ≡ i = omega arith in rw z at (word_from 0 a b i e)

  -- the first word of a line is that of the first script
  first_same : (l : ℕ) → get_or u (8 * l) 0 ≡ get_or a (8 * l) 0
  first_same l =
      let i = 8 * l in
      let z : i % 8 ≡ 0 = omega arith in
      word_union i ∙ ap (λ c. cond c (get_or a i 0) (bit_or (get_or a i 0) (get_or b i 0))) (eq-eqb _ 0 z)

  -- and the n-th of the others has the bits of both
  other_both : (l n : ℕ) → n < 7 → get_or u (8 * l + 1 + n) 0 ≡ bit_or (get_or a (8 * l + 1 + n) 0) (get_or b (8 * l + 1 + n) 0)
  other_both l n h =
      let i = 8 * l + 1 + n in
      let z : i % 8 ≡ 0 → ⊥ = λ (q : i % 8 ≡ 0). omega arith in
      word_union i ∙ ap (λ c. cond c (get_or a i 0) (bit_or (get_or a i 0) (get_or b i 0))) (ne_eqb _ 0 z)

  module _ (form : Form) where
    -- questions 5 to 7 see the first script
    stored_same : annotated_stored form u ≡ annotated_stored form a
    stored_same i = record {
      whole = eqb (length_union i % 8) 0;
      line_count = length_union i / 8;
      word = λ l. form.read_first (first_same l i);
      unused = λ l. form.unused_first (first_same l i);
    }

    count_union : length (code_of (lines_of form u)) ≡ length (code_of (lines_of form a))
    count_union =
        length_codes (lines_of form u) ∙ length_read form u ∙ ap (λ n. n / 8) length_union
        ∙ sym (length_read form a) ∙ sym (length_codes (lines_of form a))

    pub instructions_same : SameInstructions form u a
    instructions_same = ext_get_or halt (code_of (lines_of form u)) (code_of (lines_of form a)) count_union (λ l h.
        let i : l < length u / 8 = omega (arith, length_codes (lines_of form u), length_read form u) in
        same_line (lines_of form u) l ∙ instruction_of_lem form u l i ∙ ap (λ w. instruction_read (form.read_first w)) (first_same l)
        ∙ sym (instruction_of_lem form a l (omega (arith, length_union))) ∙ sym (same_line (lines_of form a) l))

    noted_both : (l : ℕ) → l < length a / 8 → (f : Fact) → notes_of (lines_of form u) l f ≡ (notes_of (lines_of form a) l ∪ notes_of (lines_of form b) l) f
    unfolding ◌∪◌ uniting
    noted_both l h f =
        let x = get_or a (8 * l + 1 + word_number f) 0 in
        let y = get_or b (8 * l + 1 + word_number f) 0 in
        facts_of_lem form u l (omega (arith, length_union)) f ∙ ap (nodes_in form.width) (other_both l (word_number f) (number_small f))
        ∙ nodes_or form.width x y
        ∙ ap₂ uniting (sym (facts_of_lem form a l h f)) (sym (facts_of_lem form b l (omega arith) f))

    -- past the last line nothing is noted in any of them
    none_both : (l : ℕ) → length a / 8 ≤ l → notes_of (lines_of form u) l ≡ notes_of (lines_of form a) l ∪ notes_of (lines_of form b) l
    unfolding ◌∪◌
    none_both l h =
        ap (λ x. x.annotation) (past_end (lines_of form u) l (omega (arith, length_read form u, length_union)))
        ∙ sym (ap₂ (λ x y. x.annotation ∪ y.annotation) (past_end (lines_of form a) l (omega (arith, length_read form a)))
        (past_end (lines_of form b) l (omega (arith, length_read form b))))

    pub facts_both : (l : ℕ) → notes_of (lines_of form u) l ≡ notes_of (lines_of form a) l ∪ notes_of (lines_of form b) l
    facts_both l = elim (le_or_lt (length a / 8) l) [ inl h ↦ none_both l h | inr h ↦ fun_ext (noted_both l h) ]

-- ---- questions 8 to 11 of the union of two notes

module _ (t : Table) (ordered : InOrder t) (code : Code) (N M U : Notes) (both : (l : ℕ) → U l ≡ N l ∪ M l) where
  -- what each of the two passes on, their union does
  passed_both : (l m : ℕ) (taken : Bool) → N m ⊑ passed_at t code l taken (N l) → M m ⊑ passed_at t code l taken (M l)
      → N m ∪ M m ⊑ passed_at t code l taken (N l ∪ M l)
  passed_both l m taken p q =
      let i = instruction_at code l in
      union_least (N m) (M m) _
      (⊑_trans (N m) _ _ p (passed_on_mono t ordered i (N l) (N l ∪ M l) taken (in_left (N l) (M l))))
      (⊑_trans (M m) _ _ q (passed_on_mono t ordered i (M l) (N l ∪ M l) taken (in_right (N l) (M l))))

  pub union_obeys : Obeys t code N → Obeys t code M → Obeys t code U
  union_obeys o p = record {
    belong = λ l h. rw (both l) (union_least (N l) (M l) (belongs t) (o.belong l h) (p.belong l h));
    first = λ h. rw (both 0) (union_least (N 0) (M 0) (first_facts t) (o.first h) (p.first h));
    passes = λ l m taken h h' w. rw (both l, both m) (passed_both l m taken (o.passes l m taken h h' w) (p.passes l m taken h h' w));
  }

  -- what one of them knows at a present, their union does
  pub union_known : (l : ℕ) (i : Instruction) → present_known t (record { instruction = i; annotation = N l }) ≡ true
      → present_known t (record { instruction = i; annotation = U l }) ≡ true
  unfolding present_known
  union_known l i e = rw (both l) (either_not (is_present i) _ (λ p.
      close_mono t ordered (N l) (N l ∪ M l) (in_left (N l) (M l)) (value_is true) (last_node t) (not_either (is_present i) _ e p)))

-- ---- the promise

module _ (form : Form) (rule a b : List ℕ) (same : SameInstructions form a b) (ea : Accepted form rule a) (eb : Accepted form rule b) where
  abbrev t : Table
  t = table_of form rule

  pa : AcceptedNotes form rule a
  pa = accepted_out form rule a ea

  pb : AcceptedNotes form rule b
  pb = accepted_out form rule b eb

  ordered : InOrder t
  ordered = (rule_out form rule pa.rule_passed).ordered

  whole : (ws : List ℕ) → AcceptedNotes form rule ws → length ws % 8 ≡ 0
  whole ws p = eqb-true (length ws % 8) 0 (code_out t annotated_opcode (annotated_stored form ws) p.code_passed).whole

  -- as many lines, and whole ones
  same_length : length a ≡ length b
  same_length =
      let n : length a / 8 ≡ length b / 8 =
      sym (length_read form a) ∙ sym (length_codes (lines_of form a)) ∙ ap length same ∙ length_codes (lines_of form b) ∙ length_read form b in
      omega (arith, n, whole a pa, whole b pb)

  abbrev joint : List ℕ
  joint = union_words a b

  same_code : code_of (lines_of form joint) ≡ code_of (lines_of form a)
  same_code = instructions_same a b same_length form

  obeys_joint : Obeys t (code_of (lines_of form joint)) (notes_of (lines_of form joint))
  obeys_joint = subst (λ c. Obeys t c (notes_of (lines_of form joint))) (sym same_code)
      (union_obeys t ordered (code_of (lines_of form a)) (notes_of (lines_of form a)) (notes_of (lines_of form b)) _
      (facts_both a b same_length form) pa.obeys (subst (λ c. Obeys t c (notes_of (lines_of form b))) (sym same) pb.obeys))

  known_joint : (l : ℕ) → l < length (lines_of form joint) → present_known t (line_at (lines_of form joint) l) ≡ true
  known_joint l h =
      let at : (line_at (lines_of form a) l).instruction ≡ (line_at (lines_of form joint) l).instruction =
      sym (same_line (lines_of form a) l) ∙ ap (λ c. instruction_at c l) (sym same_code) ∙ same_line (lines_of form joint) l in
      union_known t ordered (code_of (lines_of form a)) (notes_of (lines_of form a)) (notes_of (lines_of form b)) _
      (facts_both a b same_length form) l (line_at (lines_of form joint) l).instruction
      (subst (λ i. present_known t (record { instruction = i; annotation = notes_of (lines_of form a) l }) ≡ true) at
      (pa.known l (omega (arith, length_codes (lines_of form a), length_codes (lines_of form joint), ap length same_code))))

  union_accepted : Accepted form rule joint
  union_accepted = accepted_in form rule joint (record {
    rule_passed = pa.rule_passed;
    code_passed = ap (check_code t annotated_opcode) (stored_same a b same_length form) ∙ pa.code_passed;
    obeys = obeys_joint;
    known = known_joint;
  })

pub together : (form : Form) → Together form
together form = record {
  union = union_accepted form;
  lengths = same_length form;
  instructions = λ a b e. instructions_same a b e form;
  facts = λ a b e. facts_both a b e form;
  twice = λ rule e F. fun_ext (λ f. fun_ext (close_twice (table_of form rule) (rule_out form rule e).ordered F f));
  more = λ rule e. passed_on_mono (table_of form rule) (rule_out form rule e).ordered;
}
