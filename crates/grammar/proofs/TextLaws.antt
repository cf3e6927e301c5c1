-- Rules typed as text: the whole of `specs/TextPromise.antt`.
--     text_promise      for any stored form
--     text_promise32    for document 01's
--     text_promise64    for 2026-07's
--     opened_small                               the opened formula of a text in range fits a table
--     texting_asked                              what is left after questions 16 and 17,
--     writing_in, writing_many, writing_few, writing_out      questions 18 and 13 of a formula
--     count_refused, count_passed                an answer by its count
--     refused_16                                 a no of question 16 has this number
-- Assumes nothing.
use mathlib.Core.Path.{◌≡◌, refl, sym, subst, ap, ◌∙◌}
use mathlib.Core.Logic.{◌⊎◌, inl, inr}
use mathlib.Core.Bool.{true, false}
use mathlib.Core.List.{List}
use Prim.Native.Nat.{ℕ, ◌≤◌, ◌<◌}
use native.Mathlib.Omega.{arith}
use lib.ListN.{length}
use lib.Dec.{leb}
use borrow.Author.Tests.{leb-true, le-leb, lt-leb}
use Rattle.spec.specs.Logic.{Trace, Formula}
use Rattle.spec.specs.Questions.{Answer, passed, refused, Checked, first_failing, ask, ask_once}
use Rattle.spec.specs.Rule.{Form, form32, form64, table_of}
use Rattle.spec.specs.Judging.{Verdict, breach, clean, verdict_on, Means as VerdictMeans}
use Rattle.spec.proofs.QuestionLaws.{then_passed, then_refused, then_no, both_passed, once_in, once_no, once_out, once_number, no_number}
use Rattle.spec.proofs.JudgingLaws.{verdict_means}
use Rattle.spec.proofs.StoredLaws.{GoodForm, good32, good64}
use Rattle.grammar.specs.Typed.{Prefix, not, wprev, prev, once, sofar, Operator, since_word, and_word, or_word, implies_word, Comparison, equal_to, less_than, test_of, TextFormula, constant, atom, prefixed, joined, opened, opened_prefix, opened_operator}
use Rattle.grammar.specs.Grammar.{IsText, StuckAt}
use Rattle.grammar.specs.Scan.{start, stuck_from, question16}
use Rattle.grammar.specs.Reading.{formula_of}
use Rattle.grammar.specs.Nodes.{size, rule_words}
use Rattle.grammar.specs.Texting.{in_range_at, question17, writing, texting, count_of}
use Rattle.grammar.specs.TextPromise.{Judged, InRange, OutOfRangeAt, TableFor, TextPromise}
use Rattle.grammar.proofs.TypedLaws.{opened_agrees}
use Rattle.grammar.proofs.ScanLaws.{text_passes, passes_text, text_formula, text_one}
use Rattle.grammar.proofs.StuckLaws.{stuck_at, stuck_one}
use Rattle.grammar.proofs.RangeLaws.{ranges_agree, range_at}
use Rattle.grammar.proofs.TableLaws.{SmallTest, SmallTests, length_words, rule_words_lem, words_accepted}

-- ---- the opened formula of a text in range

test_small : (k : Comparison) (r c : ℕ) → (r ≤ 15) × (c ≤ 16383) → SmallTest (test_of k r c)
test_small equal_to r c (a, b) = (omega arith, omega arith)
test_small less_than r c (a, b) = (omega arith, omega arith)

prefix_small : (p : Prefix) (φ : Formula) → SmallTests φ → SmallTests (opened_prefix p φ)
prefix_small not φ s = (s, tt)
prefix_small wprev φ s = s
prefix_small prev φ s = ((s, tt), tt)
prefix_small once φ s = ((tt, tt), s)
prefix_small sofar φ s = (((tt, tt), (s, tt)), tt)

operator_small : (o : Operator) (φ ψ : Formula) → SmallTests φ → SmallTests ψ → SmallTests (opened_operator o φ ψ)
operator_small since_word φ ψ s t = (s, t)
operator_small and_word φ ψ s t = ((s, (t, tt)), tt)
operator_small or_word φ ψ s t = ((s, tt), t)
operator_small implies_word φ ψ s t = (s, t)

pub opened_small : (φ : TextFormula) → InRange φ → SmallTests (opened φ)
unfolding opened
opened_small (constant true) r = (tt, tt)
opened_small (constant false) r = tt
opened_small (atom k i c) r = test_small k i c r
opened_small (prefixed p φ) r = prefix_small p (opened φ) (opened_small φ r)
opened_small (joined o φ ψ) r = operator_small o (opened φ) (opened ψ) (opened_small φ r.0) (opened_small ψ r.1)

-- ---- verdicts

judged : (σ : Trace) (φ : TextFormula) (v : Verdict) → VerdictMeans σ (opened φ) v → Judged σ φ v
judged σ φ (breach i) m = (m.0, λ a. m.1 ((opened_agrees σ φ i).0 a), λ j l. (opened_agrees σ φ j).1 (m.2 j l))
judged σ φ (clean n) m = (m.0, λ j l. (opened_agrees σ φ j).1 (m.1 j l))

-- ---- a refusal has its question's number

number16 : (bs : List ℕ) (q i : ℕ) → question16 bs ≡ refused q i → 16 ≡ q
unfolding question16
number16 bs q i e = no_number 16 q i (stuck_from 0 start bs) e

pub refused_16 : (bs : List ℕ) (q i : ℕ) → question16 bs ≡ refused q i → question16 bs ≡ refused 16 i
refused_16 bs q i e = e ∙ ap (λ n. refused n i) (sym (number16 bs q i e))

number17 : (bs : List ℕ) (q i : ℕ) → question17 bs ≡ refused q i → 17 ≡ q
unfolding question17 ask
number17 bs q i e = no_number 17 q i (first_failing (length bs) 0 (in_range_at bs)) e

-- ---- the count of the nodes

pub count_refused : (a : Answer (List ℕ)) (q i : ℕ) → count_of a ≡ refused q i → a ≡ refused q i
count_refused (passed ws) q i e = let z : ◌≡◌ {A = ℕ} 0 1 = cc in absurd (omega arith)
count_refused (refused p j) q i e = cc

pub count_passed : (a : Answer (List ℕ)) (n : ℕ) → count_of a ≡ passed n → (ws : List ℕ) × (a ≡ passed ws) × (n ≡ length ws)
count_passed (passed ws) n e = (ws, refl, cc)
count_passed (refused p j) n e = let z : ◌≡◌ {A = ℕ} 0 1 = cc in absurd (omega arith)

-- ---- 18 and 13

module _ (form : Form) where
  -- both have a yes, and these are the words
  pub writing_out : (lent : ℕ) (φ : Formula) (ws : List ℕ) → writing form lent φ ≡ passed ws
      → (size φ ≤ form.width) × (size φ ≤ lent) × (ws ≡ rule_words form φ)
  unfolding writing
  writing_out lent φ ws e =
      let (a, e₁) = both_passed (ask_once 18 (leb (size φ) form.width)) _ ws e in
      let (b, e₂) = both_passed (ask_once 13 (leb (size φ) lent)) _ ws e₁ in
      (leb-true _ _ (once_out 18 _ a), leb-true _ _ (once_out 13 _ b), cc)

  pub writing_in : (lent : ℕ) (φ : Formula) → size φ ≤ form.width → size φ ≤ lent → writing form lent φ ≡ passed (rule_words form φ)
  unfolding writing
  writing_in lent φ a b =
      then_passed _ _ (once_in 18 _ (le-leb (size φ) form.width a)) ∙ then_passed _ _ (once_in 13 _ (le-leb (size φ) lent b))

  pub writing_many : (lent : ℕ) (φ : Formula) → form.width < size φ → writing form lent φ ≡ refused 18 0
  unfolding writing
  writing_many lent φ a = then_refused _ _ 18 0 (once_no 18 _ (lt-leb (size φ) form.width a))

  pub writing_few : (lent : ℕ) (φ : Formula) → size φ ≤ form.width → lent < size φ → writing form lent φ ≡ refused 13 0
  unfolding writing
  writing_few lent φ a b =
      then_passed _ _ (once_in 18 _ (le-leb (size φ) form.width a)) ∙ then_refused _ _ 13 0 (once_no 13 _ (lt-leb (size φ) lent b))

  writing_number : (lent : ℕ) (φ : Formula) (q i : ℕ) → writing form lent φ ≡ refused q i → (18 ≡ q) ⊎ (13 ≡ q)
  unfolding writing
  writing_number lent φ q i e =
      elim (then_no (ask_once 18 (leb (size φ) form.width)) _ q i e) [
        | inl a ↦ inl (once_number 18 q i _ a)
        | inr (a, b) ↦ elim (then_no (ask_once 13 (leb (size φ) lent)) _ q i b) [
          | inl c ↦ inr (once_number 13 q i _ c)
          | inr (c, d) ↦ let z : ◌≡◌ {A = ℕ} 0 1 = cc in absurd (omega arith)
        ]
      ]

-- ---- after 16 and 17

pub texting_asked : (form : Form) (lent : ℕ) (bs : List ℕ) → question16 bs ≡ passed tt → question17 bs ≡ passed tt
    → texting form lent bs ≡ writing form lent (opened (formula_of bs))
unfolding texting
texting_asked form lent bs q₁₆ q₁₇ = then_passed _ _ q₁₆ ∙ then_passed _ _ q₁₇

-- ---- the table

module _ (form : Form) (good : GoodForm form) where
  table_for : (φ : TextFormula) → InRange φ → size (opened φ) ≤ form.width → TableFor form φ (rule_words form (opened φ))
  table_for φ r few =
      let small = opened_small φ r in
      let t = table_of form (rule_words form (opened φ)) in
      let e = rule_words_lem form good (opened φ) small few in
      record {
        nodes = length_words form (opened φ);
        accepted = words_accepted form good (opened φ) small few;
        rule = e;
        verdict = λ σ. judged σ φ (verdict_on t σ) (subst (λ ψ. VerdictMeans σ ψ (verdict_on t σ)) e (verdict_means t σ));
      }

  text_writing : (bs : List ℕ) (φ : TextFormula) → IsText bs φ → InRange φ → (lent : ℕ) → texting form lent bs ≡ writing form lent (opened φ)
  text_writing bs φ x r lent =
      texting_asked form lent bs (text_passes bs φ x) ((ranges_agree bs φ x).1 r) ∙ ap (λ ψ. writing form lent (opened ψ)) (text_formula bs φ x)

  outside_refused : (bs : List ℕ) → ((φ : TextFormula) → IsText bs φ → ⊥) → (lent : ℕ) → (i : ℕ) × (texting form lent bs ≡ refused 16 i)
  unfolding texting
  outside_refused bs none lent = go (question16 bs) refl
    where
      go : (a : Checked) → question16 bs ≡ a → (i : ℕ) × (texting form lent bs ≡ refused 16 i)
      go (passed u) e = let (φ, x) = passes_text bs e in absurd (none φ x)
      go (refused q i) e = (i, then_refused (question16 bs) _ 16 i (refused_16 bs q i e))

  beyond_refused : (bs : List ℕ) (φ : TextFormula) → IsText bs φ → (InRange φ → ⊥) → (lent : ℕ)
      → (i : ℕ) × (texting form lent bs ≡ refused 17 i)
  unfolding texting
  beyond_refused bs φ x out lent = go (question17 bs) refl
    where
      go : (a : Checked) → question17 bs ≡ a → (i : ℕ) × (texting form lent bs ≡ refused 17 i)
      go (passed u) e = absurd (out ((ranges_agree bs φ x).0 e))
      go (refused q i) e = (
        i,
        then_passed (question16 bs) _ (text_passes bs φ x)
            ∙ then_refused (question17 bs) _ 17 i (e ∙ ap (λ n. refused n i) (sym (number17 bs q i e))),
      )

  stuck_out : (bs : List ℕ) (lent i : ℕ) → texting form lent bs ≡ refused 16 i → StuckAt bs i
  unfolding texting
  stuck_out bs lent i e =
      elim (then_no (question16 bs) _ 16 i e) [
        | inl a ↦ stuck_at bs i a
        | inr (a, b) ↦ elim (then_no (question17 bs) _ 16 i b) [
          | inl c ↦ let z = number17 bs 16 i c in absurd (omega arith)
          | inr (c, d) ↦ elim (writing_number form lent (opened (formula_of bs)) 16 i d) [ inl z ↦ absurd (omega arith) | inr z ↦ absurd (omega arith) ]
        ]
      ]

  range_out : (bs : List ℕ) (lent i : ℕ) → texting form lent bs ≡ refused 17 i → OutOfRangeAt false bs i
  unfolding texting
  range_out bs lent i e =
      elim (then_no (question16 bs) _ 17 i e) [
        | inl a ↦ let z = number16 bs 17 i a in absurd (omega arith)
        | inr (a, b) ↦ elim (then_no (question17 bs) _ 17 i b) [
          | inl c ↦ let (φ, x) = passes_text bs a in range_at bs φ x i c
          | inr (c, d) ↦ elim (writing_number form lent (opened (formula_of bs)) 17 i d) [ inl z ↦ absurd (omega arith) | inr z ↦ absurd (omega arith) ]
        ]
      ]

  table_out : (bs : List ℕ) (lent : ℕ) (ws : List ℕ) → texting form lent bs ≡ passed ws
      → (φ : TextFormula) × IsText bs φ × TableFor form φ ws × (length ws ≤ lent)
  unfolding texting
  table_out bs lent ws e =
      let (q₁₆, e₁) = both_passed (question16 bs) _ ws e in
      let (q₁₇, e₂) = both_passed (question17 bs) _ ws e₁ in
      let (φ, x) = passes_text bs q₁₆ in
      let (few, room, same) = writing_out form lent (opened φ) ws (sym (ap (λ ψ. writing form lent (opened ψ)) (text_formula bs φ x)) ∙ e₂) in
      let t = table_for φ ((ranges_agree bs φ x).0 q₁₇) few in
      (φ, x, subst (TableFor form φ) (sym same) t, (let n = t.nodes in let s = ap length same in omega arith))

  pub text_promise : TextPromise form
  text_promise = record {
    meaning = opened_agrees;
    one = text_one;
    outside = outside_refused;
    stuck = stuck_out;
    stuck_once = stuck_one;
    beyond = beyond_refused;
    out_of_range = range_out;
    too_many = λ bs φ x r many lent. text_writing bs φ x r lent ∙ writing_many form lent (opened φ) many;
    too_few = λ bs φ x r few lent short. text_writing bs φ x r lent ∙ writing_few form lent (opened φ) few short;
    written = λ bs φ x r few lent room. (rule_words form (opened φ), text_writing bs φ x r lent ∙ writing_in form lent (opened φ) few room);
    table = table_out;
  }

pub text_promise32 : TextPromise form32
text_promise32 = text_promise form32 good32

pub text_promise64 : TextPromise form64
text_promise64 = text_promise form64 good64
