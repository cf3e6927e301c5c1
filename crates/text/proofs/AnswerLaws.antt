-- What reading a text answers (`specs/Answers.antt`).
--     fills_grammar, fills_range                16 and 17 refuse
--     fills_many, fills_short, fills_count      18 refuses, 13 refuses, the table has the nodes
--     filled_words, filled_inside, filled_length, filled_room      the words in the table after a count: they are there, and have room
--     filled_old, filled_stored                 the old form has space for their fields; as they are stored they are the form's (`proofs/FormLaws.antt`)
--     width_by, good_by                         the two forms
--     fitted                                    what the form and the output allow
--     Reads, reads_kept, reads_written          what reading answers and leaves in the output, and what that tells
-- Assumes nothing.
use mathlib.Core.Path.{◌≡◌, refl, sym, subst, ap, ap₂, ◌∙◌}
use mathlib.Core.Bool.{Bool, true, false, true≢false}
use mathlib.Core.List.{List, ◌++◌}
use Prim.Native.Nat.{ℕ, ◌≤◌, ◌<◌}
use native.Mathlib.Omega.{arith}
use lib.ListN.{length, get_or, take, drop}
use lib.Seq.{take-append_seam, length-take-le}
use Rattle.spec.specs.Logic.{Formula}
use Rattle.spec.specs.Questions.{Answer, passed, refused}
use Rattle.spec.specs.Rule.{Form, form32, form64}
use Rattle.spec.proofs.QuestionLaws.{then_passed, then_refused}
use Rattle.spec.proofs.StoredLaws.{GoodForm, good32, good64}
use Rattle.grammar.specs.Typed.{opened}
use Rattle.grammar.specs.Scan.{question16}
use Rattle.grammar.specs.Reading.{formula_of}
use Rattle.grammar.specs.Nodes.{size, rule_words}
use Rattle.grammar.specs.TextPromise.{TableFor}
use Rattle.grammar.specs.Texting.{question17, texting, count_of, output_of}
use Rattle.grammar.proofs.TableLaws.{length_words}
use Rattle.grammar.proofs.TextLaws.{texting_asked, writing_in, writing_many, writing_few, count_refused, count_passed, text_promise}
use Rattle.grammar.proofs.FormLaws.{texting_few}
use Rattle.moves.specs.Moves.{Narrow}
use Rattle.rule.specs.Answers.{counted_of}
use Rattle.rule.specs.Nodes.{form_in, form_by, fields_in}
use Rattle.rule.specs.declared.answer.Question.TheVariants.{OutputWords, TextNodeCount}
use Rattle.rule.specs.declared.answer.Refusal.{Refusal}
use Rattle.std.specs.Prelude.{Some, None, Result, Ok, Err}
use Rattle.text.specs.Stacks.{table_length, Holds}
use Rattle.text.specs.Progress.{TableOf}
use Rattle.text.specs.Answers.{Tells, Fills, stored_as}
use Rattle.text.proofs.FormLaws.{texting_narrow, texting_narrowable}

-- ---- the table

abbrev formula : (text : List ℕ) → Formula
formula text = opened (formula_of text)

counted : (text : List ℕ) {table : List ℕ} {n : ℕ} → Holds table n (rule_words form_in (formula text)) → n ≡ size (formula text)
counted text held = let a = held.count in let b = length_words form_in (formula text) in omega arith

module _ {text : List ℕ} {allowed lent : ℕ} {table : List ℕ} {r : Result ℕ Refusal} where
  -- a no, in each form that allows so many nodes
  refuses : (q i : ℕ) → counted_of r ≡ refused q i → ((form : Form) → form.width ≡ allowed → texting form lent text ≡ refused q i)
      → Fills text allowed lent table r
  refuses q i said refusal = record {
    answer = λ form w. said ∙ sym (ap count_of (refusal form w));
    inside = λ n e. none (sym said ∙ e);
    words = λ n e. none (sym said ∙ e);
  }
    where
      none : {X : Type 0} {n : ℕ} → refused q i ≡ passed n → X
      none e = let z : ◌≡◌ {A = ℕ} 0 1 = cc in absurd (omega arith)

  pub fills_grammar : {q i : ℕ} → counted_of r ≡ refused q i → refused q i ≡ question16 text → Fills text allowed lent table r
  unfolding texting
  fills_grammar {q} {i} said e = refuses q i said (λ form w. then_refused (question16 text) _ q i (sym e))

  module _ (q₁₆ : question16 text ≡ passed tt) where
    pub fills_range : {q i : ℕ} → counted_of r ≡ refused q i → refused q i ≡ question17 text → Fills text allowed lent table r
    unfolding texting
    fills_range {q} {i} said e = refuses q i said (λ form w. then_passed (question16 text) _ q₁₆ ∙ then_refused (question17 text) _ q i (sym e))

module _ {text : List ℕ} {allowed lent : ℕ} {table : List ℕ} (q₁₆ : question16 text ≡ passed tt) (q₁₇ : question17 text ≡ passed tt) where
  pub fills_many : TableOf text allowed table None → Fills text allowed lent table (Err (record { question = TextNodeCount; place = 0 }))
  fills_many h =
      let k : allowed < size (formula text) = h in
      refuses 18 0 refl (λ form w. texting_asked form lent text q₁₆ q₁₇ ∙ writing_many form lent (formula text) (omega arith))

  module _ {n : ℕ} (t : TableOf text allowed table (Some n)) where
    pub fills_short : lent < n → Fills text allowed lent table (Err (record { question = OutputWords; place = 0 }))
    fills_short l =
        let k = t.0 in
        let z = counted text t.1 in
        refuses 13 0 refl (λ form w. texting_asked form lent text q₁₆ q₁₇ ∙ writing_few form lent (formula text) (omega arith) (omega arith))

    pub fills_count : allowed ≤ table_length → n ≤ lent → Fills text allowed lent table (Ok n)
    unfolding form64
    fills_count within l =
        let k = t.0 in
        let z = counted text t.1 in
        let held = t.1 in
        record {
          answer = λ form w.
              ap passed (z ∙ sym (length_words form (formula text)))
              ∙ sym (ap count_of (texting_asked form lent text q₁₆ q₁₇ ∙ writing_in form lent (formula text) (omega arith) (omega arith)));
          inside = λ m e. let same : m ≡ n = cc in let long = held.long in omega arith;
          words = λ m e.
              let same : m ≡ n = cc in
              texting_asked form_in lent text q₁₆ q₁₇ ∙ writing_in form_in lent (formula text) (omega arith) (omega arith)
              ∙ ap passed (sym (ap (λ j. take j table) same ∙ held.words));
        }

-- after a count
module _ {text : List ℕ} {allowed lent : ℕ} {table : List ℕ} {n : ℕ} (x : Fills text allowed lent table (Ok n)) where
  pub filled_words : texting form_in lent text ≡ passed (take n table)
  filled_words = x.words n refl

  pub filled_inside : n ≤ length table
  filled_inside = x.inside n refl

  pub filled_length : n ≡ length (take n table)
  filled_length = sym (length-take-le n table filled_inside)

  pub filled_room : length (take n table) ≤ lent
  filled_room = (texting_few form_in lent text (take n table) filled_words).1

  filled_few : (form : Form) → form.width ≡ allowed → length (take n table) ≤ allowed
  filled_few form w =
      let (ws, given, l) = count_passed (texting form lent text) n (sym (x.answer form w)) in
      let few = (texting_few form lent text ws given).0 in
      let same = filled_length in omega arith

-- as they are stored
module _ {text : List ℕ} {lent : ℕ} {table : List ℕ} {n : ℕ} where
  few32 : Fills text 32 lent table (Ok n) → length (take n table) ≤ 32
  unfolding form32
  few32 x = filled_few x form32 refl

  narrow32 : Fills text 32 lent table (Ok n) → (k : ℕ) → k < length (take n table) → Narrow (fields_in (get_or (take n table) k 0))
  unfolding form64
  narrow32 x = texting_narrowable lent text (take n table) (filled_words x) (few32 x)

  -- the old form has space for them
  pub filled_old : (b : Bool) → Fills text (form_by b).width lent table (Ok n) → b ≡ false
      → (k : ℕ) → k < length (take n table) → Narrow (fields_in (get_or (take n table) k 0))
  unfolding form32
  filled_old true x e = absurd (true≢false e)
  filled_old false x e = narrow32 x

  pub filled_stored : (b : Bool) → Fills text (form_by b).width lent table (Ok n) → texting (form_by b) lent text ≡ passed (stored_as b (take n table))
  unfolding form32
  filled_stored true x = filled_words x
  filled_stored false x = texting_narrow lent text (take n table) (filled_words x) (few32 x)

-- ---- the output

pub width_by : (b : Bool) → (form_by b).width ≤ table_length
unfolding form32 form64
width_by true = omega arith
width_by false = omega arith

pub good_by : (b : Bool) → GoodForm (form_by b)
good_by true = good64
good_by false = good32

pub fitted : {text : List ℕ} {allowed lent room width : ℕ} {table : List ℕ} {r : Result ℕ Refusal} → allowed ≡ width → lent ≡ room
    → Fills text allowed lent table r → Fills text width room table r
fitted {text} {allowed} {lent} {room} {width} {table} {r} a l x =
    subst (λ n. Fills text n room table r) a (subst (λ n. Fills text allowed n table r) l x)

-- what reading answers, leaves in the output and tells
abbrev pub Reads : (form : Form) (text before after : List ℕ) → Answer ℕ → Type 0
Reads form text before after a =
    (a ≡ count_of (texting form (length before) text))
    × ((after ≡ output_of (texting form (length before) text) before) × Tells form text a after)

module _ (form : Form) (good : GoodForm form) (text before : List ℕ) {table : List ℕ} {r : Result ℕ Refusal}
    (x : Fills text form.width (length before) table r) where
  abbrev given : Answer (List ℕ)
  given = texting form (length before) text

  answer : counted_of r ≡ count_of given
  answer = x.answer form refl

  no : (q i : ℕ) → counted_of r ≡ refused q i → given ≡ refused q i
  no q i e = count_refused given q i (sym answer ∙ e)

  reads : (after : List ℕ) → after ≡ output_of given before → Reads form text before after (counted_of r)
  reads after output = (answer, (output, told))
    where
      told : Tells form text (counted_of r) after
      told = record {
        table = λ n e.
            let (ws, g, l) = count_passed given n (sym answer ∙ e) in
            let (φ, spelled, t, few) = (text_promise form good).table text (length before) ws g in
            let o = output ∙ ap (λ a. output_of a before) g in
            (φ, spelled, subst (TableFor form φ) (sym (ap₂ take l o ∙ take-append_seam ws _)) t);
        stuck = λ i e. (text_promise form good).stuck text (length before) i (no 16 i e);
        out_of_range = λ i e. (text_promise form good).out_of_range text (length before) i (no 17 i e);
      }

  pub reads_kept : {q i : ℕ} (a : Answer ℕ) → a ≡ refused q i → counted_of r ≡ refused q i → Reads form text before before a
  reads_kept {q} {i} a e f =
      subst (Reads form text before before) (f ∙ sym e) (reads before (sym (ap (λ g. output_of g before) (no q i f))))

  -- this form's words, as many as the table holds, at the start of the output
  pub reads_written : {ws after : List ℕ} {n m : ℕ} → counted_of r ≡ passed n → n ≡ m → given ≡ passed ws
      → after ≡ ws ++ drop m before → Reads form text before after (passed n)
  reads_written {ws} {after} {n} {m} e h g o =
      let l : m ≡ length ws = cc (answer) in
      subst (Reads form text before after) e
      (reads after (o ∙ ap (λ m. ws ++ drop m before) l ∙ sym (ap (λ a. output_of a before) g)))
