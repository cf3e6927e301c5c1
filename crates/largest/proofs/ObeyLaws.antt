-- Questions 8, 9 and 11 of lines say that their notes obey (`specs/Largest.antt`), and the other way; a word that question 6 lets
-- pass is the word of its instruction.
--     Slim, slim_lines                    lines read from words note facts of the first nodes only
--     nothing_past                        past the last line nothing is noted
--     length_codes, same_line             the instructions of lines
--     obeys_from                          questions 8, 9 and 11 to `Obeys`
--     eight_to, nine_to, eleven_to        and the other way
--     AcceptedNotes, accepted_out, accepted_in    acceptance, by `Obeys`
--     fit_small, fit_again                question 6 of a word
--     code_at, length_bare                the instructions of stored words
-- Assumes nothing.
use mathlib.Core.Path.{◌≡◌, refl, sym, subst, ap, ◌∙◌}
use mathlib.Core.Logic.{inl, inr}
use mathlib.Core.Bool.{Bool, true, false, cond, not, ◌&&◌, ◌||◌}
use mathlib.Core.Option.{Option, none, some}
use mathlib.Core.List.{List}
use Prim.Native.Nat.{ℕ, zero, suc, ◌/◌, ◌≤◌, ◌<◌}
use native.Mathlib.Omega.{arith}
use lib.ListN.{length, get_or, drop, length-map, get_or-map}
use lib.Dec.{eqb, ltb}
use borrow.Author.Tests.{ltb-true, eqb-true}
use Rattle.spec.specs.Questions.{passed}
use Rattle.spec.specs.Rule.{Form, Table, table_of, check_rule}
use Rattle.spec.specs.Script.{Instruction, Code, instruction_at, target_of, goes_on, fields_of, word_of, instruction_of, instruction_read, fields_for, word_for, bare_code, annotated_opcode, stored_fit, check_code}
use Rattle.spec.specs.Facts.{Fact, belongs, Facts, ◌⊑◌, among, first_facts}
use Rattle.spec.specs.Check.{Line, Lines, line_at, code_of, nodes_in, facts_read, line_read, lines_read, lines_of, annotated_stored, facts_belong, question8, question9, present_known, question10, passed_on, target_follows, facts_follow, question11, check_facts, check_script}
use Rattle.spec.specs.Promise.{Accepted}
use Rattle.largest.specs.Notes.{notes_of, follower_of, Obeys}
use Rattle.spec.proofs.BoolLaws.{clash, and_both, both_and, either_not, le_or_lt}
use Rattle.spec.proofs.QuestionLaws.{then_passed, both_passed, once_in, once_out, ask_in, ask_out}
use Rattle.spec.proofs.RuleLaws.{InOrder, rule_out}
use Rattle.spec.proofs.FactLaws.{among_out, belongs_in}
use Rattle.spec.proofs.StoredLaws.{Small, word_fields}
use Rattle.spec.proofs.PlaceLaws.{past_end, instruction_at_lem}
use Rattle.spec.proofs.FineLaws.{among_all, belong_all}
use Rattle.largest.proofs.LargestFound.{none_some, some_same}

-- ---- questions 8, 9 and 11

among_all_out : (t : Table) → InOrder t → (F G : Facts) → F ⊑ belongs t → among t F G ≡ true → F ⊑ G
among_all_out t ordered F G b e f k d = among_out (length t) F G e f k (belongs_in t ordered f k (b f k d)) d

pub nothing_past : (ls : Lines) (l : ℕ) → length ls ≤ l → (G : Facts) → notes_of ls l ⊑ G
nothing_past ls l h G f k e = clash e (ap (λ x. x.annotation f k) (past_end ls l h))

-- facts of the first `width` nodes only
abbrev pub Slim : ℕ → Lines → Type 0
Slim width ls = (l : ℕ) (f : Fact) (k : ℕ) → notes_of ls l f k ≡ true → k < width

slim_read : (form : Form) (n : ℕ) (ws : List ℕ) → Slim form.width (lines_read form n ws)
unfolding lines_read line_read facts_read nodes_in
slim_read form zero ws l f k e = clash e refl
slim_read form (suc n) ws zero f k e = ltb-true k form.width (and_both (ltb k form.width) _ e).0
slim_read form (suc n) ws (suc l) f k e = slim_read form n (drop 8 ws) l f k e

pub slim_lines : (form : Form) (ws : List ℕ) → Slim form.width (lines_of form ws)
unfolding lines_of
slim_lines form ws = slim_read form (length ws / 8) ws

pub length_codes : (ls : Lines) → length (code_of ls) ≡ length ls
length_codes ls = length-map ls (λ x. x.instruction)

pub same_line : (ls : Lines) (l : ℕ) → instruction_at (code_of ls) l ≡ (line_at ls l).instruction
same_line ls l = instruction_at_lem ls l _ refl

module _ (t : Table) (ls : Lines) where
  abbrev code : Code
  code = code_of ls

  abbrev on : ℕ → Instruction → Bool → Facts
  on l i taken = passed_on t (record { instruction = i; annotation = notes_of ls l }) taken

  -- question 11 of line l, if i is its instruction
  abbrev eleven : ℕ → Instruction → Type 0
  eleven l i =
      (target_follows t ls (record { instruction = i; annotation = notes_of ls l }) (target_of i)
      && (not (goes_on i) || among t (notes_of ls (suc l)) (on l i false))) ≡ true

  passes_at : InOrder t → (l : ℕ) (i : Instruction) (m : ℕ) (taken : Bool) → notes_of ls m ⊑ belongs t → eleven l i → follower_of l i taken ≡ some m
      → notes_of ls m ⊑ on l i taken
  passes_at ordered l i m true b e w =
      let x : Line = record { instruction = i; annotation = notes_of ls l } in
      let d = (and_both (target_follows t ls x (target_of i)) _ e).0 in
      among_all_out t ordered (notes_of ls m) (on l i true) b (subst (λ o. target_follows t ls x o ≡ true) w d)
  passes_at ordered l i m false b e w =
      go (goes_on i) w (and_both (target_follows t ls (record { instruction = i; annotation = notes_of ls l }) (target_of i)) _ e).1
    where
      go : (g : Bool) → cond g (some (suc l)) none ≡ some m → (not g || among t (notes_of ls (suc l)) (on l i false)) ≡ true
          → notes_of ls m ⊑ on l i false
      go true v d =
          let z : suc l ≡ m = some_same v in
          among_all_out t ordered (notes_of ls m) (on l i false) b (subst (λ j. among t (notes_of ls j) (on l i false) ≡ true) z d)
      go false v d = absurd (none_some v)

  pub obeys_from : (form : Form) → InOrder t → Slim form.width ls → ((l : ℕ) → l < length ls → facts_belong form t (line_at ls l) ≡ true)
      → among t (notes_of ls 0) (first_facts t) ≡ true → ((l : ℕ) → l < length ls → facts_follow t ls l ≡ true) → Obeys t code (notes_of ls)
  unfolding facts_belong facts_follow
  obeys_from form ordered slim q₈ q₉ q₁₁ = record {
    belong = own;
    first = λ h. among_all_out t ordered (notes_of ls 0) (first_facts t) (own 0 h) q₉;
    passes = λ l m taken h h' w. subst (λ i. follower_of l i taken ≡ some m → notes_of ls m ⊑ on l i taken) (sym (same_line ls l))
        (passes_at ordered l (line_at ls l).instruction m taken (own m h') (q₁₁ l (omega (arith, length_codes ls)))) w;
  }
    where
      own : (l : ℕ) → l < length code → notes_of ls l ⊑ belongs t
      own l h f k e = among_out form.width (notes_of ls l) (belongs t) (q₈ l (omega (arith, length_codes ls))) f k (slim l f k e) e

  module _ (o : Obeys t code (notes_of ls)) where
    pub eight_to : (form : Form) (l : ℕ) → l < length ls → facts_belong form t (line_at ls l) ≡ true
    eight_to form l h = belong_all form t (line_at ls l) (o.belong l (omega (arith, length_codes ls)))

    pub nine_to : among t (notes_of ls 0) (first_facts t) ≡ true
    nine_to = among_all t (notes_of ls 0) (first_facts t) (elim (le_or_lt (length ls) 0) [
      | inl h ↦ nothing_past ls 0 h (first_facts t)
      | inr h ↦ o.first (omega (arith, length_codes ls))
    ])

    follower_to : (l m : ℕ) (taken : Bool) → l < length ls → follower_of l (line_at ls l).instruction taken ≡ some m
        → among t (notes_of ls m) (on l (line_at ls l).instruction taken) ≡ true
    follower_to l m taken h w = among_all t (notes_of ls m) (on l (line_at ls l).instruction taken) (elim (le_or_lt (length ls) m) [
      | inl a ↦ nothing_past ls m a (on l (line_at ls l).instruction taken)
      | inr a ↦ subst (λ i. follower_of l i taken ≡ some m → notes_of ls m ⊑ on l i taken) (same_line ls l)
          (o.passes l m taken (omega (arith, length_codes ls)) (omega (arith, length_codes ls))) w
    ])

    pub eleven_to : (l : ℕ) → l < length ls → facts_follow t ls l ≡ true
    unfolding facts_follow
    eleven_to l h =
        let i = (line_at ls l).instruction in
        both_and (target (target_of i) refl) (either_not (goes_on i) _ (λ g. follower_to l (suc l) false h (rw g)))
      where
        target : (w : Option ℕ) → target_of (line_at ls l).instruction ≡ w → target_follows t ls (line_at ls l) w ≡ true
        target none e = refl
        target (some m) e = follower_to l m true h e

-- ---- acceptance

-- questions 1 to 11, with 8, 9 and 11 by `Obeys`
pub record AcceptedNotes (form : Form) (rule ws : List ℕ) : Type 0 where
  pub rule_passed : check_rule form rule ≡ passed tt
  pub code_passed : check_code (table_of form rule) annotated_opcode (annotated_stored form ws) ≡ passed tt
  pub obeys : Obeys (table_of form rule) (code_of (lines_of form ws)) (notes_of (lines_of form ws))
  pub known : (l : ℕ) → l < length (lines_of form ws) → present_known (table_of form rule) (line_at (lines_of form ws) l) ≡ true

module _ (form : Form) (rule ws : List ℕ) where
  pub accepted_out : Accepted form rule ws → AcceptedNotes form rule ws
  unfolding check_script check_facts question8 question9 question10 question11
  accepted_out e =
      let (rule-ok, e₁) = both_passed _ _ tt e in
      let (code_ok, e₂) = both_passed _ _ tt e₁ in
      let (q₈, e₃) = both_passed _ _ tt e₂ in
      let (q₉, e₄) = both_passed _ _ tt e₃ in
      let (q₁₀, q₁₁) = both_passed _ _ tt e₄ in
      record {
        rule_passed = rule-ok;
        code_passed = code_ok;
        obeys = obeys_from (table_of form rule) (lines_of form ws) form (rule_out form rule rule-ok).ordered (slim_lines form ws)
            (ask_out 8 _ _ q₈) (once_out 9 _ q₉) (ask_out 11 _ _ q₁₁);
        known = ask_out 10 _ _ q₁₀;
      }

  pub accepted_in : AcceptedNotes form rule ws → Accepted form rule ws
  unfolding check_script check_facts question8 question9 question10 question11
  accepted_in p =
      let t = table_of form rule in
      let ls = lines_of form ws in
      then_passed _ _ p.rule_passed ∙ then_passed _ _ p.code_passed
      ∙ then_passed _ _ (ask_in 8 (length ls) (λ l. facts_belong form t (line_at ls l)) (eight_to t ls p.obeys form))
      ∙ then_passed _ _ (once_in 9 _ (nine_to t ls p.obeys))
      ∙ then_passed _ _ (ask_in 10 (length ls) (λ l. present_known t (line_at ls l)) p.known)
      ∙ ask_in 11 (length ls) (λ l. facts_follow t ls l) (eleven_to t ls p.obeys)

-- ---- a word that question 6 lets pass is the word of its instruction

fit_fields : (w : ℕ) → stored_fit (fields_of w) ≡ true → fields_for (instruction_read w) ≡ fields_of w
unfolding stored_fit instruction_read
fit_fields w e =
    let f = fields_of w in
    let g = fields_for (instruction_of f) in
    let (e₁, target) = and_both (eqb f.opcode g.opcode && eqb f.r g.r && eqb f.c g.c) _ e in
    let (e₂, c) = and_both (eqb f.opcode g.opcode && eqb f.r g.r) _ e₁ in
    let (o, r) = and_both (eqb f.opcode g.opcode) _ e₂ in
    let p₁ : g.opcode ≡ f.opcode = sym (eqb-true _ _ o) in
    let p₂ : g.r ≡ f.r = sym (eqb-true _ _ r) in
    let p₃ : g.c ≡ f.c = sym (eqb-true _ _ c) in
    let p₄ : g.target ≡ f.target = sym (eqb-true _ _ target) in
    λ i. record { opcode = p₁ i; r = p₂ i; c = p₃ i; target = p₄ i }

read_small : (w : ℕ) → Small (fields_of w)
unfolding fields_of
read_small w = record { opcode_small = omega arith; r_small = omega arith; c_small = omega arith; target_small = omega arith }

pub fit_small : (w : ℕ) → stored_fit (fields_of w) ≡ true → Small (fields_for (instruction_read w))
fit_small w e = subst (λ f. Small f) (sym (fit_fields w e)) (read_small w)

pub fit_again : (w : ℕ) → w < 4294967296 → stored_fit (fields_of w) ≡ true → word_for (instruction_read w) ≡ w
unfolding word_for
fit_again w h e = ap word_of (fit_fields w e) ∙ word_fields w h

-- ---- the instructions of stored words

pub code_at : (ws : List ℕ) (l : ℕ) → instruction_at (bare_code ws) l ≡ instruction_read (get_or ws l 0)
unfolding bare_code instruction_read instruction_of fields_of
code_at ws l = get_or-map instruction_read ws l 0

pub length_bare : (ws : List ℕ) → length (bare_code ws) ≡ length ws
unfolding bare_code
length_bare ws = length-map ws instruction_read
