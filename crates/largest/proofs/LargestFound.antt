-- The search of `specs/Largest.antt` finds the largest notes.
--     none_some, some_same    two options
--     LargestLines, largest_found    `search` has the instructions given, and the largest notes
-- Assumes nothing.
use mathlib.Core.Logic.{inl, inr}
use mathlib.Core.Path.{◌≡◌, refl, sym, subst, ap, ◌∙◌}
use mathlib.Core.Bool.{Bool, true, false}
use mathlib.Core.Option.{Option, none, some}
use mathlib.Core.List.{[], ◌∷◌}
use Prim.Native.Nat.{ℕ, zero, suc, ◌≤◌, ◌<◌}
use native.Mathlib.Nat.{le_refl}
use native.Mathlib.Omega.{arith}
use lib.ListN.{length, length-map}
use lib.Dec.{eqb}
use borrow.Author.Tests.{eqb-true, eqb-false}
use Rattle.spec.specs.Rule.{Table}
use Rattle.spec.specs.Script.{Instruction, Code, instruction_at}
use Rattle.spec.specs.Facts.{Fact, word_number, Facts, ◌⊑◌, value_is, prior_is, kept_is_prior, work_is_next, work_is_prior}
use Rattle.spec.specs.Check.{Lines, line_at, code_of, nodes_in, facts_read, fact_word, passed_on}
use Rattle.largest.specs.Notes.{Notes, notes_of, follower_of, passed_at, NotesWithin, LargestNotes, start_notes, Around}
use Rattle.largest.specs.Largest.{stored, ◌∩◌, annotate, narrow, narrow_to, push, sweep, count_in, settle, search}
use Rattle.spec.proofs.BoolLaws.{clash, and_both, both_and, le_or_lt}
use Rattle.spec.proofs.RuleLaws.{InOrder}
use Rattle.spec.proofs.FactLaws.{⊑_trans, belongs_in}
use Rattle.spec.proofs.StoredLaws.{nodes_stored, no_nodes_lem}
use Rattle.spec.proofs.PlaceLaws.{instruction_at_lem}
use Rattle.largest.proofs.CountLaws.{count_mono, count_same}
use Rattle.largest.proofs.LargestLaws.{Cut, Swept, within_trans, around_start, around_same, passed_mono, around_cut, swept_start, swept_next, found_end}

-- ---- sets

meet_in : (F G : Facts) (f : Fact) (k : ℕ) → F f k ≡ true → G f k ≡ true → (F ∩ G) f k ≡ true
unfolding ◌∩◌
meet_in F G f k a b = both_and a b

meet_left : (F G : Facts) → F ∩ G ⊑ F
unfolding ◌∩◌
meet_left F G f k e = (and_both (F f k) (G f k) e).0

meet_right : (F G : Facts) → F ∩ G ⊑ G
unfolding ◌∩◌
meet_right F G f k e = (and_both (F f k) (G f k) e).1

stored_is : (width : ℕ) (F : Facts) (f : Fact) (k : ℕ) → stored width F f k ≡ nodes_in width (fact_word width 0 (F f)) k
unfolding stored facts_read word_number
stored_is width F (value_is true) k = refl
stored_is width F (value_is false) k = refl
stored_is width F (prior_is true) k = refl
stored_is width F (prior_is false) k = refl
stored_is width F kept_is_prior k = refl
stored_is width F work_is_next k = refl
stored_is width F work_is_prior k = refl

stored_in_lem : (width : ℕ) (F : Facts) (f : Fact) (k : ℕ) → k < width → F f k ≡ true → stored width F f k ≡ true
stored_in_lem width F f k h e = stored_is width F f k ∙ nodes_stored width (F f) k h ∙ e

stored_out : (width : ℕ) (F : Facts) → stored width F ⊑ F
stored_out width F f k e =
    elim (le_or_lt width k) [
      | inl h ↦ clash (sym (stored_is width F f k) ∙ e) (no_nodes_lem width (fact_word width 0 (F f)) k h)
      | inr h ↦ sym (nodes_stored width (F f) k h) ∙ sym (stored_is width F f k) ∙ e
    ]

pub none_some : {n : ℕ} → ◌≡◌ {A = Option ℕ} none (some n) → ⊥
none_some {n} e = let z : ◌≡◌ {A = ℕ} 0 1 = cc in omega arith

pub some_same : {m n : ℕ} → ◌≡◌ {A = Option ℕ} (some m) (some n) → m ≡ n
some_same e = cc

-- ---- one line narrowed

code_narrow : (width m : ℕ) (G : Facts) (ls : Lines) → code_of (narrow width m G ls) ≡ code_of ls
unfolding narrow
code_narrow width m G [] = refl
code_narrow width zero G (x ∷ ls) = refl
code_narrow width (suc m) G (x ∷ ls) = ap (◌∷◌ x.instruction) (code_narrow width m G ls)

narrow_within : (width m : ℕ) (G : Facts) (ls : Lines) (l : ℕ) → notes_of (narrow width m G ls) l ⊑ notes_of ls l
unfolding narrow
narrow_within width m G [] l f k e = e
narrow_within width zero G (x ∷ ls) zero f k e = meet_left x.annotation G f k (stored_out width _ f k e)
narrow_within width zero G (x ∷ ls) (suc l) f k e = e
narrow_within width (suc m) G (x ∷ ls) zero f k e = e
narrow_within width (suc m) G (x ∷ ls) (suc l) f k e = narrow_within width m G ls l f k e

narrow_inside : (width m : ℕ) (G : Facts) (ls : Lines) → notes_of (narrow width m G ls) m ⊑ G
unfolding narrow
narrow_inside width m G [] f k e = clash e refl
narrow_inside width zero G (x ∷ ls) f k e = meet_right x.annotation G f k (stored_out width _ f k e)
narrow_inside width (suc m) G (x ∷ ls) f k e = narrow_inside width m G ls f k e

narrow_kept : (width m : ℕ) (G : Facts) (ls : Lines) (l : ℕ) (f : Fact) (k : ℕ) → k < width → notes_of ls l f k ≡ true → (l ≡ m → G f k ≡ true)
    → notes_of (narrow width m G ls) l f k ≡ true
unfolding narrow
narrow_kept width m G [] l f k h e g = e
narrow_kept width zero G (x ∷ ls) zero f k h e g = stored_in_lem width _ f k h (meet_in x.annotation G f k e (g refl))
narrow_kept width zero G (x ∷ ls) (suc l) f k h e g = e
narrow_kept width (suc m) G (x ∷ ls) zero f k h e g = e
narrow_kept width (suc m) G (x ∷ ls) (suc l) f k h e g = narrow_kept width m G ls l f k h e (λ z. g (ap suc z))

code_annotate : (code : Code) (N : Notes) → code_of (annotate code N) ≡ code
unfolding annotate
code_annotate [] N = refl
code_annotate (i ∷ code) N = ap (◌∷◌ i) (code_annotate code (λ l. N (suc l)))

notes_annotate : (code : Code) (N : Notes) (l : ℕ) → l < length code → notes_of (annotate code N) l ≡ N l
unfolding annotate
notes_annotate [] N l h = absurd (omega arith)
notes_annotate (i ∷ code) N zero h = refl
notes_annotate (i ∷ code) N (suc l) h = notes_annotate code (λ m. N (suc m)) l (omega arith)

-- lines with these instructions and their largest notes
pub record LargestLines (t : Table) (code : Code) (ls : Lines) : Type 0 where
  pub same_code : code_of ls ≡ code
  pub largest : LargestNotes t code (notes_of ls)

-- `push` of a line with instruction i and notes F
push_with : ℕ → Table → ℕ → Instruction → Facts → Lines → Lines
push_with width t l i F ls =
    let way : Bool → Lines → Lines = λ taken. narrow_to width (follower_of l i taken) (passed_on t (record { instruction = i; annotation = F }) taken) in
    way false (way true ls)

push_is : (width : ℕ) (t : Table) (l : ℕ) (ls : Lines) → push width t l ls ≡ push_with width t l (line_at ls l).instruction (line_at ls l).annotation ls
unfolding push push_with
push_is width t l ls = refl

module _ (width : ℕ) (t : Table) (ordered : InOrder t) (few : length t ≤ width) (code : Code) where
  -- lines with these instructions, around the largest
  record Search (ls : Lines) : Type 0 where
    code_is : code_of ls ≡ code
    around : Around t code (notes_of ls)

  slim : (N : Notes) → Around t code N → (l : ℕ) → l < length code → (f : Fact) (k : ℕ) → N l f k ≡ true → k < width
  slim N r l h f k e = omega (arith, belongs_in t ordered f k (r.belong l h f k e))

  narrow_cut : (ls : Lines) (m : ℕ) (G : Facts) → Around t code (notes_of ls) → Cut code (notes_of ls) (notes_of (narrow width m G ls)) m G
  narrow_cut ls m G r = record {
    within = λ l h. narrow_within width m G ls l;
    inside = λ h. narrow_inside width m G ls;
    kept = λ l h f k e g. narrow_kept width m G ls l f k (slim (notes_of ls) r l h f k e) e g;
  }

  -- one way out of line l, where F was noted
  record Way (ls ls' : Lines) (l : ℕ) (taken : Bool) (F : Facts) : Type 0 where
    lines : Search ls'
    within : NotesWithin code (notes_of ls') (notes_of ls)
    inside : (m : ℕ) → m < length code → follower_of l (instruction_at code l) taken ≡ some m → notes_of ls' m ⊑ passed_at t code l taken F

  way : (ls : Lines) (l : ℕ) (taken : Bool) (F : Facts) → l < length code → Search ls → notes_of ls l ⊑ F
      → Way ls (narrow_to width (follower_of l (instruction_at code l) taken) (passed_at t code l taken F) ls) l taken F
  unfolding narrow_to
  way ls l taken F h s i = go (follower_of l (instruction_at code l) taken) refl
    where
      go : (o : Option ℕ) → follower_of l (instruction_at code l) taken ≡ o → Way ls (narrow_to width o (passed_at t code l taken F) ls) l taken F
      go none e = record { lines = s; within = λ m h' f k d. d; inside = λ m h' w. let z : ◌≡◌ {A = Option ℕ} none (some m) = sym e ∙ w in absurd (none_some z) }
      go (some m) e =
          let G = passed_at t code l taken F in
          let c = narrow_cut ls m G s.around in
          record {
            lines = record {
              code_is = code_narrow width m G ls ∙ s.code_is;
              around = around_cut t ordered code (notes_of ls) (notes_of (narrow width m G ls)) l m taken F h e i s.around c;
            };
            within = c.within;
            inside = λ n h' w.
                let z : m ≡ n = some_same (sym e ∙ w) in
                subst (λ j. notes_of (narrow width m G ls) j ⊑ G) z (narrow_inside width m G ls);
          }

  -- line l, both ways
  record Pushed (ls ls' : Lines) (l : ℕ) : Type 0 where
    lines : Search ls'
    within : NotesWithin code (notes_of ls') (notes_of ls)
    inside : (m : ℕ) (taken : Bool) → m < length code → follower_of l (instruction_at code l) taken ≡ some m → notes_of ls' m ⊑ passed_at t code l taken (notes_of ls l)

  pushed : (ls : Lines) (l : ℕ) → l < length code → Search ls → Pushed ls (push width t l ls) l
  unfolding push_with
  pushed ls l h s =
      let F = notes_of ls l in
      let e : instruction_at code l ≡ (line_at ls l).instruction = ap (λ c. instruction_at c l) (sym s.code_is) ∙ instruction_at_lem ls l _ refl in
      let ls₁ = narrow_to width (follower_of l (instruction_at code l) true) (passed_at t code l true F) ls in
      let a = way ls l true F h s (λ f k d. d) in
      let b = way ls₁ l false F h a.lines (a.within l h) in
      let ls₂ = narrow_to width (follower_of l (instruction_at code l) false) (passed_at t code l false F) ls₁ in
      let both : (m : ℕ) (taken : Bool) → m < length code → follower_of l (instruction_at code l) taken ≡ some m → notes_of ls₂ m ⊑ passed_at t code l taken F =
      λ m taken h'. elim taken as (λ x. follower_of l (instruction_at code l) x ≡ some m → notes_of ls₂ m ⊑ passed_at t code l x F) [
        | true ↦ λ w. ⊑_trans _ _ _ (b.within m h') (a.inside m h' w)
        | false ↦ λ w. b.inside m h' w
      ] in
      let p : Pushed ls ls₂ l = record { lines = b.lines; within = within_trans code _ _ _ b.within a.within; inside = both } in
      subst (λ x. Pushed ls x l) (ap (λ i. push_with width t l i F ls) e ∙ sym (push_is width t l ls)) p

  record After (ls ls' : Lines) (j : ℕ) : Type 0 where
    lines : Search ls'
    swept : Swept t code (notes_of ls) (notes_of ls') j

  after : (ls : Lines) → Search ls → (j : ℕ) → j ≤ length code → After ls (sweep width t j ls) j
  unfolding sweep
  after ls s zero h = record { lines = s; swept = swept_start t ordered code (notes_of ls) }
  after ls s (suc j) h =
      let ls' = sweep width t j ls in
      let a = after ls s j (omega arith) in
      let p = pushed ls' j h a.lines in
      let less : Swept t code (notes_of ls) (notes_of (push width t j ls')) j = record {
        within = within_trans code _ _ _ p.within a.swept.within;
        passed = λ l m taken i i' w. ⊑_trans _ _ _ (p.within m i') (a.swept.passed l m taken i i' w);
      } in
      record {
        lines = p.lines;
        swept = swept_next t ordered code (notes_of ls) (notes_of (push width t j ls')) j less
            (λ m taken i w. ⊑_trans _ _ _ (p.inside m taken i w) (passed_mono t ordered code j taken (notes_of ls' j) (notes_of ls j) (a.swept.within j h)));
      }

  length_code : (ls : Lines) → code_of ls ≡ code → length ls ≡ length code
  length_code ls e = sym (length-map ls (λ x. x.instruction)) ∙ ap length e

  settled : (sweeps : ℕ) (ls : Lines) → Search ls → count_in width ls < sweeps → LargestLines t code (settle width t sweeps ls)
  unfolding settle count_in
  settled zero ls s h = absurd (omega arith)
  settled (suc sweeps) ls s h = go (eqb (count_in width next) (count_in width ls)) refl (settled sweeps next a.lines)
    where
      next : Lines
      next = sweep width t (length ls) ls

      a : After ls next (length ls)
      a = after ls s (length ls) (omega (arith, length_code ls s.code_is))

      m : length ls ≡ length code
      m = length_code ls s.code_is

      n : length next ≡ length ls
      n = length_code next a.lines.code_is ∙ sym (length_code ls s.code_is)

      fewer : count_in width next ≤ count_in width ls
      fewer = rw n (count_mono width (length ls) (notes_of next) (notes_of ls) (λ l i. a.swept.within l (omega (arith, length_code ls s.code_is))))

      go : (b : Bool) → eqb (count_in width next) (count_in width ls) ≡ b → (count_in width next < sweeps → LargestLines t code (settle width t sweeps next))
          → LargestLines t code (elim b as (λ x. Lines) [ true ↦ next | false ↦ settle width t sweeps next ])
      go true e ih = record {
        same_code = a.lines.code_is;
        largest = found_end t ordered code (notes_of ls) (notes_of next) a.lines.around
            (subst (λ j. Swept t code (notes_of ls) (notes_of next) j) m a.swept)
            (λ l i f k d. count_same width (length ls) (notes_of next) (notes_of ls) (λ l' i'. a.swept.within l' (omega (arith, m)))
            (rw n at (eqb-true (count_in width next) (count_in width ls) e)) l (omega (arith, m)) f k (slim (notes_of ls) s.around l i f k d) d);
      }
      go false e ih = ih (omega (arith, fewer, eqb-false (count_in width next) (count_in width ls) e))

  started : Search (annotate code (λ l. stored width (start_notes t l)))
  started =
      let N : Notes = λ l. stored width (start_notes t l) in
      let r = around_start t ordered code in
      record {
        code_is = code_annotate code N;
        around = around_same t ordered code (start_notes t) (notes_of (annotate code N))
            (λ l h f k e. rw (notes_annotate code N l h) (stored_in_lem width (start_notes t l) f k (slim (start_notes t) r l h f k e) e))
            (λ l h f k e. stored_out width (start_notes t l) f k (ap (λ F. F f k) (sym (notes_annotate code N l h)) ∙ e)) r;
      }

  pub largest_found : LargestLines t code (search width t code)
  unfolding search
  largest_found = settled (suc (count_in width (annotate code (λ l. stored width (start_notes t l))))) _ started (le_refl _)
