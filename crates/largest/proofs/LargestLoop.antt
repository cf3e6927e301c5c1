-- What a program needs that finds the largest notes in place, with a flag for each line whose notes changed since it was last
-- pushed. On plain values; with `around_start`, `around_cut` and `Cut` of `LargestLaws`.
--     Lowered                         every flag that is down: the line is the one pushed or had none, and kept its notes
--     flagged_start, flagged_next, flagged_end
--     found_same, found_lines_lem         the notes at the end are those of `search`, and so are the lines written
--     count_as                        the same facts count the same
--     length_annotate, line_annotate  the lines written
-- Assumes nothing.
use mathlib.Core.Path.{◌≡◌, refl, sym, ap, ◌∙◌}
use mathlib.Core.Logic.{◌⊎◌, inl, inr}
use mathlib.Core.Bool.{Bool, true, false}
use mathlib.Core.Option.{some}
use mathlib.Core.List.{[], ◌∷◌}
use Prim.Native.Nat.{ℕ, zero, suc, ◌≤◌, ◌<◌}
use native.Mathlib.Omega.{arith}
use lib.ListN.{length, length-map}
use lib.Seq.{ext_get_or}
use Rattle.spec.specs.Rule.{Table}
use Rattle.spec.specs.Script.{Instruction, Code, instruction_at}
use Rattle.spec.specs.Facts.{Fact, Facts, ◌⊑◌}
use Rattle.spec.specs.Check.{Line, Lines, line_at, code_of}
use Rattle.largest.specs.Notes.{Notes, notes_of, follower_of, passed_at, NotesWithin, LargestNotes, Around, Flagged}
use Rattle.largest.specs.Largest.{count_facts, annotate, search}
use Rattle.spec.proofs.BoolLaws.{clash}
use Rattle.spec.proofs.RuleLaws.{InOrder}
use Rattle.spec.proofs.FactLaws.{⊑_trans}
use Rattle.spec.proofs.PlaceLaws.{no_line, instruction_at_lem}
use Rattle.largest.proofs.CountLaws.{count_mono}
use Rattle.largest.proofs.LargestLaws.{passed_mono, largest_unique}
use Rattle.largest.proofs.LargestFound.{largest_found}

-- every flag that is down: the line is the one pushed or had none, and kept its notes
pub record Lowered (code : Code) (flag flag' : ℕ → Bool) (N N' : Notes) (l : ℕ) : Type 0 where
  pub same : (j : ℕ) → j < length code → flag' j ≡ false → N j ⊑ N' j
  pub down : (j : ℕ) → j < length code → flag' j ≡ false → (j ≡ l) ⊎ (flag j ≡ false)

pub length_annotate : (code : Code) (N : Notes) → length (annotate code N) ≡ length code
unfolding annotate
length_annotate [] N = refl
length_annotate (i ∷ code) N = ap suc (length_annotate code (λ l. N (suc l)))

pub line_annotate : (code : Code) (N : Notes) (l : ℕ) → l < length code → line_at (annotate code N) l ≡ record { instruction = instruction_at code l; annotation = N l }
unfolding annotate
line_annotate [] N l h = absurd (omega arith)
line_annotate (i ∷ code) N zero h = refl
line_annotate (i ∷ code) N (suc l) h = line_annotate code (λ m. N (suc m)) l (omega arith)

line_is : (i : Instruction) (x : Line) (F : Facts) → i ≡ x.instruction → ((f : Fact) (k : ℕ) → F f k ≡ x.annotation f k) → record { instruction = i; annotation = F } ≡ x
line_is i x F a b = λ j. record { instruction = a j; annotation = λ f k. b f k j }

-- lines with the same instructions and the same notes
pub lines_same : (ls ls' : Lines) → code_of ls ≡ code_of ls' → ((l : ℕ) (f : Fact) (k : ℕ) → notes_of ls l f k ≡ notes_of ls' l f k) → ls ≡ ls'
lines_same ls ls' same notes =
    let n : length ls ≡ length ls' = sym (length-map ls (λ x. x.instruction)) ∙ ap length same ∙ length-map ls' (λ x. x.instruction) in
    ext_get_or no_line ls ls' n (λ l h.
    line_is (line_at ls l).instruction (line_at ls' l) (notes_of ls l)
    (sym (instruction_at_lem ls l _ refl) ∙ ap (λ c. instruction_at c l) same ∙ instruction_at_lem ls' l _ refl) (notes l))

module _ (t : Table) (ordered : InOrder t) (code : Code) where
  pub flagged_start : (flag : ℕ → Bool) (N : Notes) → ((l : ℕ) → l < length code → flag l ≡ true) → Flagged t code flag N
  flagged_start flag N h = record { passed = λ l m taken i i' d. clash (h l i) d }

  -- line l was pushed: its followers keep what it passes on
  pub flagged_next : (flag flag' : ℕ → Bool) (N N' : Notes) (l : ℕ) → Flagged t code flag N → NotesWithin code N' N
      → ((m : ℕ) (taken : Bool) → m < length code → follower_of l (instruction_at code l) taken ≡ some m → N' m ⊑ passed_at t code l taken (N l))
      → Lowered code flag flag' N N' l → Flagged t code flag' N'
  flagged_next flag flag' N N' l a w p d = record { passed = go }
    where
      go : (j m : ℕ) (taken : Bool) → j < length code → m < length code → flag' j ≡ false → follower_of j (instruction_at code j) taken ≡ some m
          → N' m ⊑ passed_at t code j taken (N' j)
      go j m taken h h' e v =
          ⊑_trans (N' m) (passed_at t code j taken (N j)) (passed_at t code j taken (N' j))
          (elim (d.down j h e) [
            | inl z ↦ rw z (p m taken h' (rw z at v))
            | inr u ↦ ⊑_trans (N' m) (N m) _ (w m h') (a.passed j m taken h h' u v)
          ])
          (passed_mono t ordered code j taken (N j) (N' j) (d.same j h e))

  pub flagged_end : (flag : ℕ → Bool) (N : Notes) → Around t code N → Flagged t code flag N → ((l : ℕ) → l < length code → flag l ≡ false) → LargestNotes t code N
  flagged_end flag N r a h = record {
    obeys = record { belong = r.belong; first = r.first; passes = λ l m taken i i' w. a.passed l m taken i i' (h l i) w };
    holds_all = r.holds_all;
  }

  pub found_same : (width : ℕ) → length t ≤ width → (N : Notes) → LargestNotes t code N → (l : ℕ) → l < length code → (f : Fact) (k : ℕ)
      → N l f k ≡ notes_of (search width t code) l f k
  found_same width few N a = largest_unique t ordered code N (notes_of (search width t code)) a (largest_found width t ordered few code).largest

  -- so are the lines written
  pub found_lines_lem : (width : ℕ) → length t ≤ width → (N : Notes) → LargestNotes t code N → annotate code N ≡ search width t code
  found_lines_lem width few N a =
      let ls = search width t code in
      let same = (largest_found width t ordered few code).same_code in
      let n : length ls ≡ length code = sym (length-map ls (λ x. x.instruction)) ∙ ap length same in
      ext_get_or no_line (annotate code N) ls (length_annotate code N ∙ sym n) (λ l h.
      let h' : l < length code = omega (arith, length_annotate code N) in
      line_annotate code N l h' ∙ line_is (instruction_at code l) (line_at ls l) (N l)
      (sym (ap (λ c. instruction_at c l) same) ∙ instruction_at_lem ls l _ refl)
      (found_same width few N a l h'))

-- the same facts count the same
pub count_as : (width n : ℕ) (N N' : Notes) → ((l : ℕ) → l < n → (f : Fact) (k : ℕ) → N l f k ≡ N' l f k) → count_facts width n N ≡ count_facts width n N'
count_as width n N N' h =
    omega (arith, count_mono width n N N' (λ l i f k e. sym (h l i f k) ∙ e), count_mono width n N' N (λ l i f k e. h l i f k ∙ e))
