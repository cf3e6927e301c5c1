-- Lines written into the output of either stored form.
--     set_read, set_word, first_word    a word of a stored line, read and written
--     words_append, stored_line_lem, length_stored    the words of lines
--     written_then, written_none        lines, and more lines after them
--     one_line, two_lines               a line and two lines by their words
--     written_as                        the same lines
-- Assumes nothing.
use mathlib.Core.Path.{◌≡◌, refl, sym, ap, ap₂, ◌∙◌}
use mathlib.Core.Bool.{Bool, true, false}
use mathlib.Core.List.{List, [], ◌∷◌, ◌++◌, append_assoc, append-nil}
use Prim.Native.Nat.{ℕ, ◌+◌, ◌*◌, ◌^◌, ◌≤◌, ◌<◌}
use native.Mathlib.Omega.{arith}
use lib.ListN.{length, get_or, get_or-map}
use lib.Pow.{shl-shr}
use Rattle.spec.specs.Rule.{Form, form32, form64}
use Rattle.spec.specs.Script.{Instruction, word_for}
use Rattle.spec.specs.Facts.{Facts}
use Rattle.spec.specs.Check.{Lines, line_words, words_of}
use Rattle.spec.specs.Weaver.{line}
use Rattle.spec.proofs.StoredLaws.{length_words}
use Rattle.moves.specs.Moves.{widen_word}
use Rattle.sets.specs.Sets.{set_of}
use Rattle.sets.proofs.WordLaws.{word_up, word_down, word_whole}
use Rattle.rule.specs.Nodes.{form_by, words_in, word_by, over_at}
use Rattle.rule.proofs.PutLaws.{over_then, at_none}
use Rattle.facts.specs.Written.{nodes_read, set_stored, stored_line, Written}

-- ---- a word of a stored line

pub set_read : (b : Bool) (script : List ℕ) (i : ℕ) → set_of (get_or (words_in b script) i 0) ≡ nodes_read b (get_or script i 0)
unfolding form32 form64
set_read true script i = refl
set_read false script i = ap set_of (get_or-map widen_word script i 0) ∙ word_up (get_or script i 0)

pub set_word : (b : Bool) (s : ℕ) → s < 2 ^ 64 → word_by b s ≡ set_stored b s
unfolding form32 form64
set_word true s h = word_whole s h
set_word false s h = word_down s h

pub first_word : (b : Bool) (w : ℕ) → word_by b (widen_word w) ≡ (form_by b).store_first w
unfolding form32 form64
first_word true w = refl
first_word false w = shl-shr w 32

-- ---- the words of lines

pub words_append : (form : Form) (ls ms : Lines) → words_of form (ls ++ ms) ≡ words_of form ls ++ words_of form ms
unfolding words_of
words_append form [] ms = refl
words_append form (x ∷ ls) ms =
    ap (λ ws. line_words form x ++ ws) (words_append form ls ms) ∙ sym (append_assoc (line_words form x) (words_of form ls) (words_of form ms))

pub stored_line_lem : (b : Bool) (w : ℕ) (i : Instruction) (F : Facts) → w ≡ word_for i → stored_line b w F ≡ words_of (form_by b) (line i F ∷ [])
unfolding stored_line words_of line_words
stored_line_lem b w i F e = ap (λ v. stored_line b v F) e ∙ sym (append-nil (stored_line b (word_for i) F))

pub length_stored : (b : Bool) (w : ℕ) (F : Facts) → length (stored_line b w F) ≡ 8
unfolding stored_line
length_stored b w F = refl

-- ---- lines written

pub written_then : (b : Bool) (p q : ℕ) (ls ms : Lines) (o o₁ o₂ : List ℕ) → q ≡ p + length ls → 8 * q ≤ length o
    → Written b p ls o o₁ → Written b q ms o₁ o₂ → Written b p (ls ++ ms) o o₂
written_then b p q ls ms o o₁ o₂ e room f g =
    let form = form_by b in
    let wa = length_words form ls in
    let eq : 8 * q ≡ 8 * p + length (words_of form ls) = omega arith in
    let room' : 8 * p + length (words_of form ls) ≤ length o = omega arith in
    rw (words_append form ls ms) (over_then (8 * p) (8 * q) (words_of form ls) (words_of form ms) o o₁ o₂ eq room' f g)

pub written_none : (b : Bool) (p : ℕ) (o : List ℕ) → Written b p [] o o
unfolding words_of
written_none b p o = sym (at_none (8 * p) o)

pub written_as : (b : Bool) (p : ℕ) (ls ms : Lines) (o o' : List ℕ) → ls ≡ ms → Written b p ls o o' → Written b p ms o o'
written_as b p ls ms o o' e h = h ∙ ap (λ (x : Lines). over_at (8 * p) (words_of (form_by b) x) o) e

-- a line by its word, its facts known by another name
pub one_line : (b : Bool) (p : ℕ) (o o' : List ℕ) (v : ℕ) (i : Instruction) (F G : Facts) → v ≡ word_for i → G ≡ F
    → o' ≡ over_at (8 * p) (stored_line b v G) o → Written b p (line i F ∷ []) o o'
one_line b p o o' v i F G e d h =
    h ∙ ap (λ ws. over_at (8 * p) ws o) (ap (stored_line b v) d ∙ stored_line_lem b v i F e)

pub two_lines : (b : Bool) (p : ℕ) (o o' : List ℕ) (u v : ℕ) (i j : Instruction) (F G F' G' : Facts) → u ≡ word_for i → F' ≡ F → v ≡ word_for j → G' ≡ G
    → o' ≡ over_at (8 * p) (stored_line b u F' ++ stored_line b v G') o → Written b p (line i F ∷ line j G ∷ []) o o'
two_lines b p o o' u v i j F G F' G' eu eF ev eG h =
    h ∙ ap (λ ws. over_at (8 * p) ws o)
    (ap₂ ◌++◌ (ap (stored_line b u) eF ∙ stored_line_lem b u i F eu) (ap (stored_line b v) eG ∙ stored_line_lem b v j G ev)
    ∙ sym (words_append (form_by b) (line i F ∷ []) (line j G ∷ [])))
