-- Words written at the start of lent memory, and what a function hands back (`specs/Numbers.antt`).
--     at_start            stores one after another from index 0
--     then_registers      the same, and then 16 words that follow
--     room, no_room       a choice by whether n words are lent; words_room, words_no_room the same of the words after it
--     noted, unlent       an answer's number and words, where there is room and where there is not
--     count_noted, count_unlent    the same of one that counts what was written to an output
--     report_number       a report has its run's number
-- Assumes nothing.
use mathlib.Core.Path.{◌≡◌, refl, ap, ◌∙◌}
use mathlib.Core.Bool.{cond}
use mathlib.Core.List.{List, ◌++◌}
use Prim.Native.Nat.{ℕ, ◌+◌, ◌≤◌, ◌<◌}
use native.Mathlib.Nat.{zero-add}
use lib.ListN.{length, take, drop}
use lib.Seq.{sets, sets-eq, take-append_seam, drop-append-add, drop-drop}
use borrow.Author.Tests.{le-leb, lt-leb}
use Rattle.spec.specs.Questions.{Answer, passed, refused}
use Rattle.spec.specs.Machine.{Ended, report_of}
use Rattle.numbers.specs.Numbers.{too_short, room_for, with_words, number_of, result_for, count_words}

pub at_start : (vs lent : List ℕ) → length vs ≤ length lent → sets lent 0 vs ≡ vs ++ drop (length vs) lent
at_start vs lent h =
    let z = zero-add (length vs) in
    sets-eq vs lent 0 (rw z h) ∙ ap (λ (n : ℕ). vs ++ drop n lent) z

pub then_registers : (vs rs lent : List ℕ) → length vs ≤ length lent
    → take (length vs) (sets lent 0 vs) ++ rs ++ drop (length vs + 16) (sets lent 0 vs) ≡ vs ++ rs ++ drop (length vs + 16) lent
then_registers vs rs lent h =
    ap (λ (l : List ℕ). take (length vs) l ++ rs ++ drop (length vs + 16) l) (at_start vs lent h)
    ∙ ap (λ (l : List ℕ). l ++ rs ++ drop (length vs + 16) (vs ++ drop (length vs) lent)) (take-append_seam vs (drop (length vs) lent))
    ∙ ap (λ (l : List ℕ). vs ++ rs ++ l) (drop-append-add vs (drop (length vs) lent) 16 ∙ drop-drop 16 (length vs) lent)

module _ (n : ℕ) (lent : List ℕ) where
  pub room : {A : Type 0} → n ≤ length lent → (x y : A) → x ≡ cond (room_for n lent) x y
  room h x y = rw (le-leb n (length lent) h)

  pub no_room : {A : Type 0} → length lent < n → (x y : A) → y ≡ cond (room_for n lent) x y
  no_room h x y = rw (lt-leb n (length lent) h)

  pub words_room : n ≤ length lent → (ws : List ℕ) → ws ++ drop n lent ≡ with_words n ws lent
  unfolding with_words
  words_room h ws = room h (ws ++ drop n lent) lent

  pub words_no_room : length lent < n → (ws : List ℕ) → lent ≡ with_words n ws lent
  unfolding with_words
  words_no_room h ws = no_room h (ws ++ drop n lent) lent

module _ {A : Type 0} (n : ℕ) (words : Answer A → List ℕ) (lent : List ℕ) where
  pub noted : (a b : Answer A) → a ≡ b → n ≤ length lent → (r : ℕ) → r ≡ number_of a → (after : List ℕ) → after ≡ words a ++ drop n lent
      → (r ≡ result_for n lent b) × (after ≡ with_words n (words b) lent)
  unfolding result_for
  noted a b e h r number after written = (
    number ∙ ap number_of e ∙ room n lent h (number_of b) too_short,
    written ∙ ap (λ (x : Answer A). words x ++ drop n lent) e ∙ words_room n lent h (words b),
  )

  pub unlent : (b : Answer A) → length lent < n → (too_short ≡ result_for n lent b) × (lent ≡ with_words n (words b) lent)
  unfolding result_for
  unlent b h = (no_room n lent h (number_of b) too_short, words_no_room n lent h (words b))

-- an answer that counts what was written to an output
module _ (numbers out after : List ℕ) (x : Answer ℕ) where
  pub count_unlent : length numbers < 2
      → (too_short ≡ result_for 2 numbers x) × ((numbers ≡ with_words 2 (count_words x) numbers) × (out ≡ cond (room_for 2 numbers) after out))
  count_unlent h = let (number, words) = unlent 2 count_words numbers x h in (number, (words, no_room 2 numbers h after out))

  pub count_noted : (a : Answer ℕ) → a ≡ x → (out' : List ℕ) → out' ≡ after → 2 ≤ length numbers → (r : ℕ) → r ≡ number_of a
      → (written : List ℕ) → written ≡ count_words a ++ drop 2 numbers
      → (r ≡ result_for 2 numbers x) × ((written ≡ with_words 2 (count_words x) numbers) × (out' ≡ cond (room_for 2 numbers) after out))
  count_noted a e out' o h r d written w =
      let (number, words) = noted 2 count_words numbers a x e h r d written w in
      (number, (words, o ∙ room 2 numbers h after out))

pub report_number : (a : Answer Ended) → number_of (report_of a).stop ≡ number_of a
report_number (passed e) = refl
report_number (refused q i) = refl
