-- The text as a terminal shows it, and the mark (`specs/Compiled.antt`).
--     shown, shown_start, shown_next, shown_end      the bytes shown, one after another
--     shown_few, shown_all                           the part that is shown
--     indent_length, indent_text                     the spaces before the mark
-- Assumes nothing.
use mathlib.Core.Path.{◌≡◌, refl, sym, ap, subst, ◌∙◌}
use mathlib.Core.Logic.{◌⊎◌, inl, inr}
use mathlib.Core.List.{List, [], ◌∷◌, ◌++◌, map}
use Prim.Native.Nat.{ℕ, min, zero, suc, ◌+◌, ◌-◌, ◌≤◌, ◌<◌}
use native.Mathlib.Nat.{min-le_left}
use native.Mathlib.Omega.{arith}
use lib.ListN.{length, get_or, take, drop, set, replicate, length-take, length-drop, length-map}
use lib.Seq.{length-take-le, get_or-take, get_or-drop, take_all}
use Rattle.spec.proofs.BoolLaws.{le_or_lt}
use Rattle.print.specs.Written.{Added}
use Rattle.print.proofs.AddedLaws.{bytes_start, bytes_next, bytes_end}
use Rattle.report.specs.Compiled.{visible, shown_from, shown_text, pointer_text}

get_d_map : (f : ℕ → ℕ) (l : List ℕ) (i : ℕ) → i < length l → get_or (map f l) i 0 ≡ f (get_or l i 0)
get_d_map f [] i h = absurd (omega arith)
get_d_map f (x ∷ l) zero h = refl
get_d_map f (x ∷ l) (suc i) h = get_d_map f l i (omega arith)

abbrev pub shown : List ℕ → (from n : ℕ) → List ℕ
shown text from n = map visible (take n (drop from text))

module _ (text : List ℕ) (from n : ℕ) (inside : n ≤ length text - from) (at : ℕ) (o : List ℕ) (room : at + n ≤ length o) where
  part_length : length (take n (drop from text)) ≡ n
  part_length = let d = length-drop from text in length-take-le n (drop from text) (omega arith)

  shown_length : length (shown text from n) ≡ n
  shown_length = length-map (take n (drop from text)) visible ∙ part_length

  shown_room : at + length (shown text from n) ≤ length o
  shown_room = let l = shown_length in omega arith

  shown_at : (i : ℕ) → i < n → get_or (shown text from n) i 0 ≡ visible (get_or text (from + i) 0)
  shown_at i h =
      let l = part_length in
      get_d_map visible (take n (drop from text)) i (omega arith) ∙ ap visible (get_or-take n (drop from text) i 0 h ∙ get_or-drop from text i 0)

  pub shown_start : Added (take 0 (shown text from n)) at (at + 0) o o
  shown_start = bytes_start (shown text from n) at o shown_room

  pub shown_next : (i b : ℕ) (o1 : List ℕ) → i < n → b ≡ visible (get_or text (from + i) 0) → Added (take i (shown text from n)) at (at + i) o o1
      → Added (take (i + 1) (shown text from n)) at (at + (i + 1)) o (set o1 (at + i) b)
  shown_next i b o1 h e x =
      let l = shown_length in
      subst (λ y. Added (take (i + 1) (shown text from n)) at (at + (i + 1)) o (set o1 (at + i) y)) (shown_at i h ∙ sym e)
      (bytes_next (shown text from n) at o shown_room i o1 (omega arith) x)

  pub shown_end : (i : ℕ) (o1 : List ℕ) → i ≡ n → Added (take i (shown text from n)) at (at + i) o o1 → Added (shown text from n) at (at + n) o o1
  shown_end i o1 e x =
      let l = shown_length in
      subst (λ m. Added (shown text from n) at (at + m) o o1) e (bytes_end (shown text from n) at o shown_room i o1 (omega arith) x)

-- the part that is shown
pub shown_few : (text : List ℕ) (from n : ℕ) → length (shown text from n) ≤ n
shown_few text from n =
    let l = length-map (take n (drop from text)) visible in
    let m = length-take n (drop from text) in
    let d = min-le_left n (length (drop from text)) in
    omega arith

pub shown_all : (text : List ℕ) (place from n : ℕ) → from ≡ shown_from place → n ≡ min (length text - from) 72
    → shown text from n ++ (10 ∷ []) ≡ shown_text text place
unfolding shown_text
shown_all text place from n e few =
    ap (λ l. map visible l ++ (10 ∷ [])) (cut (le_or_lt 72 n)) ∙ ap (λ m. map visible (take 72 (drop m text)) ++ (10 ∷ [])) e
  where
    cut : (72 ≤ n) ⊎ (n < 72) → take n (drop from text) ≡ take 72 (drop from text)
    cut (inl h) = let z : n ≡ 72 = omega arith in ap (λ m. take m (drop from text)) z
    cut (inr h) =
        let d = length-drop from text in
        take_all n (drop from text) (omega arith) ∙ sym (take_all 72 (drop from text) (omega arith))

-- ---- the spaces before the mark

indent : (n m x : ℕ) → n ≤ m → take n (replicate m x) ≡ replicate n x
indent zero m x h = refl
indent (suc n) zero x h = absurd (omega arith)
indent (suc n) (suc m) x h = ap (λ l. x ∷ l) (indent n m x (omega arith))

abbrev pub spaces : List ℕ
spaces = replicate 60 32

module _ (place from : ℕ) (e : from ≡ shown_from place) where
  pub indent_length : length (take (place - from) spaces) ≡ place - from
  indent_length = length-take-le (place - from) spaces (omega arith)

  pub indent_text : take (place - from) spaces ++ (94 ∷ 10 ∷ []) ≡ pointer_text place
  unfolding pointer_text
  indent_text =
      ap (λ l. l ++ (94 ∷ 10 ∷ [])) (indent (place - from) 60 32 (omega arith))
      ∙ ap (λ m. replicate (place - m) 32 ++ (94 ∷ 10 ∷ [])) e
