-- The laws of `specs/Written.antt`.
--     added_as, added_none, added_one           an equal text; nothing; a store
--     added_then, added_byte                    one text after another; a store after a text
--     added_length                              the output's length stays
--     bytes_start, bytes_next, bytes_end        the bytes of a text, one after another
--     filled_as, filled_is, filled_then, filled_room, filled_last    texts of at most so many bytes, and the space that is left
--     at_start, loaded, front_is, front_length    a text put at 0, and the front of the output
--     each_start, each_next, each_same          texts of 0, 1, 2 and so on
-- Assumes nothing.
use mathlib.Core.Path.{◌≡◌, refl, sym, ap, subst, ◌∙◌}
use mathlib.Core.List.{List, [], ◌∷◌, ◌++◌, append_assoc, append-nil}
use Prim.Native.Nat.{ℕ, zero, suc, ◌+◌, ◌*◌, ◌≤◌, ◌<◌}
use native.Mathlib.Omega.{arith}
use lib.ListN.{length, get_or, take, drop, set, length-append, length-drop, take-append-drop}
use lib.Seq.{length-take-le, drop-drop, drop-append-add, take_at, take_all, take-suc, set_split}
use Rattle.print.specs.Written.{Added, Filled, each_of}

pub added_as : (a b : List ℕ) (at end : ℕ) (o o1 : List ℕ) → a ≡ b → Added a at end o o1 → Added b at end o o1
added_as a b at end o o1 e x = subst (λ t. Added t at end o o1) e x

pub added_one : (x at : ℕ) (o : List ℕ) → at < length o → Added (x ∷ []) at (at + 1) o (set o at x)
added_one x at o h =
    let e : suc at ≡ at + 1 = omega arith in
    record {
      ends = refl;
      holds =
          set_split o at x h
          ∙ ap (λ i. take at o ++ x ∷ drop i o) e
          ∙ sym (append_assoc (take at o) (x ∷ []) (drop (at + 1) o));
    }

module _ (a : List ℕ) (at end : ℕ) (o o1 : List ℕ) (room : at + length a ≤ length o) (x : Added a at end o o1) where
  -- what stands up to the end of the text
  head_length : length (take at o ++ a) ≡ end
  head_length = length-append (take at o) a ∙ ap (λ n. n + length a) (length-take-le at o (omega arith)) ∙ sym x.ends

  pub added_length : length o1 ≡ length o
  added_length =
      let h = head_length in
      let d = length-drop (at + length a) o in
      ap length x.holds ∙ length-append (take at o ++ a) (drop (at + length a) o) ∙ omega arith

  head : take end o1 ≡ take at o ++ a
  head = ap (λ l. take end l) x.holds ∙ take_at (take at o ++ a) (drop (at + length a) o) end head_length

  rest : (n : ℕ) → drop (end + n) o1 ≡ drop (at + length a + n) o
  rest n =
      ap (λ l. drop (end + n) l) x.holds
      ∙ ap (λ m. drop (m + n) (take at o ++ a ++ drop (at + length a) o)) (sym head_length)
      ∙ drop-append-add (take at o ++ a) (drop (at + length a) o) n
      ∙ drop-drop n (at + length a) o

  pub added_then : (b : List ℕ) (end2 : ℕ) (o2 : List ℕ) → Added b end end2 o1 o2 → Added (a ++ b) at end2 o o2
  added_then b end2 o2 y =
      let l = length-append a b in
      let s : end2 ≡ at + length (a ++ b) = y.ends ∙ ap (λ n. n + length b) x.ends ∙ omega arith in
      let p : at + length a + length b ≡ at + length (a ++ b) = omega arith in
      record {
        ends = s;
        holds =
            y.holds
            ∙ ap (λ t. t ++ b ++ drop (end + length b) o1) head
            ∙ ap (λ t. take at o ++ a ++ b ++ t) (rest (length b) ∙ ap (λ n. drop n o) p)
            ∙ ap (λ t. t ++ drop (at + length (a ++ b)) o) (append_assoc (take at o) a b);
      }

-- a byte after others
pub added_byte : (a : List ℕ) (at k x : ℕ) (o o1 : List ℕ) → at + length a < length o → Added a at k o o1
    → Added (a ++ (x ∷ [])) at (k + 1) o (set o1 k x)
added_byte a at k x o o1 room y =
    let l = added_length a at k o o1 (omega arith) y in
    let s = y.ends in
    added_then a at k o o1 (omega arith) y (x ∷ []) (k + 1) (set o1 k x) (added_one x k o1 (omega arith))

pub added_none : (at : ℕ) (o : List ℕ) → Added [] at at o o
added_none at o =
    let e : at ≡ at + 0 = omega arith in
    record {
      ends = e;
      holds =
          sym (take-append-drop at o)
          ∙ ap (λ l. l ++ drop at o) (sym (append-nil (take at o)))
          ∙ ap (λ i. take at o ++ [] ++ drop i o) e;
    }

-- the bytes of a text, one after another
module _ (text : List ℕ) (at : ℕ) (o : List ℕ) (room : at + length text ≤ length o) where
  pub bytes_start : Added (take 0 text) at (at + 0) o o
  bytes_start = let e : at ≡ at + 0 = omega arith in subst (λ n. Added [] at n o o) e (added_none at o)

  pub bytes_next : (i : ℕ) (o1 : List ℕ) → i < length text → Added (take i text) at (at + i) o o1
      → Added (take (i + 1) text) at (at + (i + 1)) o (set o1 (at + i) (get_or text i 0))
  bytes_next i o1 h x =
      let t = length-take-le i text (omega arith) in
      let l = added_length (take i text) at (at + i) o o1 (omega arith) x in
      let e : suc i ≡ i + 1 = omega arith in
      let p : at + i + 1 ≡ at + (i + 1) = omega arith in
      let y = added_then (take i text) at (at + i) o o1 (omega arith) x (get_or text i 0 ∷ []) (at + i + 1) (set o1 (at + i) (get_or text i 0))
      (added_one (get_or text i 0) (at + i) o1 (omega arith)) in
      subst (λ n. Added (take (i + 1) text) at n o (set o1 (at + i) (get_or text i 0))) p
      (added_as (take i text ++ (get_or text i 0 ∷ [])) (take (i + 1) text) at (at + i + 1) o (set o1 (at + i) (get_or text i 0))
      (sym (take-suc text i 0 h) ∙ ap (λ n. take n text) e) y)

  pub bytes_end : (i : ℕ) (o1 : List ℕ) → length text ≤ i → Added (take i text) at (at + i) o o1 → Added text at (at + i) o o1
  bytes_end i o1 h x = added_as (take i text) text at (at + i) o o1 (take_all i text h) x

pub filled_as : (j : ℕ) {a : List ℕ} {at end : ℕ} {o o1 : List ℕ} → length a ≤ j → Added a at end o o1 → Filled j a at end o o1
filled_as j h x = record { added = x; short = h }

pub filled_is : {j : ℕ} {a b : List ℕ} {at end : ℕ} {o o1 : List ℕ} → a ≡ b → Filled j a at end o o1 → Filled j b at end o o1
filled_is {j} {a} {b} {at} {end} {o} {o1} e x = subst (λ t. Filled j t at end o o1) e x

pub filled_then : {j k : ℕ} {a b : List ℕ} {at end end2 : ℕ} {o o1 o2 : List ℕ} → at + (j + k) ≤ length o
    → Filled j a at end o o1 → Filled k b end end2 o1 o2 → Filled (j + k) (a ++ b) at end2 o o2
filled_then {j} {k} {a} {b} {at} {end} {end2} {o} {o1} {o2} room x y =
    let s = x.short in
    let t = y.short in
    record { added = added_then a at end o o1 (omega arith) x.added b end2 o2 y.added; short = rw (length-append a b) (omega arith) }

pub filled_room : (k : ℕ) {j : ℕ} {a : List ℕ} {at end : ℕ} {o o1 : List ℕ} → at + (j + k) ≤ length o → Filled j a at end o o1
    → end + k ≤ length o1
filled_room k {j} {a} {at} {end} {o} {o1} room x =
    let s = x.short in
    let e = x.added.ends in
    let l = added_length a at end o o1 (omega arith) x.added in
    omega arith

-- the last text of several
pub filled_last : {j : ℕ} {a b : List ℕ} {at end end2 : ℕ} {o o1 o2 : List ℕ} → at + j ≤ length o → Filled j a at end o o1
    → Added b end end2 o1 o2 → Added (a ++ b) at end2 o o2
filled_last {j} {a} {b} {at} {end} {end2} {o} {o1} {o2} room x y =
    let s = x.short in
    added_then a at end o o1 (omega arith) x.added b end2 o2 y

-- ---- texts of 0, 1, 2 and so on, each of at most w bytes

module _ (f : ℕ → List ℕ) (w at : ℕ) (o : List ℕ) where
  pub each_start : Filled (w * 0) (each_of f 0) at at o o
  unfolding each_of
  each_start = record { added = added_none at o; short = omega arith }

  pub each_next : (l end end2 : ℕ) (o1 o2 : List ℕ) → at + w * (l + 1) ≤ length o → Filled (w * l) (each_of f l) at end o o1
      → Filled w (f l) end end2 o1 o2 → Filled (w * (l + 1)) (each_of f (l + 1)) at end2 o o2
  unfolding each_of
  each_next l end end2 o1 o2 room x y =
      let e : suc l ≡ l + 1 = omega arith in
      let j : w * l + w ≡ w * (l + 1) = omega arith in
      let z : Filled (w * l + w) (each_of f (suc l)) at end2 o o2 = filled_then (omega arith) x y in
      subst (λ n. Filled n (each_of f (l + 1)) at end2 o o2) j (subst (λ n. Filled (w * l + w) (each_of f n) at end2 o o2) e z)

pub each_same : (f g : ℕ → List ℕ) (n : ℕ) → ((l : ℕ) → l < n → f l ≡ g l) → each_of f n ≡ each_of g n
unfolding each_of
each_same f g zero h = refl
each_same f g (suc n) h = ap (λ t. t ++ f n) (each_same f g n (λ l k. h l (omega arith))) ∙ ap (λ t. each_of g n ++ t) (h n (omega arith))

-- ---- a text put at 0

pub at_start : (a b : List ℕ) (end : ℕ) (o o1 : List ℕ) → a ≡ b → Added a 0 end o o1 → (end ≡ length b) × (o1 ≡ b ++ drop end o)
at_start a b end o o1 e x =
    let s : end ≡ length a = x.ends ∙ omega arith in
    let d : 0 + length a ≡ end = omega arith in
    (s ∙ ap length e, x.holds ∙ ap (λ n. a ++ drop n o) d ∙ ap (λ t. t ++ drop end o) e)

module _ (ws : List ℕ) (n : ℕ) (o o1 : List ℕ) (x : Added ws 0 n o o1) where
  pub loaded : n ≡ length ws
  loaded = x.ends ∙ omega arith

  pub front_is : take n o1 ≡ ws
  front_is = ap (λ l. take n l) x.holds ∙ take_at ws (drop (0 + length ws) o) n (sym loaded)

  pub front_length : n ≡ length (take n o1)
  front_length = loaded ∙ ap length (sym front_is)
