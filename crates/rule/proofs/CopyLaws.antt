-- A loop that writes f of each word of a list to the start of an output.
--     Copied, copied_start, copied_next, copied_room, copied_end     the first k words are there
--     first_words                                                    the part of the output that was written
-- Assumes nothing.
use mathlib.Core.Path.{◌≡◌, refl, ap, ap₂, ◌∙◌}
use mathlib.Core.List.{List, [], ◌∷◌, ◌++◌, map}
use Prim.Native.Nat.{ℕ, zero, suc, ◌+◌, ◌≤◌, ◌<◌}
use native.Mathlib.Numerals.{add-one}
use native.Mathlib.Omega.{arith}
use lib.ListN.{length, get_or, take, drop, set, length-map, length-set}
use lib.Seq.{take_all, take_at}

copy_suc : (f : ℕ → ℕ) (ws o : List ℕ) (k : ℕ) → k < length ws → length ws ≤ length o
    → set (map f (take k ws) ++ drop k o) k (f (get_or ws k 0)) ≡ map f (take (suc k) ws) ++ drop (suc k) o
copy_suc f [] o k l h = absurd (omega arith)
copy_suc f (w ∷ ws) [] k l h = absurd (omega arith)
copy_suc f (w ∷ ws) (x ∷ o) zero l h = refl
copy_suc f (w ∷ ws) (x ∷ o) (suc k) l h = ap (λ t. f w ∷ t) (copy_suc f ws o k (omega arith) (omega arith))

pub record Copied (f : ℕ → ℕ) (ws o : List ℕ) (k : ℕ) (out : List ℕ) : Type 0 where
  pub below : k ≤ length ws
  pub same_size : length out ≡ length o
  pub is : out ≡ map f (take k ws) ++ drop k o

module _ (f : ℕ → ℕ) (ws o : List ℕ) where
  pub copied_start : Copied f ws o 0 o
  copied_start = record { below = omega arith; same_size = refl; is = refl }

  pub copied_next : (k : ℕ) (out : List ℕ) (v : ℕ) → length ws ≤ length o → k < length ws → v ≡ f (get_or ws k 0) → Copied f ws o k out
      → Copied f ws o (k + 1) (set out k v)
  copied_next k out v h l e c = record {
    below = omega arith;
    same_size = length-set out k v ∙ c.same_size;
    is = rw (add-one k) (ap₂ (λ x y. set x k y) c.is e ∙ copy_suc f ws o k l h);
  }

  pub copied_room : (k : ℕ) (out : List ℕ) → length ws ≤ length o → k < length ws → Copied f ws o k out → k < length out
  copied_room k out h l c = let e = c.same_size in omega arith

  pub copied_end : (k : ℕ) (out : List ℕ) → length ws ≤ k → Copied f ws o k out → out ≡ map f ws ++ drop (length ws) o
  copied_end k out h c =
      let b = c.below in
      let e : k ≡ length ws = omega arith in
      c.is ∙ ap₂ (λ x y. map f x ++ drop y o) (take_all k ws h) e

  pub first_words : (out : List ℕ) → out ≡ map f ws ++ drop (length ws) o → take (length ws) out ≡ map f ws
  first_words out e = ap (take (length ws)) e ∙ take_at (map f ws) (drop (length ws) o) (length ws) (length-map ws f)
