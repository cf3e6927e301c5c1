-- Words as numbers, each of them: lists of numbers by lists of words.
--     length_each, get_each, set_each, take_each, drop_each
--     word_each                    word k as 64 bits
--     node_each                    the node that it is read as
-- Assumes nothing.
use mathlib.Core.Path.{◌≡◌, refl, sym, ap, ◌∙◌}
use mathlib.Core.Bool.{Bool}
use mathlib.Core.List.{List, [], ◌∷◌, map}
use Prim.Native.Nat.{ℕ, zero, suc, ◌<◌}
use native.Mathlib.Omega.{arith}
use lib.ListN.{length, get_or, set, take, drop, length-map}
use Rattle.rule.specs.Nodes.{wide_word, words_in, node_by, Each}
use Rattle.rule.proofs.EitherLaws.{word_by_lem}

get_map : {A : Type 0} (f : A → ℕ) (ws : List A) (i : ℕ) (d : A) → i < length ws → get_or (map f ws) i 0 ≡ f (get_or ws i d)
get_map f [] i d h = absurd (omega arith)
get_map f (w ∷ ws) zero d h = refl
get_map f (w ∷ ws) (suc i) d h = get_map f ws i d (omega arith)

set_map : {A : Type 0} (f : A → ℕ) (ws : List A) (i : ℕ) (a : A) → map f (set ws i a) ≡ set (map f ws) i (f a)
set_map f [] i a = refl
set_map f (w ∷ ws) zero a = refl
set_map f (w ∷ ws) (suc i) a = ap (◌∷◌ (f w)) (set_map f ws i a)

take_map : {A : Type 0} (f : A → ℕ) (n : ℕ) (ws : List A) → map f (take n ws) ≡ take n (map f ws)
take_map f zero ws = refl
take_map f (suc n) [] = refl
take_map f (suc n) (w ∷ ws) = ap (◌∷◌ (f w)) (take_map f n ws)

drop_map : {A : Type 0} (f : A → ℕ) (n : ℕ) (ws : List A) → map f (drop n ws) ≡ drop n (map f ws)
drop_map f zero ws = refl
drop_map f (suc n) [] = refl
drop_map f (suc n) (w ∷ ws) = drop_map f n ws

module _ {A : Type 0} {number : A → ℕ} {numbers : List A → List ℕ} (each : Each number numbers) (ws : List A) where
  pub length_each : length (numbers ws) ≡ length ws
  length_each = ap length (each ws) ∙ length-map ws number

  pub get_each : (i : ℕ) (d : A) → i < length ws → get_or (numbers ws) i 0 ≡ number (get_or ws i d)
  get_each i d h = ap (λ ns. get_or ns i 0) (each ws) ∙ get_map number ws i d h

  pub set_each : (i : ℕ) (a : A) → numbers (set ws i a) ≡ set (numbers ws) i (number a)
  set_each i a = each (set ws i a) ∙ set_map number ws i a ∙ ap (λ ns. set ns i (number a)) (sym (each ws))

  pub take_each : (n : ℕ) → numbers (take n ws) ≡ take n (numbers ws)
  take_each n = each (take n ws) ∙ take_map number n ws ∙ ap (take n) (sym (each ws))

  pub drop_each : (n : ℕ) → numbers (drop n ws) ≡ drop n (numbers ws)
  drop_each n = each (drop n ws) ∙ drop_map number n ws ∙ ap (drop n) (sym (each ws))

  pub word_each : (b : Bool) (k : ℕ) (w : A) (v : ℕ) → k < length ws → w ≡ get_or ws k w → v ≡ wide_word b (number w) → v ≡ get_or (words_in b (numbers ws)) k 0
  word_each b k w v h is e =
      e ∙ ap (λ x. wide_word b (number x)) is ∙ ap (wide_word b) (sym (get_each k w h)) ∙ sym (word_by_lem b (numbers ws) k)

  module _ (b : Bool) (k : ℕ) (w : A) (v : ℕ) (h : k < length ws) (is : w ≡ get_or ws k w) (e : v ≡ wide_word b (number w)) (wide : Bool) (same : wide ≡ b) where
    pub node_each : node_by wide v ≡ node_by b (get_or (words_in b (numbers ws)) k 0)
    node_each = ap (λ x. node_by x v) same ∙ ap (node_by b) (word_each b k w v h is e)
