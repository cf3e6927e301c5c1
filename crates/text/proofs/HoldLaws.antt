-- The words at the start of a table (`specs/Stacks.antt`).
--     length_held, holds_here, holds_set, holds_as      n words, and one more
--     holds_after                what was put behind words that the table holds
--     holds_node, holds_implies, holds_since, holds_weak      one more node
--     count_put, count_implies, count_since, count_weak, count_not      how many there are then
--     holds_not                  false, and implies over it
-- Assumes nothing.
use mathlib.Core.Path.{◌≡◌, refl, sym, subst, ap, ◌∙◌}
use mathlib.Core.List.{List, [], ◌∷◌, ◌++◌}
use Prim.Native.Nat.{ℕ, ◌+◌, ◌-◌, ◌≤◌, ◌<◌}
use native.Mathlib.Numerals.{add-one}
use native.Mathlib.Omega.{arith}
use lib.ListN.{length, take, set, length-append, length-set}
use lib.Seq.{take-suc-set, length-take-le}
use Rattle.spec.specs.Rule.{form64, Node, false_node, implies_node, since_node, weak_previous_node, fields_of_node}
use Rattle.grammar.specs.Nodes.{word_of_node}
use Rattle.text.specs.Building.{last_of, put, put_implies, put_since, put_weak, put_not}
use Rattle.text.specs.Stacks.{table_length, Holds}
use Rattle.rule.specs.Nodes.{form_in, word_out}
use Rattle.text.proofs.BuildLaws.{put_length, implies_length, since_length, weak_length, not_length}

pub length_held : (n : ℕ) (table : List ℕ) → n ≤ table_length → length table ≡ table_length → length (take n table) ≡ n
length_held n table h e = length-take-le n table (omega arith)

pub holds_here : (table : List ℕ) (n : ℕ) → n ≤ table_length → length table ≡ table_length → Holds table n (take n table)
holds_here table n h e = record { words = refl; count = sym (length_held n table h e); long = e }

pub holds_set : (table : List ℕ) (n word : ℕ) → n < table_length → length table ≡ table_length → Holds (set table n word) (n + 1) (take n table ++ word ∷ [])
holds_set table n word h e =
    let k : n < length table = omega arith in
    let a = length_held n table (omega arith) e in
    let b = length-append (take n table) (word ∷ []) in
    record {
      words = ap (λ m. take m (set table n word)) (add-one n) ∙ take-suc-set table n word k;
      count = omega arith;
      long = length-set table n word ∙ e;
    }

pub holds_as : {table : List ℕ} {n : ℕ} {ws vs : List ℕ} → ws ≡ vs → Holds table n ws → Holds table n vs
holds_as {table} {n} e h = subst (Holds table n) e h

-- first f, then g behind it
pub holds_after : (g : List ℕ → List ℕ) {middle after : List ℕ} {n r : ℕ} {ws : List ℕ} → Holds middle n ws → Holds after r (g (take n middle)) → Holds after r (g ws)
holds_after g a b = holds_as (ap g a.words) b

-- ---- one more node

-- behind n words, the word of the node x
pub holds_node : (table : List ℕ) (n w : ℕ) (x : Node) → n < table_length → length table ≡ table_length → w ≡ word_out (fields_of_node x)
    → Holds (set table n w) (n + 1) (put form_in x (take n table))
unfolding put word_of_node form64
holds_node table n w x h long e = holds_as (ap (λ v. take n table ++ v ∷ []) e) (holds_set table n w h long)

-- over the last of n nodes
module _ (table after : List ℕ) (n r l right : ℕ) (few : n < table_length) (long : length table ≡ table_length) (e : right ≡ n - 1) where
  last : right ≡ last_of (take n table)
  last = let a = length_held n table (omega arith) long in omega arith

  pub holds_implies : Holds after r (put form_in (implies_node l right) (take n table)) → Holds after r (put_implies form_in l (take n table))
  unfolding put_implies
  holds_implies h = holds_as (ap (λ m. put form_in (implies_node l m) (take n table)) last) h

  pub holds_since : Holds after r (put form_in (since_node l right) (take n table)) → Holds after r (put_since form_in l (take n table))
  unfolding put_since
  holds_since h = holds_as (ap (λ m. put form_in (since_node l m) (take n table)) last) h

  pub holds_weak : Holds after r (put form_in (weak_previous_node right) (take n table)) → Holds after r (put_weak form_in (take n table))
  unfolding put_weak
  holds_weak h = holds_as (ap (λ m. put form_in (weak_previous_node m) (take n table)) last) h

-- ---- how many there are

module _ (table after : List ℕ) (n r : ℕ) (few : n ≤ table_length) (long : length table ≡ table_length) where
  held : length (take n table) ≡ n
  held = length_held n table few long

  pub count_put : (x : Node) → Holds after r (put form_in x (take n table)) → r ≡ n + 1
  count_put x h = let a = h.count in let b = put_length form_in x (take n table) in let c = held in omega arith

  pub count_implies : (l : ℕ) → Holds after r (put_implies form_in l (take n table)) → r ≡ n + 1
  count_implies l h = let a = h.count in let b = implies_length form_in l (take n table) in let c = held in omega arith

  pub count_since : (l : ℕ) → Holds after r (put_since form_in l (take n table)) → r ≡ n + 1
  count_since l h = let a = h.count in let b = since_length form_in l (take n table) in let c = held in omega arith

  pub count_weak : Holds after r (put_weak form_in (take n table)) → r ≡ n + 1
  count_weak h = let a = h.count in let b = weak_length form_in (take n table) in let c = held in omega arith

  pub count_not : Holds after r (put_not form_in (take n table)) → r ≡ n + 2
  count_not h = let a = h.count in let b = not_length form_in (take n table) in let c = held in omega arith

-- ---- not

pub holds_not : (table middle after : List ℕ) (n a r left : ℕ) → n ≤ table_length → length table ≡ table_length → left ≡ n - 1 → Holds middle a (put form_in false_node (take n table))
    → Holds after r (put_implies form_in left (take a middle)) → Holds after r (put_not form_in (take n table))
unfolding put_not
holds_not table middle after n a r left few long e h k =
    let z : left ≡ last_of (take n table) = let y = length_held n table few long in omega arith in
    holds_as (ap (λ l. put_implies form_in l (put form_in false_node (take n table))) z) (holds_after (put_implies form_in left) h k)
