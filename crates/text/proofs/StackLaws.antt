-- The words that wait for an operand (`specs/Stacks.antt`).
--     stack_length_lem, stack_pushed      as they lie in an array
--     begins_alike                     words that put no node where they are read
--     weight, read_weight              nodes put and nodes owed: a token adds its cost
--     entries_owed                     each owes one at least, so that the array is long enough
--     read_small                       nodes to the left stay nodes of the table
-- Assumes nothing.
use mathlib.Core.Path.{◌≡◌, refl, ap, ap₂}
use mathlib.Core.Logic.{◌≢◌}
use mathlib.Core.Bool.{Bool, true, false, cond}
use mathlib.Core.List.{List, [], ◌∷◌}
use Prim.Native.Nat.{ℕ, zero, suc, ◌+◌, ◌≤◌, ◌<◌}
use native.Mathlib.Omega.{arith}
use lib.ListN.{length, set}
use lib.Seq.{get_or-set_same, get_or-set_other}
use lib.Dec.{leb}
use Rattle.spec.specs.Rule.{Form, false_node, test_node}
use Rattle.grammar.specs.Typed.{not, wprev, prev, once, sofar, since_word, and_word, or_word, implies_word, test_of}
use Rattle.grammar.specs.Grammar.{constant_word, prefix_word, operator_word, Token, word, register, number, sign, strength}
use Rattle.grammar.specs.Reading.{Waiting, awaiting, with_left, rank, Entry, Built, Reading, unwound, waits, read}
use Rattle.text.specs.Building.{begins, finishes, words, begin_cost, finish_cost, token_cost}
use Rattle.text.specs.Stacks.{table_length, waiting_of, entry_of, no_word, stack_of, owed, LeftSmall}
use Rattle.text.specs.declared.token.WaitingWord.{WaitingWord}
use Rattle.text.specs.declared.token.WaitingWord.TheVariants as variant
use Rattle.text.specs.declared.stack.Pending.{Pending}
use Rattle.text.proofs.BuildLaws.{put_length, true_length, begins_length, finishes_length}

-- ---- in an array

pub stack_length_lem : (st : List Pending) (n : ℕ) → length (stack_of st n) ≡ n
unfolding stack_of
stack_length_lem st zero = refl
stack_length_lem st (suc n) = ap suc (stack_length_lem st n)

pub stack_set : (st : List Pending) (n i : ℕ) (x : Pending) → n ≤ i → stack_of (set st i x) n ≡ stack_of st n
unfolding stack_of
stack_set st zero i x h = refl
stack_set st (suc n) i x h = ap₂ ◌∷◌ (ap entry_of (get_or-set_other st i n x no_word (omega arith))) (stack_set st n i x (omega arith))

-- one behind the first n entries
pub stack_pushed : (st : List Pending) (n : ℕ) (x : Pending) → n < length st → stack_of (set st n x) (suc n) ≡ entry_of x ∷ stack_of st n
unfolding stack_of
stack_pushed st n x h = ap₂ ◌∷◌ (ap entry_of (get_or-set_same st n x no_word h)) (stack_set st n n x (omega arith))

-- once, sofar and or alone put nodes where they are read
pub begins_alike : (form : Form) (w : WaitingWord) (ws : List ℕ) → w ≢ variant.Once → w ≢ variant.Sofar → w ≢ variant.Or → ws ≡ begins form (waiting_of w) ws
begins_alike form variant.Not ws a b c = refl
begins_alike form variant.Wprev ws a b c = refl
begins_alike form variant.Prev ws a b c = refl
begins_alike form variant.Once ws a b c = absurd (a refl)
begins_alike form variant.Sofar ws a b c = absurd (b refl)
begins_alike form variant.Since ws a b c = refl
begins_alike form variant.And ws a b c = refl
begins_alike form variant.Or ws a b c = absurd (c refl)
begins_alike form variant.Implies ws a b c = refl

-- ---- nodes put and nodes owed

abbrev pub weight : Built (List ℕ) ℕ → ℕ
weight x = length x.value + owed x.stack

pub finish_some : (w : Waiting) → 1 ≤ finish_cost w
finish_some (awaiting not) = omega arith
finish_some (awaiting wprev) = omega arith
finish_some (awaiting prev) = omega arith
finish_some (awaiting once) = omega arith
finish_some (awaiting sofar) = omega arith
finish_some (with_left since_word) = omega arith
finish_some (with_left and_word) = omega arith
finish_some (with_left or_word) = omega arith
finish_some (with_left implies_word) = omega arith

pub entries_owed : (s : List (Entry ℕ)) → length s ≤ owed s
unfolding owed
entries_owed [] = omega arith
entries_owed (e ∷ s) = let a = entries_owed s in let b = finish_some e.waiting in omega arith

module _ (form : Form) where
  pub unwound_weight : (limit : ℕ) (s : List (Entry ℕ)) (ws : List ℕ) → weight (unwound (words form) limit s ws) ≡ length ws + owed s
  unfolding unwound owed
  unwound_weight limit [] ws = refl
  unwound_weight limit (e ∷ s) ws = go (leb limit e.tight) (unwound_weight limit s (finishes form e.waiting e.noted ws))
    where
      go : (b : Bool) → weight (unwound (words form) limit s (finishes form e.waiting e.noted ws)) ≡ length (finishes form e.waiting e.noted ws) + owed s
          → weight (cond b (unwound (words form) limit s (finishes form e.waiting e.noted ws)) (record { stack = e ∷ s; value = ws })) ≡ length ws + owed (e ∷ s)
      go true h = let a = finishes_length form e.waiting e.noted ws in omega arith
      go false h = refl

  waits_weight : (d : ℕ) (w : Waiting) (x : Built (List ℕ) ℕ) → weight (waits (words form) d w x) ≡ weight x + (begin_cost w + finish_cost w)
  unfolding owed
  waits_weight d w x = let a = begins_length form w x.value in omega arith

  pub read_weight : (r : Reading (List ℕ) ℕ) (t : Token) → weight (read (words form) r t).built ≡ weight r.built + token_cost t
  unfolding read
  read_weight r (word (constant_word true)) = let a = true_length form r.built.value in omega arith
  read_weight r (word (constant_word false)) = let a = put_length form false_node r.built.value in omega arith
  read_weight r (word (prefix_word p)) = waits_weight r.depth (awaiting p) r.built
  read_weight r (word (operator_word o)) =
      let a = waits_weight r.depth (with_left o) (unwound (words form) (rank r.depth (suc (strength o))) r.built.stack r.built.value) in
      let b = unwound_weight (rank r.depth (suc (strength o))) r.built.stack r.built.value in omega arith
  read_weight r (register n) = omega arith
  read_weight r (number n) = let a = put_length form (test_node (test_of r.compared_by r.of_register n)) r.built.value in omega arith
  read_weight r (sign s) = omega arith

  -- ---- nodes to the left

  pub unwound_small : (limit : ℕ) (s : List (Entry ℕ)) (ws : List ℕ) → LeftSmall s → LeftSmall (unwound (words form) limit s ws).stack
  unfolding unwound LeftSmall
  unwound_small limit [] ws h = tt
  unwound_small limit (e ∷ s) ws h = go (leb limit e.tight) (unwound_small limit s (finishes form e.waiting e.noted ws) h.1)
    where
      go : (b : Bool) → LeftSmall (unwound (words form) limit s (finishes form e.waiting e.noted ws)).stack
          → LeftSmall (cond b (unwound (words form) limit s (finishes form e.waiting e.noted ws)) (record { stack = e ∷ s; value = ws })).stack
      go true k = k
      go false k = h

  waits_small : (d : ℕ) (w : Waiting) (x : Built (List ℕ) ℕ) → LeftSmall x.stack → weight (waits (words form) d w x) ≤ table_length → LeftSmall (waits (words form) d w x).stack
  unfolding LeftSmall
  waits_small d w x h k = (omega arith, h)

  pub read_small : (r : Reading (List ℕ) ℕ) (t : Token) → LeftSmall r.built.stack → weight (read (words form) r t).built ≤ table_length
      → LeftSmall (read (words form) r t).built.stack
  unfolding read
  read_small r (word (constant_word c)) h k = h
  read_small r (word (prefix_word p)) h k = waits_small r.depth (awaiting p) r.built h k
  read_small r (word (operator_word o)) h k =
      waits_small r.depth (with_left o) (unwound (words form) (rank r.depth (suc (strength o))) r.built.stack r.built.value)
      (unwound_small (rank r.depth (suc (strength o))) r.built.stack r.built.value h) k
  read_small r (register n) h k = h
  read_small r (number n) h k = h
  read_small r (sign s) h k = h
