-- A word that waits, and one that ends others first (`specs/Progress.antt`).
--     room_waits                 there is a place for it
--     waits_builds               what waiting builds
--     join_room, join_builds     what joining builds
-- Assumes nothing.
use mathlib.Core.Path.{◌≡◌, sym, subst, ap, ap₂, ◌∙◌}
use mathlib.Core.List.{List, ◌∷◌}
use Prim.Native.Nat.{ℕ, ◌+◌, ◌-◌, ◌≤◌, ◌<◌}
use native.Mathlib.Omega.{arith}
use lib.ListN.{length, take}
use Rattle.grammar.specs.Reading.{unwound, waits}
use Rattle.text.specs.Building.{last_of, begins, words, begin_cost, finish_cost}
use Rattle.text.specs.Stacks.{table_length, stack_length, waiting_of, entry_of, stack_of, built_of, owed, LeftSmall, Holds, Fitting, Unwinds}
use Rattle.text.specs.Progress.{Builds}
use Rattle.rule.specs.Nodes.{form_in}
use Rattle.text.specs.declared.token.WaitingWord.{WaitingWord}
use Rattle.text.specs.declared.stack.Pending.{Pending}
use Rattle.text.proofs.BuildLaws.{begins_length}
use Rattle.text.proofs.StackLaws.{stack_length_lem, finish_some, entries_owed, unwound_weight}
use Rattle.text.proofs.HoldLaws.{length_held}

module _ (stack : List Pending) (top : ℕ) (table : List ℕ) (count : ℕ) (word : WaitingWord) (f : Fitting stack top table count)
    (room : count + owed (stack_of stack top) + (begin_cost (waiting_of word) + finish_cost (waiting_of word)) ≤ table_length) where
  pub room_waits : (top < table_length) × (count + begin_cost (waiting_of word) ≤ table_length)
  room_waits =
      let a = entries_owed (stack_of stack top) in
      let b = stack_length_lem stack top in
      let c = finish_some (waiting_of word) in
      (omega arith, omega arith)

  pub waits_builds : (depth left : ℕ) (stack' : List Pending) (t : ℕ) (table' : List ℕ) (n : ℕ) → Holds table' n (begins form_in (waiting_of word) (take count table))
      → left ≡ n - 1 → length stack' ≡ stack_length → stack_of stack' t ≡ entry_of (record { word = word; left = left; depth = depth }) ∷ stack_of stack top
      → Builds stack' t table' n (waits (words form_in) depth (waiting_of word) (built_of stack top table count))
  unfolding owed LeftSmall
  waits_builds depth left stack' t table' n h e l s =
      let a = begins_length form_in (waiting_of word) (take count table) in
      let b = length_held count table (omega arith) f.table_long in
      let c = h.count in
      let o = ap owed s in
      let z : left ≡ last_of (begins form_in (waiting_of word) (take count table)) = omega arith in
      record {
        built = ap₂ (λ x y. record { stack = x; value = y })
            (s ∙ ap (λ k. entry_of (record { word = word; left = k; depth = depth }) ∷ stack_of stack top) z) h.words;
        fits = record {
          stack_long = l;
          table_long = h.long;
          room = omega arith;
          left_small = subst LeftSmall (sym s) (omega arith, f.left_small);
        };
      }

-- after what ends
module _ (stack : List Pending) (top : ℕ) (table : List ℕ) (count : ℕ) (word : WaitingWord) (limit t : ℕ) (after : List ℕ) (n : ℕ) (f : Fitting stack top table count)
    (room : count + owed (stack_of stack top) + (begin_cost (waiting_of word) + finish_cost (waiting_of word)) ≤ table_length) (u : Unwinds stack top table count limit t after n) where
  pub join_room : Fitting stack t after n × (n + owed (stack_of stack t) + (begin_cost (waiting_of word) + finish_cost (waiting_of word)) ≤ table_length)
  join_room =
      let a = unwound_weight form_in limit (stack_of stack top) (take count table) in
      let b = ap (λ x. length x.value + owed x.stack) u.built in
      let r = u.fits.room in
      let c = length_held n after (omega arith) u.fits.table_long in
      let d = length_held count table (omega arith) f.table_long in
      (u.fits, omega arith)

  pub join_builds : (depth : ℕ) (stack' : List Pending) (t' : ℕ) (table' : List ℕ) (n' : ℕ)
      → Builds stack' t' table' n' (waits (words form_in) depth (waiting_of word) (built_of stack t after n))
      → Builds stack' t' table' n' (waits (words form_in) depth (waiting_of word) (unwound (words form_in) limit (stack_of stack top) (take count table)))
  join_builds depth stack' t' table' n' x = subst (λ y. Builds stack' t' table' n' (waits (words form_in) depth (waiting_of word) y)) u.built x
