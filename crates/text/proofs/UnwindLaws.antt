-- Words that end (`specs/Stacks.antt`).
--     level_tight, level_small      how tight a word binds
--     stack_top, few_waiting           the last word that waits, and that there are no more than nodes in a table
--     no_top, top_deeper, top_shallower, top_level      whether it ends
--     Unwinding, unwinding_start, unwinding_room, unwinding_next, unwinding_stop      the loop that ends words
-- Assumes nothing.
use mathlib.Core.Path.{◌≡◌, refl, sym, subst, ap, ◌∙◌}
use mathlib.Core.Logic.{◌≢◌, inl, inr}
use mathlib.Core.Bool.{true, false}
use mathlib.Core.List.{List, [], ◌∷◌}
use Prim.Native.Nat.{ℕ, zero, suc, ◌+◌, ◌-◌, ◌≤◌, ◌<◌}
use native.Mathlib.Omega.{arith}
use lib.ListN.{length, get_or, take}
use lib.Dec.{leb}
use borrow.Author.Tests.{leb-true, leb-false, le-leb, lt-leb}
use Rattle.spec.proofs.BoolLaws.{clash, le_or_lt}
use Rattle.grammar.specs.Reading.{Waiting, awaiting, with_left, level_of, rank, Entry, unwound}
use Rattle.grammar.proofs.SpellLaws.{right_small}
use Rattle.grammar.proofs.ReadingLaws.{unwound_ends, unwound_stays, Under}
use Rattle.text.specs.Building.{finishes, finish_cost, words}
use Rattle.text.specs.Stacks.{table_length, waiting_of, no_word, entry_at, stack_of, owed, LeftSmall, Holds, Fitting, ends_top, Unwinds}
use Rattle.rule.specs.Nodes.{form_in}
use Rattle.text.specs.declared.token.WaitingWord.{WaitingWord}
use Rattle.text.specs.declared.token.WaitingWord.TheVariants as variant
use Rattle.text.specs.declared.stack.Pending.{Pending}
use Rattle.text.proofs.BuildLaws.{finishes_length}
use Rattle.text.proofs.StackLaws.{stack_length_lem, entries_owed}
use Rattle.text.proofs.HoldLaws.{length_held}

-- ---- how tight a word binds

pub level_tight : (w : WaitingWord) → w ≢ variant.And → w ≢ variant.Or → w ≢ variant.Implies → 4 ≡ level_of (waiting_of w)
level_tight variant.Not a b c = refl
level_tight variant.Wprev a b c = refl
level_tight variant.Prev a b c = refl
level_tight variant.Once a b c = refl
level_tight variant.Sofar a b c = refl
level_tight variant.Since a b c = refl
level_tight variant.And a b c = absurd (a refl)
level_tight variant.Or a b c = absurd (b refl)
level_tight variant.Implies a b c = absurd (c refl)

level_small : (w : Waiting) → level_of w ≤ 4
level_small (awaiting p) = omega arith
level_small (with_left o) = right_small o

-- ---- the last word that waits

pub stack_top : (st : List Pending) (n : ℕ) → n ≢ 0 → stack_of st n ≡ entry_at st (n - 1) ∷ stack_of st (n - 1)
unfolding stack_of
stack_top st zero h = absurd (h refl)
stack_top st (suc n) h = let z : n ≡ suc n - 1 = omega arith in ap (λ k. entry_at st k ∷ stack_of st k) z

pub few_waiting : (st : List Pending) (table : List ℕ) (top count : ℕ) → Fitting st top table count → top ≤ table_length
few_waiting st table top count f =
    let a = entries_owed (stack_of st top) in let b = stack_length_lem st top in let c = f.room in omega arith

pub no_top : (limit : ℕ) (st : List Pending) (n : ℕ) → n ≡ 0 → false ≡ ends_top limit (stack_of st n)
unfolding stack_of
no_top limit st n e = sym (ap (λ k. ends_top limit (stack_of st k)) e)

module _ (st : List Pending) (n depth level : ℕ) (some : n ≢ 0) (small : level ≤ 4) where
  abbrev deep : ℕ
  deep = (get_or st (n - 1) no_word).depth

  abbrev word : WaitingWord
  word = (get_or st (n - 1) no_word).word

  by_top : ends_top (rank depth level) (stack_of st n) ≡ leb (rank depth level) (rank deep (level_of (waiting_of word)))
  by_top = ap (ends_top (rank depth level)) (stack_top st n some)

  pub top_deeper : depth < deep → true ≡ ends_top (rank depth level) (stack_of st n)
  top_deeper h = sym (by_top ∙ le-leb (rank depth level) (rank deep (level_of (waiting_of word))) (omega arith))

  pub top_shallower : deep < depth → false ≡ ends_top (rank depth level) (stack_of st n)
  top_shallower h = sym (by_top ∙ lt-leb (rank depth level) (rank deep (level_of (waiting_of word))) (let s = level_small (waiting_of word) in omega arith))

  pub top_level : depth ≡ deep → (l : ℕ) → l ≡ level_of (waiting_of word) → leb level l ≡ ends_top (rank depth level) (stack_of st n)
  top_level h l e =
      elim (le_or_lt level l) [
        | inl k ↦ le-leb level l k ∙ sym (by_top ∙ le-leb (rank depth level) (rank deep (level_of (waiting_of word))) (omega arith))
        | inr k ↦ lt-leb level l k ∙ sym (by_top ∙ lt-leb (rank depth level) (rank deep (level_of (waiting_of word))) (omega arith))
      ]

-- ---- the loop

pub record Unwinding (stack : List Pending) (top : ℕ) (table : List ℕ) (count limit t : ℕ) (now : List ℕ) (n : ℕ) : Type 0 where
  pub same : unwound (words form_in) limit (stack_of stack t) (take n now) ≡ unwound (words form_in) limit (stack_of stack top) (take count table)
  pub fits : Fitting stack t now n

pub unwinding_start : (stack : List Pending) (top : ℕ) (table : List ℕ) (count limit : ℕ) → Fitting stack top table count → Unwinding stack top table count limit top table count
unwinding_start stack top table count limit f = record { same = refl; fits = f }

module _ (stack : List Pending) (top : ℕ) (table : List ℕ) (count limit t : ℕ) (now : List ℕ) (n : ℕ) (x : Unwinding stack top table count limit t now n) where
  pub unwinding_stop : ends_top limit (stack_of stack t) ≡ false → Unwinds stack top table count limit t now n
  unwinding_stop e = record { built = sym (unwound_stays (words form_in) limit (stack_of stack t) (take n now) (under (stack_of stack t) e)) ∙ x.same; fits = x.fits }
    where
      under : (s : List (Entry ℕ)) → ends_top limit s ≡ false → Under (words form_in) limit s
      under [] e = tt
      under (y ∷ s) e = leb-false limit y.tight e

  module _ (e : ends_top limit (stack_of stack t) ≡ true) where
    -- there is one
    pub unwinding_some : t ≢ 0
    unfolding stack_of
    unwinding_some z = clash e (ap (λ k. ends_top limit (stack_of stack k)) z)

    abbrev last : Entry ℕ
    last = entry_at stack (t - 1)

    here : stack_of stack t ≡ last ∷ stack_of stack (t - 1)
    here = stack_top stack t unwinding_some

    pub unwinding_room : (n + finish_cost last.waiting ≤ table_length) × (length now ≡ table_length) × (last.noted < table_length)
    unfolding owed LeftSmall
    unwinding_room =
        let f = x.fits in
        let r = f.room in
        let o = ap owed here in
        (omega arith, f.table_long, (subst LeftSmall here f.left_small).0)

    pub unwinding_next : (after : List ℕ) (m : ℕ) → Holds after m (finishes form_in last.waiting last.noted (take n now))
        → Unwinding stack top table count limit (t - 1) after m
    unfolding owed LeftSmall
    unwinding_next after m h =
        let f = x.fits in
        let (r, l, s) = unwinding_room in
        let o = ap owed here in
        let k = f.room in
        let a = h.count in
        let b = finishes_length form_in last.waiting last.noted (take n now) in
        let c = length_held n now (omega arith) l in
        let g : leb limit last.tight ≡ true = sym (ap (ends_top limit) here) ∙ e in
        record {
          same = ap (unwound (words form_in) limit (stack_of stack (t - 1))) h.words
              ∙ sym (ap (λ z. unwound (words form_in) limit z (take n now)) here
              ∙ unwound_ends (words form_in) limit last (stack_of stack (t - 1)) (take n now) (leb-true limit last.tight g))
              ∙ x.same;
          fits = record { stack_long = f.stack_long; table_long = h.long; room = omega arith; left_small = (subst LeftSmall here f.left_small).1 };
        }
