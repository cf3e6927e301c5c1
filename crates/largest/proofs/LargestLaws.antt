-- The mathematics of the search for the largest notes (`specs/Largest.antt`), on plain notes: no matter how a program stores them.
--     close_belongs       closing adds only facts that belong
--     start_closed        what the search starts from is closed
--     Cut                 one step of a search (its invariant, `Around`, is in specs/): the notes of one line cut down to a set, the others as they were
--     around_start, around_same, around_cut_to, around_cut    the invariant at the start; kept by a cut to what a line leading there passes on
--     Swept               a sweep's invariant: what line l < j passed on at the sweep's start holds the notes of its followers
--     swept_start, swept_next
--     found_end           a sweep that took nothing away ends with the largest notes
--     largest_unique      there is one largest
--     largest_closed      its notes are closed
--     unreached_all       and have every fact that belongs at a line that nothing leads to
--     passed_mono         more facts at a line never pass on fewer
--     Known, welcome      if any notes that obey pass question 10, the largest do
-- Assumes nothing.
use mathlib.Core.Path.{◌≡◌, refl, sym, ap, subst, ◌∙◌}
use mathlib.Core.Logic.{inl, inr}
use mathlib.Core.Bool.{Bool, true, false, cond}
use mathlib.Core.Option.{some}
use Prim.Native.Nat.{ℕ, zero, suc, ◌<◌}
use native.Mathlib.Omega.{arith}
use lib.ListN.{length}
use lib.Dec.{eqb}
use borrow.Author.Tests.{lt-ltb, eq-eqb, ne_eqb, eqb-true}
use Rattle.spec.specs.Rule.{Node, Table, node_at, last_node, is_since, is_weak_previous, is_past, false_node, test_node, implies_node, since_node, weak_previous_node}
use Rattle.spec.specs.Script.{Code, instruction_at, is_present}
use Rattle.spec.specs.Facts.{Fact, belongs, Facts, ◌⊑◌, gains, close, first_facts, value_is, prior_is, kept_is_prior, work_is_next, work_is_prior}
use Rattle.spec.specs.Check.{present_known, passed_on}
use Rattle.largest.specs.Notes.{Notes, follower_of, passed_at, Obeys, NotesWithin, LargestNotes, start_notes, Around}
use Rattle.largest.specs.Found.{Unreached}
use Rattle.spec.proofs.BoolLaws.{clash, not_either, either_not, bool_ext, le_or_lt}
use Rattle.spec.proofs.RuleLaws.{InOrder}
use Rattle.spec.proofs.FactLaws.{⊑_trans, union_least, only_in}
use Rattle.spec.proofs.ClosingLaws.{Closed, extends, least, close_mono, close_into, passed_on_mono}

-- ---- first facts belong

belongs_closed : (t : Table) → Closed t (belongs t)
unfolding gains belongs
belongs_closed t k h (value_is b) e = lt-ltb k (length t) h
belongs_closed t k h (prior_is b) e = clash e refl
belongs_closed t k h kept_is_prior e = clash e refl
belongs_closed t k h work_is_next e = clash e refl
belongs_closed t k h work_is_prior e = clash e refl

since_past : (x : Node) → is_since x ≡ true → is_past x ≡ true
since_past false_node e = e
since_past (test_node a) e = e
since_past (implies_node l r) e = e
since_past (since_node l r) e = e
since_past (weak_previous_node o) e = refl

weak_past : (x : Node) → is_weak_previous x ≡ true → is_past x ≡ true
weak_past false_node e = e
weak_past (test_node a) e = e
weak_past (implies_node l r) e = e
weak_past (since_node l r) e = refl
weak_past (weak_previous_node o) e = e

module _ (t : Table) (ordered : InOrder t) where
  pub close_belongs : (F : Facts) → F ⊑ belongs t → close t F ⊑ belongs t
  close_belongs F h = least t ordered F (belongs t) h (belongs_closed t)

  first_belongs : first_facts t ⊑ belongs t
  unfolding first_facts belongs
  first_belongs =
      close_belongs _ (union_least _ _ (belongs t)
      (union_least _ _ (belongs t)
      (only_in kept_is_prior _ (belongs t) (λ k e. e))
      (only_in (prior_is true) _ (belongs t) (λ k e. weak_past (node_at t k) e)))
      (only_in (prior_is false) _ (belongs t) (λ k e. since_past (node_at t k) e)))

  -- what the search starts from is closed
  pub start_closed : (l : ℕ) → close t (start_notes t l) ⊑ start_notes t l
  unfolding start_notes first_facts
  start_closed zero = close_into t ordered (start_notes t 0) _ (λ f k e. e)
  start_closed (suc l) = close_belongs (belongs t) (λ f k e. e)

-- ---- the search

-- the notes of line m cut down to G, the others as they were
pub record Cut (code : Code) (N N' : Notes) (m : ℕ) (G : Facts) : Type 0 where
  pub within : NotesWithin code N' N
  pub inside : m < length code → N' m ⊑ G
  pub kept : (l : ℕ) → l < length code → (f : Fact) (k : ℕ) → N l f k ≡ true → (l ≡ m → G f k ≡ true) → N' l f k ≡ true

-- what each line l < j passed on of the notes N₀ holds what N notes at its followers
pub record Swept (t : Table) (code : Code) (N₀ N : Notes) (j : ℕ) : Type 0 where
  pub within : NotesWithin code N N₀
  pub passed : (l m : ℕ) (taken : Bool) → l < j → m < length code → follower_of l (instruction_at code l) taken ≡ some m
      → N m ⊑ passed_at t code l taken (N₀ l)

pub within_trans : (code : Code) (N N' N'' : Notes) → NotesWithin code N N' → NotesWithin code N' N'' → NotesWithin code N N''
within_trans code N N' N'' a b l h f k e = b l h f k (a l h f k e)

module _ (t : Table) (ordered : InOrder t) (code : Code) where
  pub around_start : Around t code (start_notes t)
  unfolding start_notes
  around_start = record { holds_all = all_held; belong = belong; first = λ h f k e. e }
    where
      all_held : (N : Notes) → Obeys t code N → NotesWithin code N (start_notes t)
      all_held N o zero h = o.first h
      all_held N o (suc l) h = o.belong (suc l) h

      belong : (l : ℕ) → l < length code → start_notes t l ⊑ belongs t
      belong zero h = first_belongs t ordered
      belong (suc l) h = λ f k e. e

  -- notes that are the same are as good
  pub around_same : (N N' : Notes) → NotesWithin code N N' → NotesWithin code N' N → Around t code N → Around t code N'
  around_same N N' a b r = record {
    holds_all = λ M o. within_trans code M N N' (r.holds_all M o) a;
    belong = λ l h f k e. r.belong l h f k (b l h f k e);
    first = λ h f k e. r.first h f k (b 0 h f k e);
  }

  -- a cut to a set that holds what all that obey note there
  pub around_cut_to : (N N' : Notes) (m : ℕ) (G : Facts) → Around t code N → Cut code N N' m G
      → ((M : Notes) → Obeys t code M → m < length code → M m ⊑ G) → Around t code N'
  around_cut_to N N' m G r c g = record {
    holds_all = λ M o l h f k e. c.kept l h f k (r.holds_all M o l h f k e) (λ z. g M o (rw z at h) f k (rw z at e));
    belong = λ l h f k e. r.belong l h f k (c.within l h f k e);
    first = λ h f k e. r.first h f k (c.within 0 h f k e);
  }

  pub passed_mono : (l : ℕ) (taken : Bool) (F G : Facts) → F ⊑ G → passed_at t code l taken F ⊑ passed_at t code l taken G
  passed_mono l taken F G h = passed_on_mono t ordered (instruction_at code l) F G taken h

  -- a cut to what a line that leads there passes on. F is what is noted at that line, now or earlier in the search.
  pub around_cut : (N N' : Notes) (l m : ℕ) (taken : Bool) (F : Facts) → l < length code → follower_of l (instruction_at code l) taken ≡ some m
      → N l ⊑ F → Around t code N → Cut code N N' m (passed_at t code l taken F) → Around t code N'
  around_cut N N' l m taken F h w i r c =
      around_cut_to N N' m (passed_at t code l taken F) r c
      (λ M o h'. ⊑_trans _ _ _ (o.passes l m taken h h' w) (passed_mono l taken (M l) F (⊑_trans (M l) (N l) F (r.holds_all M o l h) i)))

  pub swept_start : (N : Notes) → Swept t code N N 0
  swept_start N = record { within = λ l h f k e. e; passed = λ l m taken h. absurd (omega arith) }

  pub swept_next : (N₀ N : Notes) (j : ℕ) → Swept t code N₀ N j
      → ((m : ℕ) (taken : Bool) → m < length code → follower_of j (instruction_at code j) taken ≡ some m → N m ⊑ passed_at t code j taken (N₀ j))
      → Swept t code N₀ N (suc j)
  swept_next N₀ N j s p = record { within = s.within; passed = go }
    where
      go : (l m : ℕ) (taken : Bool) → l < suc j → m < length code → follower_of l (instruction_at code l) taken ≡ some m
          → N m ⊑ passed_at t code l taken (N₀ l)
      go l m taken h h' w =
          elim (le_or_lt j l) [
            | inl a ↦ let z : l ≡ j = omega arith in rw z (p m taken h' (rw z at w))
            | inr a ↦ s.passed l m taken a h' w
          ]

  -- a sweep that took nothing away
  pub found_end : (N₀ N : Notes) → Around t code N → Swept t code N₀ N (length code) → NotesWithin code N₀ N → LargestNotes t code N
  found_end N₀ N r s u = record {
    obeys = record {
      belong = r.belong;
      first = r.first;
      passes = λ l m taken h h' w. ⊑_trans _ _ _ (s.passed l m taken h h' w) (passed_mono l taken (N₀ l) (N l) (u l h));
    };
    holds_all = r.holds_all;
  }

  pub largest_unique : (N N' : Notes) → LargestNotes t code N → LargestNotes t code N' → (l : ℕ) → l < length code → (f : Fact) (k : ℕ) → N l f k ≡ N' l f k
  largest_unique N N' a b l h f k = bool_ext _ _ (b.holds_all N a.obeys l h f k) (a.holds_all N' b.obeys l h f k)

  -- what holds all the facts that a line passes on is closed
  pub largest_closed : (N : Notes) → LargestNotes t code N → (l : ℕ) → l < length code → close t (N l) ⊑ N l
  unfolding passed_on first_facts
  largest_closed N a l h = a.holds_all (λ m. close t (N m)) (record {
    belong = λ m h'. close_belongs t ordered (N m) (a.obeys.belong m h');
    first = λ h'. close_into t ordered (N 0) _ (a.obeys.first h');
    passes = λ m n taken h₁ h₂ w. ⊑_trans _ _ _ (close_into t ordered (N n) _ (a.obeys.passes m n taken h₁ h₂ w))
        (passed_mono m taken (N m) (close t (N m)) (extends t (N m)));
  }) l h

  -- a line that nothing leads to: with every fact that belongs there, notes that obey still do
  pub unreached_all : (N : Notes) (l : ℕ) → LargestNotes t code N → Unreached code l → belongs t ⊑ N l
  unreached_all N l a u f k e = a.holds_all M (record {
    belong = λ m h. either_way m (belongs t) (λ x j d. d) (a.obeys.belong m h);
    first = λ h.
        let z : eqb 0 l ≡ false = ne_eqb 0 l (λ d. omega (arith, u.later)) in
        subst (λ b. cond b (belongs t) (N 0) ⊑ first_facts t) (sym z) (a.obeys.first h);
    passes = λ m n taken h₁ h₂ w. ⊑_trans _ _ _ (not_there m n taken h₁ w (a.obeys.passes m n taken h₁ h₂ w)) (passed_mono m taken (N m) (M m) (more m h₁));
  }) l u.is_line f k (ap (λ b. cond b (belongs t) (N l) f k) (eq-eqb l l refl) ∙ e)
    where
      -- every fact that belongs at line l, the others as they were
      M : Notes
      M m = cond (eqb m l) (belongs t) (N m)

      either_way : (m : ℕ) (G : Facts) → belongs t ⊑ G → N m ⊑ G → M m ⊑ G
      either_way m G b n = go (eqb m l)
        where
          go : (c : Bool) → cond c (belongs t) (N m) ⊑ G
          go true = b
          go false = n

      more : (m : ℕ) → m < length code → N m ⊑ M m
      more m h = go (eqb m l)
        where
          go : (c : Bool) → N m ⊑ cond c (belongs t) (N m)
          go true = a.obeys.belong m h
          go false = λ x j d. d

      not_there : (m n : ℕ) (taken : Bool) → m < length code → follower_of m (instruction_at code m) taken ≡ some n
          → N n ⊑ passed_at t code m taken (N m) → M n ⊑ passed_at t code m taken (N m)
      not_there m n taken h w d = go (eqb n l) refl
        where
          go : (c : Bool) → eqb n l ≡ c → cond c (belongs t) (N n) ⊑ passed_at t code m taken (N m)
          go true z = absurd (u.no_way m taken h (w ∙ ap some (eqb-true n l z)))
          go false z = d

  -- ---- question 10

  abbrev pub Known : Notes → Type 0
  Known N = (l : ℕ) → l < length code → present_known t (record { instruction = instruction_at code l; annotation = N l }) ≡ true

  -- if some notes that obey pass question 10, the largest do
  pub welcome : (N M : Notes) → LargestNotes t code N → Obeys t code M → Known M → Known N
  unfolding present_known
  welcome N M a o known l h =
      either_not (is_present (instruction_at code l)) _ (λ p.
      close_mono t ordered (M l) (N l) (a.holds_all M o l h) (value_is true) (last_node t)
      (not_either (is_present (instruction_at code l)) _ (known l h) p))
