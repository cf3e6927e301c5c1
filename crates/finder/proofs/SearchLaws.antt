-- The laws of the search (`specs/Rows.antt`): each step keeps what is known, and the end has the largest notes.
--     room_line, room_all, room_same, few_nodes, rule_passed, names_at, target_in, next_in    what questions 1 to 7 say of a line
--     facts_closed                        a line's notes are closed
--     Leads, leads, push_done             a line pushed
--     before, next_line, at_flag, later, swept_start, swept_next    a sweep
--     Settling                            sweeps
--     pasted, length_pasted, put_done     a line's seven words written
--     Prepared, prepared_start, prepared_next, prepared_end       the start
--     settled_largest                     the end
-- Assumes nothing.
use mathlib.Core.Path.{◌≡◌, refl, sym, subst, ap, ◌∙◌, fun_ext}
use mathlib.Core.Logic.{inl, inr}
use mathlib.Core.Bool.{Bool, true, false, cond, ◌||◌}
use mathlib.Core.Option.{Option, none, some}
use mathlib.Core.List.{List, ◌++◌}
use Prim.Native.Nat.{ℕ, zero, suc, ◌+◌, ◌-◌, ◌*◌, ◌≤◌, ◌<◌}
use native.Mathlib.Nat.{le_refl}
use native.Mathlib.Numerals.{add-one}
use native.Mathlib.Omega.{arith}
use lib.ListN.{length, get_or, get_or-append, take, drop, length-append, length-drop, replicate, length-replicate}
use Rattle.std.proofs.lemmas.List.{get_or-append_right, get_or-take, get_or-drop, length-take-le}
use borrow.Author.Tests.{ltb-true}
use Rattle.std.specs.Prelude.{Option as Maybe, Some, None, IfSome}
use Rattle.spec.specs.Rule.{form64, Table}
use Rattle.spec.specs.Script.{instruction_read, Code, bare_code, instruction_at, target_of, goes_on, names_allowed, is_line, followers_exist, Instruction}
use Rattle.spec.specs.Facts.{word_number, Facts, ◌⊑◌, belongs, close, pass, first_facts}
use Rattle.spec.specs.Check.{passed_on}
use Rattle.largest.specs.Notes.{Notes, follower_of, passed_at, Obeys, start_notes}
use Rattle.spec.proofs.BoolLaws.{clash, and_both, not_either, bool_ext, le_or_lt}
use Rattle.spec.proofs.FactLaws.{number_small}
use Rattle.spec.proofs.ClosingLaws.{extends, close_mono, close_into}
use Rattle.spec.proofs.RuleLaws.{InOrder, length_table}
use Rattle.largest.proofs.ObeyLaws.{code_at, length_bare}
use Rattle.largest.proofs.LargestLaws.{passed_mono, around_start, around_same, start_closed}
use Rattle.largest.proofs.LargestLoop.{flagged_start, flagged_next, flagged_end}
use Rattle.largest.proofs.LargestPromise.{ready}
use Rattle.sets.specs.Sets.{set_of, capacity}
use Rattle.facts.specs.declared.Facts.{Facts as FactWords}
use Rattle.script.specs.Lines.{target_where}
use Rattle.finder.specs.Rows.{notes_at, flag_of, HasLine, Room, Asked, Put, FlagSet, NextLine, Search, Searched, Pushed, Swept, LargestAt}
use Rattle.facts.specs.FactSets.{facts_of}
use Rattle.rule.specs.Nodes.{table_in, RulePasses, form_in}
use Rattle.finder.proofs.FlagLaws.{same_or_other}
use Rattle.finder.proofs.RowLaws.{or_none, or_some, words_in, word_of_lem, Spread}

-- ---- what questions 1 to 7 say of a line

pub room_line : (n m : ℕ) (notes flags : List ℕ) → m < n → Room n notes flags → HasLine m notes flags
room_line n m notes flags h r = record { words = omega (arith, r.words); flag = omega (arith, r.marks) }

-- the memory of the search
pub room_all : (n : ℕ) → n ≤ 1024 → Room n (replicate 7168 0) (replicate 16 0)
room_all n h = record {
  words = (let z : length {A = ℕ} (replicate 7168 0) ≡ 7168 = length-replicate {A = ℕ} 7168 0 in omega arith);
  marks = (let z : length {A = ℕ} (replicate 16 0) ≡ 16 = length-replicate {A = ℕ} 16 0 in omega arith);
}

-- the same room, once sizes stayed
pub room_same : (n : ℕ) (notes notes' flags flags' : List ℕ) → length notes' ≡ length notes → length flags' ≡ length flags
    → Room n notes flags → Room n notes' flags'
room_same n notes notes' flags flags' a b r = record { words = omega (arith, r.words); marks = omega (arith, r.marks) }

module _ (rule ws : List ℕ) (asked : Asked rule ws) where
  ordered : InOrder (table_in rule)
  ordered = (ready form_in rule ws asked).ordered

  pub few_nodes : length rule ≤ capacity
  unfolding form64
  few_nodes = omega (arith, (ready form_in rule ws asked).few, length_table form_in rule)

  pub rule_passed : RulePasses rule
  rule_passed = (ready form_in rule ws asked).rule_passed

  -- the notes are closed
  pub facts_closed : (notes flags : List ℕ) → Search (table_in rule) (bare_code ws) notes flags → (l : ℕ) → l < length ws → (F : Facts) → F ≡ notes_at notes l
      → close (table_in rule) F ≡ F
  facts_closed notes flags s l h F e =
      let closed = subst (λ G. close (table_in rule) G ⊑ G) (sym e) (s.closed l (omega (arith, length_bare ws))) in
      fun_ext (λ f. fun_ext (λ k. bool_ext _ _ (closed f k) (extends (table_in rule) F f k)))

  pub some_node : 0 < length rule
  some_node = omega (arith, (ready form_in rule ws asked).some_node, length_table form_in rule)

  pub some_line : 0 < length ws
  some_line = (ready form_in rule ws asked).some_line

  pub few_lines : length ws ≤ 1024
  few_lines = (ready form_in rule ws asked).few_lines

  pub names_at : (l : ℕ) → l < length ws → names_allowed (table_in rule) (instruction_read (get_or ws l 0)) ≡ true
  names_at l h = ((ready form_in rule ws asked).six l h).names

  pub target_in : (l m : ℕ) → l < length ws → target_of (instruction_read (get_or ws l 0)) ≡ some m → m < length ws
  unfolding followers_exist
  target_in l m h e =
      let i = instruction_read (get_or ws l 0) in
      let a = (and_both (is_line (length ws) (target_of i)) _ ((ready form_in rule ws asked).follow l h)).0 in
      ltb-true m (length ws) (subst (λ o. is_line (length ws) o ≡ true) e a)

  pub next_in : (l : ℕ) → l < length ws → goes_on (instruction_read (get_or ws l 0)) ≡ true → l + 1 < length ws
  unfolding followers_exist
  next_in l h e =
      let i = instruction_read (get_or ws l 0) in
      let a = (and_both (is_line (length ws) (target_of i)) _ ((ready form_in rule ws asked).follow l h)).1 in
      omega (arith, ltb-true (suc l) (length ws) (not_either (goes_on i) _ a e))

-- ---- a line pushed

-- line l, whose closed facts are F, leads to `target` if it jumps and to the next line if it goes on, and passes on Y and N
pub record Leads (t : Table) (code : Code) (l : ℕ) (o p : Option ℕ) (F Y N : Facts) : Type 0 where
  pub a_line : l < length code
  pub to_target : follower_of l (instruction_at code l) true ≡ o
  pub to_next : follower_of l (instruction_at code l) false ≡ p
  pub at_target : Y ≡ close t (pass t (instruction_at code l) true F)
  pub at_next : N ≡ close t (pass t (instruction_at code l) false F)

pub leads : (rule ws : List ℕ) (l target : ℕ) (i : Instruction) (jumps onward : Bool) (F : Facts) → l < length ws
    → i ≡ instruction_read (get_or ws l 0) → target_where jumps target ≡ target_of i → onward ≡ goes_on i
    → Leads (table_in rule) (bare_code ws) l (cond jumps (some target) none) (cond onward (some (l + 1)) none) F
    (close (table_in rule) (pass (table_in rule) i true F)) (close (table_in rule) (pass (table_in rule) i false F))
leads rule ws l target i jumps onward F h e to on =
    let t = table_in rule in
    let same = code_at ws l ∙ sym e in
    record {
      a_line = omega (arith, length_bare ws);
      to_target = ap target_of same ∙ sym to;
      to_next = ap (λ j. cond (goes_on j) (some (suc l)) none) same ∙ ap (λ b. cond b (some (suc l)) none) (sym on)
          ∙ ap (λ m. cond onward (some m) none) (sym (add-one l));
      at_target = ap (λ j. close t (pass t j true F)) (sym same);
      at_next = ap (λ j. close t (pass t j false F)) (sym same);
    }

module _ (t : Table) (ordered : InOrder t) (code : Code) (notes flags : List ℕ) (l : ℕ) (o p : Option ℕ) (Y N : Facts)
    (notes' flags' : List ℕ) (r : Bool) (d : Spread notes flags l o p Y N notes' flags' r) (w : Leads t code l o p (notes_at notes l) Y N)
    (s : Search t code notes flags) where
  closed_already : close t (notes_at notes l) ≡ notes_at notes l
  closed_already = fun_ext (λ f. fun_ext (λ k. bool_ext _ _ (s.closed l w.a_line f k) (extends t (notes_at notes l) f k)))

  target_is : Y ≡ passed_at t code l true (notes_at notes l)
  unfolding passed_on
  target_is = w.at_target ∙ ap (λ F. close t (pass t (instruction_at code l) true F)) (sym closed_already)

  next_is : N ≡ passed_at t code l false (notes_at notes l)
  unfolding passed_on
  next_is = w.at_next ∙ ap (λ F. close t (pass t (instruction_at code l) false F)) (sym closed_already)

  inside : (m : ℕ) (taken : Bool) → m < length code → follower_of l (instruction_at code l) taken ≡ some m
      → notes_at notes' m ⊑ passed_at t code l taken (notes_at notes l)
  inside m true h v f k e = ap (λ F. F f k) (sym target_is) ∙ d.at_target m (sym w.to_target ∙ v) f k e
  inside m false h v f k e = ap (λ F. F f k) (sym next_is) ∙ d.at_next m (sym w.to_next ∙ v) f k e

  -- what notes that obey have at a follower is passed on
  gone : (M : Notes) → Obeys t code M → (j : ℕ) (taken : Bool) → j < length code → follower_of l (instruction_at code l) taken ≡ some j
      → M j ⊑ passed_at t code l taken (notes_at notes l)
  gone M g j taken i v f k e =
      passed_mono t ordered code l taken (M l) (notes_at notes l) (s.around.holds_all M g l w.a_line) f k (g.passes l j taken w.a_line i v f k e)

  -- closed facts cut to closed facts are closed
  still_closed : (m : ℕ) → m < length code → close t (notes_at notes' m) ⊑ notes_at notes' m
  still_closed m h f k e = d.kept m f k
      (s.closed m h f k (close_mono t ordered (notes_at notes' m) (notes_at notes m) (d.within m) f k e))
      (λ v. into Y (pass t (instruction_at code l) true (notes_at notes l)) w.at_target (d.at_target m v))
      (λ v. into N (pass t (instruction_at code l) false (notes_at notes l)) w.at_next (d.at_next m v))
    where
      into : (G H : Facts) → G ≡ close t H → notes_at notes' m ⊑ G → G f k ≡ true
      into G H g i = ap (λ F. F f k) g ∙ close_into t ordered (notes_at notes' m) H (λ x j u. ap (λ F. F x j) (sym g) ∙ i x j u) f k e

  search_on : Search t code notes' flags'
  search_on = record {
    around = record {
      holds_all = λ M g j i f k e. d.kept j f k (s.around.holds_all M g j i f k e)
          (λ v. ap (λ F. F f k) target_is ∙ gone M g j true i (w.to_target ∙ v) f k e)
          (λ v. ap (λ F. F f k) next_is ∙ gone M g j false i (w.to_next ∙ v) f k e);
      belong = λ j i f k e. s.around.belong j i f k (d.within j f k e);
      first = λ i f k e. s.around.first i f k (d.within 0 f k e);
    };
    flagged = flagged_next t ordered code (flag_of flags) (flag_of flags') (notes_at notes) (notes_at notes') l s.flagged
        (λ m h. d.within m) inside (record { same = λ j i e f k u. d.unmoved j e f k u; down = λ j i e. d.down j e });
    closed = still_closed;
  }

pub push_done : (rule ws notes flags : List ℕ) (l : ℕ) (o p : Option ℕ) (F Y N : Facts) (notes' flags' : List ℕ) (r : Bool) → Asked rule ws
    → Search (table_in rule) (bare_code ws) notes flags → F ≡ notes_at notes l → Leads (table_in rule) (bare_code ws) l o p F Y N
    → Spread notes flags l o p Y N notes' flags' r → Pushed rule ws notes flags l notes' flags' r
push_done rule ws notes flags l o p F Y N notes' flags' r asked s e w d = record {
  searched = record {
    lessens = d.lessens;
    known = search_on (table_in rule) (ordered rule ws asked) (bare_code ws) notes flags l o p Y N notes' flags' r d
        (subst (λ G. Leads (table_in rule) (bare_code ws) l o p G Y N) e w) s;
  };
  down = d.same;
}

-- ---- a sweep

nothing_done : (rule ws notes flags : List ℕ) → Search (table_in rule) (bare_code ws) notes flags → Searched rule ws notes flags notes flags false
nothing_done rule ws notes flags s = record {
  lessens = record { notes_size = refl; flags_size = refl; no_more = le_refl _; less = λ d. clash d refl };
  known = s;
}

searched_both : (rule ws notes notes' notes'' flags flags' flags'' : List ℕ) (r r' : Bool)
    → Searched rule ws notes flags notes' flags' r → Searched rule ws notes' flags' notes'' flags'' r'
    → Searched rule ws notes flags notes'' flags'' (r' || r)
searched_both rule ws notes notes' notes'' flags flags' flags'' r r' s v = record {
  lessens = record {
    notes_size = v.lessens.notes_size ∙ s.lessens.notes_size;
    flags_size = v.lessens.flags_size ∙ s.lessens.flags_size;
    no_more = omega (arith, v.lessens.no_more, s.lessens.no_more);
    less = λ e. elim (or_some r' r e) [
      | inl u ↦ omega (arith, v.lessens.less u, s.lessens.no_more)
      | inr u ↦ omega (arith, v.lessens.no_more, s.lessens.less u)
    ];
  };
  known = v.known;
}

-- the lines before the next one with a flag: all of them, where none has
unfoldable pub before : (lines : ℕ) → Maybe ℕ → ℕ
before lines None = lines
before lines (Some l) = l

-- none of those has a flag
unflagged : (flags : List ℕ) (start lines : ℕ) (o : Maybe ℕ) → NextLine flags start lines o
    → (m : ℕ) → start ≤ m → m < before lines o → m < lines → flag_of flags m ≡ false
unfolding before
unflagged flags start lines None n m a b c = n m a c
unflagged flags start lines (Some l) n m a b c = n.1.none_before m a b c

pub next_line : (flags : List ℕ) (start lines : ℕ) (o : Maybe ℕ) → NextLine flags start lines o → IfSome o (λ l. l < lines)
next_line flags start lines None n = tt
next_line flags start lines (Some l) n = n.0

-- the next one is at line l, and the one after it is later
pub at_flag : (lines l : ℕ) (o : Maybe ℕ) → o ≡ Some l → before lines o ≡ l
unfolding before
at_flag lines l o e = ap (before lines) e

pub later : (flags : List ℕ) (lines l : ℕ) (o p : Maybe ℕ) → o ≡ Some l → IfSome o (λ m. m < lines) → NextLine flags (l + 1) lines p
    → lines - before lines p < lines - before lines o
unfolding before
later flags lines l o None e h n = let i : l < lines = rw e at h in rw e (omega arith)
later flags lines l o (Some m) e h n = let i : l < lines = rw e at h in let f = n.1.from in rw e (omega arith)

pub swept_start : (rule ws notes flags : List ℕ) (o : Maybe ℕ) → Search (table_in rule) (bare_code ws) notes flags → NextLine flags 0 (length ws) o
    → Swept rule ws notes flags notes flags false (before (length ws) o)
swept_start rule ws notes flags o s n =
    record { searched = nothing_done rule ws notes flags s; down = λ d j h i. unflagged flags 0 (length ws) o n j (omega arith) h i }

-- line l was pushed, and o is the next with a flag
pub swept_next : (rule ws notes flags notes' flags' notes'' flags'' : List ℕ) (again r : Bool) (l : ℕ) (o : Maybe ℕ)
    → Swept rule ws notes flags notes' flags' again l → Pushed rule ws notes' flags' l notes'' flags'' r → NextLine flags'' (l + 1) (length ws) o
    → Swept rule ws notes flags notes'' flags'' (r || again) (before (length ws) o)
swept_next rule ws notes flags notes' flags' notes'' flags'' again r l o s v n = record {
  searched = searched_both rule ws notes notes' notes'' flags flags' flags'' again r s.searched v.searched;
  down = λ e j h i. let (a, b) = or_none r again e in elim (le_or_lt (l + 1) j) [
    | inl u ↦ unflagged flags'' (l + 1) (length ws) o n j u h i
    | inr u ↦ v.down a j (elim (same_or_other j l) [ inl z ↦ inl z | inr z ↦ inr (s.down b j (omega (arith, z)) i) ])
  ];
}

-- ---- sweeps

-- at a sweep's start: the notes of the search so far
pub record Settling (rule ws notes flags notes' flags' : List ℕ) : Type 0 where
  pub notes_size : length notes' ≡ length notes
  pub flags_size : length flags' ≡ length flags
  pub known : Search (table_in rule) (bare_code ws) notes' flags'

-- ---- a line's seven words written

-- ys stand in the place of the k words from word a on
module _ (a k : ℕ) (xs ys : List ℕ) (h : a ≤ length xs) (e : length ys ≡ k) where
  abbrev pub pasted : List ℕ
  pasted = take a xs ++ (ys ++ drop k (drop a xs))

  pasted_inside : (j : ℕ) → j < k → get_or pasted (a + j) 0 ≡ get_or ys j 0
  pasted_inside j i =
      let z : a + j - a ≡ j = omega arith in
      get_or-append_right (take a xs) (ys ++ drop k (drop a xs)) a (a + j) 0 (length-take-le a xs h) (omega arith)
      ∙ ap (λ n. get_or (ys ++ drop k (drop a xs)) n 0) z ∙ get_or-append ys (drop k (drop a xs)) 0 j (omega arith)

  pasted_ahead : (i : ℕ) → i < a → get_or pasted i 0 ≡ get_or xs i 0
  pasted_ahead i l = get_or-append (take a xs) (ys ++ drop k (drop a xs)) 0 i (omega (arith, length-take-le a xs h)) ∙ get_or-take a xs i 0 l

  pasted_behind : (i : ℕ) → a + k ≤ i → get_or pasted i 0 ≡ get_or xs i 0
  pasted_behind i l =
      let z : a + (k + (i - a - k)) ≡ i = omega arith in
      get_or-append_right (take a xs) (ys ++ drop k (drop a xs)) a i 0 (length-take-le a xs h) (omega arith)
      ∙ get_or-append_right ys (drop k (drop a xs)) k (i - a) 0 e (omega arith)
      ∙ get_or-drop k (drop a xs) (i - a - k) 0 ∙ get_or-drop a xs (k + (i - a - k)) 0 ∙ ap (λ n. get_or xs n 0) z

  pub length_pasted : a + k ≤ length xs → length pasted ≡ length xs
  length_pasted n = simp (length-append, length-drop) (omega (arith, length-take-le a xs h))

pub put_done : (notes : List ℕ) (l : ℕ) (x : FactWords) (ws : List ℕ) → 7 * l + 7 ≤ length notes → ws ≡ words_in x
    → Put notes l (facts_of x) (take (7 * l) notes ++ (ws ++ drop 7 (drop (7 * l) notes)))
put_done notes l x ws h e =
    let n : 7 * l ≤ length notes = omega arith in
    let k : length ws ≡ 7 = ap length e in
    record {
      size = length_pasted (7 * l) 7 notes ws n k h;
      at_line = fun_ext (λ f. ap set_of (pasted_inside (7 * l) 7 notes ws n k (word_number f) (number_small f) ∙ ap (λ ys. get_or ys (word_number f) 0) e ∙ word_of_lem x f));
      others = λ j d. fun_ext (λ f. let i : word_number f < 7 = number_small f in ap set_of (elim (le_or_lt l j) [
        | inl u ↦ pasted_behind (7 * l) 7 notes ws n k (7 * j + word_number f) (omega (arith, d))
        | inr u ↦ pasted_ahead (7 * l) 7 notes ws n k (7 * j + word_number f) (omega arith)
      ]));
    }

-- ---- the start

pub record Prepared (notes₀ flags₀ : List ℕ) (G : Facts) (notes flags : List ℕ) (n : ℕ) : Type 0 where
  pub notes_size : length notes ≡ length notes₀
  pub flags_size : length flags ≡ length flags₀
  pub all_facts : (j : ℕ) → j < n → notes_at notes j ≡ G
  pub up : (j : ℕ) → j < n → flag_of flags j ≡ true

pub prepared_start : (notes flags : List ℕ) (G : Facts) → Prepared notes flags G notes flags 0
prepared_start notes flags G = record { notes_size = refl; flags_size = refl; all_facts = λ j h. absurd (omega arith); up = λ j h. absurd (omega arith) }

pub prepared_next : (notes₀ flags₀ : List ℕ) (G : Facts) (notes notes' flags flags' : List ℕ) (n : ℕ)
    → Prepared notes₀ flags₀ G notes flags n → Put notes n G notes' → FlagSet flags n true flags' → Prepared notes₀ flags₀ G notes' flags' (n + 1)
prepared_next notes₀ flags₀ G notes notes' flags flags' n p q s = record {
  notes_size = q.size ∙ p.notes_size;
  flags_size = s.size ∙ p.flags_size;
  all_facts = λ j u. elim (same_or_other j n) [
    | inl z ↦ subst (λ x. notes_at notes' x ≡ G) (sym z) q.at_line
    | inr z ↦ q.others j z ∙ p.all_facts j (omega (arith, z))
  ];
  up = λ j u. elim (same_or_other j n) [
    | inl z ↦ subst (λ x. flag_of flags' x ≡ true) (sym z) s.at_line
    | inr z ↦ s.others j z ∙ p.up j (omega (arith, z))
  ];
}

module _ (rule ws notes₀ flags₀ notes notes' flags : List ℕ) (asked : Asked rule ws) (G H : Facts)
    (g : G ≡ belongs (table_in rule)) (f : H ≡ first_facts (table_in rule))
    (p : Prepared notes₀ flags₀ G notes flags (length ws)) (q : Put notes 0 H notes') where
  starts : (l : ℕ) → l < length ws → notes_at notes' l ≡ start_notes (table_in rule) l
  unfolding start_notes
  starts zero h = q.at_line ∙ f
  starts (suc l) h = q.others (suc l) (λ (e : suc l ≡ 0). omega arith) ∙ p.all_facts (suc l) h ∙ g

  pub prepared_end : Search (table_in rule) (bare_code ws) notes' flags
  prepared_end =
      let t = table_in rule in
      let o = ordered rule ws asked in
      let code = bare_code ws in
      record {
        around = around_same t o code (start_notes t) (notes_at notes')
            (λ l h. subst (λ F. start_notes t l ⊑ F) (sym (starts l (omega (arith, length_bare ws)))) (λ x k e. e))
            (λ l h. subst (λ F. F ⊑ start_notes t l) (sym (starts l (omega (arith, length_bare ws)))) (λ x k e. e)) (around_start t o code);
        flagged = flagged_start t o code (flag_of flags) (notes_at notes') (λ l h. p.up l (omega (arith, length_bare ws)));
        closed = λ l h. subst (λ F. close t F ⊑ F) (sym (starts l (omega (arith, length_bare ws)))) (start_closed t o l);
      }

-- ---- the end

pub settled_largest : (rule ws notes flags : List ℕ) → Asked rule ws → Search (table_in rule) (bare_code ws) notes flags
    → ((l : ℕ) → l < length ws → flag_of flags l ≡ false) → LargestAt rule ws notes
settled_largest rule ws notes flags asked s d =
    flagged_end (table_in rule) (ordered rule ws asked) (bare_code ws) (flag_of flags) (notes_at notes) s.around s.flagged
    (λ l h. d l (omega (arith, length_bare ws)))
