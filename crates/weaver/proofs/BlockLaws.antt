-- A block, part after part.
--     updating_series, keeping_series     the code of the nodes with a work bit and the 12 lines, a node at a time
--     keep_length, all_keeps, keeping_room, keeping_few, keeping_node    how many lines the 12s have
--     updatable_room, updating_few, updating_node, updating_size, updating_code    a node's code can be written where the loop has come to
--     present_code                      the present and the 12 lines
--     guard_few, guard_size, guard_last, guard_length, guard_code    deciding the last node, and the rest
--     block_updatable, block_few, block_room, block_guarding, updates_length, block_code    the block
-- Assumes nothing.
use mathlib.Core.Path.{◌≡◌, refl, sym, ap, ap₂, ◌∙◌}
use mathlib.Core.Bool.{Bool, true, false, cond}
use mathlib.Core.List.{List, [], ◌∷◌, ◌++◌, append_assoc}
use Prim.Native.Nat.{ℕ, suc, ◌+◌, ◌-◌, ◌*◌, ◌≤◌, ◌<◌}
use native.Mathlib.Omega.{arith}
use lib.ListN.{length, get_or}
use Rattle.spec.specs.Questions.{count}
use Rattle.spec.specs.Rule.{form64, Table, node_at, last_node, is_past}
use Rattle.spec.specs.Script.{keep, present}
use Rattle.spec.specs.Facts.{value_is, Facts, ◌∪◌, one}
use Rattle.spec.specs.Check.{Lines}
use Rattle.spec.specs.Weaver.{line, done_facts, keep_facts, decide_size, decide, updates, updates_size, keeps, block_size, block, work_code, work_size}
use Rattle.spec.proofs.RuleLaws.{InOrder, length_table, rule_out}
use Rattle.spec.proofs.WeaverLaws.{pasts_count, length_decide, length_updates, length_keeps, length_work}
use Rattle.weaver.specs.Laid.{Deciding, Updatable, Guarding, Blocking, Working}
use Rattle.weaver.specs.Parts.{present_lines, guard_lines}
use Rattle.rule.specs.Nodes.{table_in, form_in}
use Rattle.facts.specs.Written.{Space}
use Rattle.weaver.proofs.SeriesLaws.{Series, Filled, filled_room, filled_part}

-- ---- a node at a time

pub updates_none : (t : Table) (place : ℕ) → updates 0 t place ≡ []
unfolding updates
updates_none t place = refl

pub updates_more : (t : Table) (place k : ℕ) → updates k t place ++ work_code t k (place + updates_size k t) (done_facts t k) ≡ updates (suc k) t place
unfolding updates
updates_more t place k = refl

abbrev pub updating_series : (t : Table) (place : ℕ) → Series
updating_series t place = record {
  whole = λ k. updates k t place;
  part = λ k. work_code t k (place + updates_size k t) (done_facts t k);
  start = updates_none t place;
  next = updates_more t place;
}

pub keeps_none : (t : Table) → keeps 0 t ≡ []
unfolding keeps
keeps_none t = refl

pub keeps_more : (t : Table) (k : ℕ) → keeps k t ++ cond (is_past (node_at t k)) (line (keep k) (keep_facts t k) ∷ []) [] ≡ keeps (suc k) t
unfolding keeps
keeps_more t k = refl

abbrev pub keeping_series : (t : Table) → Series
keeping_series t = record {
  whole = λ k. keeps k t;
  part = λ k. cond (is_past (node_at t k)) (line (keep k) (keep_facts t k) ∷ []) [];
  start = keeps_none t;
  next = keeps_more t;
}

pub keep_length : (b : Bool) (k : ℕ) (F : Facts) → length (cond b (line (keep k) F ∷ []) []) ≡ cond b 1 0
keep_length true k F = refl
keep_length false k F = refl

pub keeps_length : (t : Table) → length (keeps (length t) t) ≡ count is_past t
keeps_length t = length_keeps (length t) t ∙ pasts_count t

pub all_keeps : (rule : List ℕ) → length (keeps (length rule) (table_in rule)) ≡ count is_past (table_in rule)
all_keeps rule = ap (λ n. length (keeps n (table_in rule))) (sym (length_table form_in rule)) ∙ keeps_length (table_in rule)

pub keeping_room : (rule : List ℕ) (at : ℕ) (out : List ℕ) → Space at (count is_past (table_in rule)) out → 8 * (at + length (keeps (length rule) (table_in rule))) ≤ length out
keeping_room rule at out h = omega (arith, all_keeps rule)

one_more : (b : Bool) (m n : ℕ) → m ≤ n → cond b 1 0 + m ≤ suc n
one_more true m n h = omega arith
one_more false m n h = omega arith

count_few : (t : Table) → count is_past t ≤ length t
count_few [] = omega arith
count_few (x ∷ t) = one_more (is_past x) (count is_past t) (length t) (count_few t)

pub keeping_few : (rule : List ℕ) → length rule ≤ 64 → length (keeps (length rule) (table_in rule)) ≤ 64
keeping_few rule h = omega (arith, all_keeps rule, count_few (table_in rule), length_table form_in rule)

-- where the loop has come to, there is space for node k's 12, and the lines are few
pub keeping_node : (b : Bool) (rule : List ℕ) (at : ℕ) (o₀ : List ℕ) {o : List ℕ} {c k : ℕ} → length rule ≤ 64 → Space at (count is_past (table_in rule)) o₀
    → Filled (keeping_series (table_in rule)) b at o₀ o c k → k < length rule
    → (8 * (at + c + cond (is_past (node_at (table_in rule) k)) 1 0) ≤ length o) × (c + cond (is_past (node_at (table_in rule) k)) 1 0 ≤ 64)
keeping_node b rule at o₀ {o} {c} {k} few room i h =
    let t = table_in rule in
    let all = keeping_room rule at o₀ room in
    let q = filled_part (keeping_series t) b at o₀ o c k (length rule) i (omega arith) all h in
    let m = (filled_room (keeping_series t) b at o₀ o c k (length rule) i (omega arith) all).1 in
    let z = keep_length (is_past (node_at t k)) k (keep_facts t k) in
    let most = keeping_few rule few in
    (omega (arith, all_keeps rule), omega arith)

-- ---- the code of the nodes with a work bit

module _ {rule sizes : List ℕ} {shared place : ℕ} (b : Bool) (o₀ : List ℕ) (u : Updatable rule sizes shared place o₀) where
  order : InOrder (table_in rule)
  order = (rule_out form_in rule u.sized.0).ordered

  all_updates : length (updates (length rule) (table_in rule) place) ≡ updates_size (length rule) (table_in rule)
  all_updates = length_updates (table_in rule) order (length rule) place

  pub updatable_room : 8 * (0 + length (updates (length rule) (table_in rule) place)) ≤ length o₀
  updatable_room = let o = u.in_output in omega (arith, all_updates)

  module _ {o : List ℕ} {c k : ℕ} (i : Filled (updating_series (table_in rule) place) b 0 o₀ o c k) (h : k < length rule) where
    abbrev code : ℕ → Facts → Lines
    code p F = work_code (table_in rule) k p F

    pub line_count_lem : c ≡ updates_size k (table_in rule)
    line_count_lem = i.0 ∙ length_updates (table_in rule) order k place

    part_count : length (code (place + updates_size k (table_in rule)) (done_facts (table_in rule) k)) ≡ work_size (table_in rule) k
    part_count = length_work (table_in rule) order k _ _

    -- the lines of the first k nodes and of node k
    part_within : c + work_size (table_in rule) k ≤ updates_size (length rule) (table_in rule)
    part_within =
        let q = filled_part (updating_series (table_in rule) place) b 0 o₀ o c k (length rule) i (omega arith) updatable_room h in
        omega (arith, all_updates, part_count)

    pub updating_few : (place + c < 1024) × (c + work_size (table_in rule) k < 1024)
    updating_few = let q = part_within in let s = u.in_script in (omega arith, omega arith)

    pub updating_node : Working rule sizes shared k place (place + c) o
    updating_node =
        let q = part_within in
        let s = u.in_script in
        let room = u.in_output in
        let m = (filled_room (updating_series (table_in rule) place) b 0 o₀ o c k (length rule) i (omega arith) updatable_room).1 in
        record {
          sized = u.sized;
          shared_is = u.shared_is;
          is_node = h;
          in_script = omega arith;
          from_base = omega arith;
          in_output = omega arith;
        }

    pub updating_size : (m : ℕ) → m ≡ work_size (table_in rule) k → m ≡ length (code (place + updates_size k (table_in rule)) (done_facts (table_in rule) k))
    updating_size m e = e ∙ sym part_count

    pub updating_code : (F : Facts) → F ≡ done_facts (table_in rule) k
        → code (place + c) F ≡ code (place + updates_size k (table_in rule)) (done_facts (table_in rule) k)
    updating_code F e = ap₂ (λ m G. code (place + m) G) line_count_lem e

-- ---- the present and the 12 lines

pub present_code : (rule : List ℕ) (F : Facts) → (line present (F ∪ one (value_is true) (length rule - 1)) ∷ []) ++ keeps (length rule) (table_in rule) ≡ present_lines (table_in rule) F
unfolding present_lines
present_code rule F =
    ap (λ n. line present (F ∪ one (value_is true) (n - 1)) ∷ keeps n (table_in rule)) (sym (length_table form_in rule))

-- ---- deciding the last node

module _ {rule sizes : List ℕ} {shared : ℕ} {base place end : ℕ} {out : List ℕ} (g : Guarding rule sizes shared base place end out) where
  abbrev last : ℕ
  last = length rule - 1

  last_is : last_node (table_in rule) ≡ last
  last_is = ap (λ n. n - 1) (length_table form_in rule)

  pub guard_few : (0 < length rule) × (length rule ≤ 64)
  unfolding form64
  guard_few = let r = rule_out form_in rule g.sized.0 in (r.some_node, r.few_nodes)

  pub guard_size : get_or sizes last 0 ≡ decide_size (table_in rule) (last_node (table_in rule))
  guard_size = let f = guard_few in g.sized.1 last (omega arith) ∙ ap (decide_size (table_in rule)) (sym last_is)

  pub guard_last : Deciding rule sizes shared false last base place (place + get_or sizes last 0) end out
  guard_last =
      let f = guard_few in
      let s = g.in_script in
      let o = g.in_output in
      let e : decide_size (table_in rule) last ≡ decide_size (table_in rule) (last_node (table_in rule)) = ap (decide_size (table_in rule)) (sym last_is) in
      record {
        sized = g.sized;
        shared_is = g.shared_is;
        is_node = omega arith;
        true_line = omega (arith, guard_size);
        false_line = g.end_line;
        in_script = omega arith;
        from_base = g.from_base;
        in_output = omega arith;
      }

  pub guard_length : (F : Facts) → length (decide (table_in rule) last place (place + get_or sizes last 0) end F) ≡ get_or sizes last 0
  guard_length F =
      length_decide (table_in rule) (rule_out form_in rule g.sized.0).ordered last _ _ _ _ ∙ ap (decide_size (table_in rule)) (sym last_is) ∙ sym guard_size

  pub guard_code : (F : Facts) → decide (table_in rule) last place (place + get_or sizes last 0) end F ++ present_lines (table_in rule) F ≡ guard_lines (table_in rule) place end F
  unfolding guard_lines
  guard_code F =
      ap₂ (λ k n. decide (table_in rule) k place (place + n) end F ++ present_lines (table_in rule) F) (sym last_is) guard_size

-- ---- the block

module _ {rule sizes : List ℕ} {shared : ℕ} {place : ℕ} {out : List ℕ} (b : Blocking rule sizes shared place out) where
  abbrev t : Table
  t = table_in rule

  ordered : InOrder t
  ordered = (rule_out form_in rule b.sized.0).ordered

  block_parts : block_size t ≡ updates_size (length rule) t + decide_size t (last_node t) + 1 + count is_past t
  unfolding block_size
  block_parts = ap (λ n. updates_size n t + decide_size t (last_node t) + 1 + count is_past t) (length_table form_in rule)

  pub block_updatable : Updatable rule sizes shared place out
  block_updatable =
      let s = b.in_script in
      let o = b.in_output in
      record { sized = b.sized; shared_is = b.shared_is; in_script = omega (arith, block_parts); in_output = omega (arith, block_parts) }

  pub block_few : updates_size (length rule) t < 1024
  block_few = let s = b.in_script in omega (arith, block_parts)

  pub block_room : 8 * updates_size (length rule) t ≤ length out
  block_room = let o = b.in_output in omega (arith, block_parts)

  pub block_guarding : (n size : ℕ) (after : List ℕ) → n ≡ updates_size (length rule) t → size ≡ block_size t → length after ≡ length out
      → Guarding rule sizes shared place (place + n) (place + size) after
  block_guarding n size after en es e =
      let s = b.in_script in
      let o = b.in_output in
      record {
        sized = b.sized;
        shared_is = b.shared_is;
        end_line = omega arith;
        in_script = omega (arith, block_parts);
        from_base = omega arith;
        in_output = omega (arith, block_parts);
      }

  pub updates_length : length (updates (length rule) t place) ≡ updates_size (length rule) t
  updates_length = length_updates t ordered (length rule) place

  pub block_code : (n size : ℕ) (F : Facts) → n ≡ updates_size (length rule) t → size ≡ block_size t → F ≡ done_facts t (length t)
      → updates (length rule) t place ++ guard_lines t (place + n) (place + size) F ≡ block t place
  unfolding block guard_lines present_lines
  block_code n size F en es ef =
      let e : length rule ≡ length t = sym (length_table form_in rule) in
      ap₂ (λ m G. updates (length rule) t place ++ guard_lines t (place + m) (place + size) G) (en ∙ ap (λ k. updates_size k t) e) ef
      ∙ ap₂ (λ k m. updates k t place ++ guard_lines t (place + updates_size (length t) t) (place + m) (done_facts t (length t))) e es
      ∙ sym (append_assoc (updates (length t) t place) _ _)
