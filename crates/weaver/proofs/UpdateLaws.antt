-- The code of a node with a work bit, part after part.
--     deciding_in, deciding_some                 into any output of the same length; deciding takes at least a line
--     length_left                                how many lines precede a since node's setting
--     end_few, end_size, end_left                the rest of a since node's code
--     since_space, weak_space, shared_space      the lines that a node's code takes: there is room for them
--     since_right, since_end_lem, since_size, since_code    a since node's code
--     weak_left, weak_size, weak_code            a weak previous node's code
--     no_code                                    other nodes have none
--     own_is, shared_size_lem, shared_own, shared_code_lem      a shared node's code
--     past_size, past_code, past_updating        the code of a node that is not shared
-- Assumes nothing.
use mathlib.Core.Path.{◌≡◌, refl, sym, ap, ap₂, ◌∙◌}
use mathlib.Core.Bool.{true, false}
use mathlib.Core.List.{List, [], ◌++◌, append_assoc}
use Prim.Native.Nat.{ℕ, ◌+◌, ◌-◌, ◌<◌, ◌≤◌}
use native.Mathlib.Omega.{arith}
use lib.ListN.{length, get_or}
use lib.Dec.{ltb}
use Rattle.spec.specs.Questions.{all}
use Rattle.spec.specs.Rule.{form64, since_node, weak_previous_node, Table, node_at, is_shared, operands, is_past, Node, false_node, test_node, implies_node}
use Rattle.spec.specs.Script.{most_lines}
use Rattle.spec.specs.Facts.{prior_is, Facts, ◌∪◌, one}
use Rattle.spec.specs.Weaver.{size_from, decide_size, decide_from, decide, setting, update, update_size, shared_size, shared_code, work_size, work_code}
use Rattle.spec.proofs.RuleLaws.{InOrder, both_lower, one_lower, rule_out}
use Rattle.spec.proofs.WeaverLaws.{length_decide}
use Rattle.layout.proofs.SizeLaws.{nodes_few, own_at}
use Rattle.weaver.specs.Parts.{left_lines, since_end}
use Rattle.weaver.specs.Laid.{Deciding, Updating, Working, Ending}
use Rattle.rule.specs.Nodes.{form_in, node_in, table_in}
use Rattle.rule.proofs.NodeLaws.{node_at_lem}
use Rattle.facts.specs.Written.{Space}
use Rattle.spec.proofs.BoolLaws.{clash}
use Rattle.weaver.proofs.DecisionLaws.{size_some}

-- a node can be decided into any output of the same length
pub deciding_in : (rule sizes : List ℕ) (shared : ℕ) (k base place on_true on_false : ℕ) (out after : List ℕ) → length after ≡ length out
    → Deciding rule sizes shared false k base place on_true on_false out → Deciding rule sizes shared false k base place on_true on_false after
deciding_in rule sizes shared k base place on_true on_false out after e d =
    let o = d.in_output in
    record {
      sized = d.sized;
      shared_is = d.shared_is;
      is_node = d.is_node;
      true_line = d.true_line;
      false_line = d.false_line;
      in_script = d.in_script;
      from_base = d.from_base;
      in_output = omega arith;
    }

pub deciding_some : (rule sizes : List ℕ) (shared : ℕ) (k base place on_true on_false : ℕ) (out : List ℕ) → Deciding rule sizes shared false k base place on_true on_false out
    → 0 < decide_size (table_in rule) k
deciding_some rule sizes shared k base place on_true on_false out d = size_some (table_in rule) (rule_out form_in rule d.sized.0).ordered k

pub length_left : (t : Table) → InOrder t → (k left place set : ℕ) (F : Facts) → length (left_lines t k left place set F) ≡ 2 + decide_size t left
unfolding left_lines
length_left t o k left place set F = omega (arith, length_decide t o left (place + 2) set (set + 2) (F ∪ one (prior_is true) k))

-- n lines of node k's code: there are at most 64 nodes, another line of the script stands after them, and the output has space
abbrev Room : (k n base place : ℕ) (out : List ℕ) → Type 0
Room k n base place out = (k < 64) × (place + n < most_lines) × (base ≤ place) × Space (place - base) n out

-- ---- the rest of a since node's code

module _ {rule sizes : List ℕ} {shared k l r base place : ℕ} {out : List ℕ} (u : Ending rule sizes shared k l r base place out) where
  abbrev n : ℕ
  n = get_or sizes l 0

  pub end_few : (k < 64) × (l < 64) × (r < 64)
  unfolding form64
  end_few =
      let a = (rule_out form_in rule u.sized.0).few_nodes in
      let i = u.is_node in
      let b = u.lower in
      (omega arith, omega arith, omega arith)

  pub end_size : n ≡ decide_size (table_in rule) l
  end_size = let b = u.lower.0 in let i = u.is_node in u.sized.1 l (omega arith)

  pub end_left : Deciding rule sizes shared false l base (place + 2) (place + 2 + n) (place + 2 + n + 2) out
  end_left =
      let b = u.lower.0 in
      let i = u.is_node in
      let a = u.in_script in
      let o = u.in_output in
      let f = u.from_base in
      record {
        sized = u.sized;
        shared_is = u.shared_is;
        is_node = omega arith;
        true_line = omega (arith, end_size);
        false_line = omega (arith, end_size);
        in_script = omega (arith, end_size);
        from_base = omega arith;
        in_output = omega (arith, end_size);
      }

-- ---- a since node's code

module _ {rule sizes : List ℕ} {shared k base place : ℕ} {out : List ℕ} (u : Updating rule sizes shared k base place out) where
  abbrev t : Table
  t = table_in rule

  order : InOrder t
  order = (rule_out form_in rule u.sized.0).ordered

  pub node_few : k < 64
  unfolding form64
  node_few = let a = (rule_out form_in rule u.sized.0).few_nodes in let i = u.is_node in omega arith

  size_at : (j : ℕ) → j < k → get_or sizes j 0 ≡ decide_size t j
  size_at j b = let i = u.is_node in u.sized.1 j (omega arith)

  module _ {left right : ℕ} (is-since : node_at t k ≡ since_node left right) where
    pub since_lower : (left < k) × (right < k)
    since_lower = both_lower k left right (ap (λ x. all (λ j. ltb j k) (operands x)) (sym is-since) ∙ order.lower k)

    pub left_size : get_or sizes left 0 ≡ decide_size t left
    left_size = size_at left since_lower.0

    pub right_size : get_or sizes right 0 ≡ decide_size t right
    right_size = size_at right since_lower.1

    pub since_size : get_or sizes right 0 + 2 + get_or sizes left 0 + 3 ≡ update_size t (node_at t k)
    unfolding update_size
    since_size = ap₂ (λ a b. a + 2 + b + 3) right_size left_size ∙ ap (update_size t) (sym is-since)

    pub since_space : (left < k) × (right < k) × Room k (get_or sizes right 0 + 2 + get_or sizes left 0 + 3) base place out
    since_space =
        let a = u.in_script in
        let o = u.in_output in
        (since_lower.0, since_lower.1, (node_few, omega (arith, since_size), u.from_base, omega (arith, since_size)))

    pub since_right : Deciding rule sizes shared false right base place (place + get_or sizes right 0 + 2 + get_or sizes left 0) (place + get_or sizes right 0) out
    since_right =
        let b = since_lower.1 in
        let i = u.is_node in
        let a = u.in_script in
        let o = u.in_output in
        record {
          sized = u.sized;
          shared_is = u.shared_is;
          is_node = omega arith;
          true_line = omega (arith, since_size);
          false_line = omega (arith, since_size);
          in_script = omega (arith, since_size, right_size);
          from_base = u.from_base;
          in_output = omega (arith, since_size, right_size);
        }

    pub since_end_lem : (after : List ℕ) → length after ≡ length out → Ending rule sizes shared k left right base (place + get_or sizes right 0) after
    since_end_lem after same =
        let f = u.from_base in
        let a = u.in_script in
        let o = u.in_output in
        record {
          sized = u.sized;
          shared_is = u.shared_is;
          is_node = u.is_node;
          lower = since_lower;
          in_script = omega (arith, since_size, left_size);
          from_base = omega arith;
          in_output = omega (arith, since_size, left_size, same);
        }

    pub since_code : (F : Facts)
        → decide t right place (place + get_or sizes right 0 + 2 + get_or sizes left 0) (place + get_or sizes right 0) F ++ since_end t k left right (place + get_or sizes right 0) F
        ≡ update t (node_at t k) k place F
    unfolding update since_end left_lines
    since_code F =
        ap₂ (λ a b. decide t right place (place + a + 2 + b) (place + a) F ++ since_end t k left right (place + a) F) right_size left_size
        ∙ sym (append_assoc (decide t right place (place + decide_size t right + 2 + decide_size t left) (place + decide_size t right) F) _ _)
        ∙ ap (λ x. update t x k place F) (sym is-since)

  module _ {left : ℕ} (is-weak : node_at t k ≡ weak_previous_node left) where
    pub weak_lower : left < k
    weak_lower = one_lower k left (ap (λ x. all (λ j. ltb j k) (operands x)) (sym is-weak) ∙ order.lower k)

    pub weak_left_size : get_or sizes left 0 ≡ decide_size t left
    weak_left_size = size_at left weak_lower

    pub weak_size : get_or sizes left 0 + 3 ≡ update_size t (node_at t k)
    unfolding update_size
    weak_size = ap (λ a. a + 3) weak_left_size ∙ ap (update_size t) (sym is-weak)

    pub weak_space : (left < k) × Room k (get_or sizes left 0 + 3) base place out
    weak_space =
        let a = u.in_script in
        let o = u.in_output in
        (weak_lower, (node_few, omega (arith, weak_size), u.from_base, omega (arith, weak_size)))

    pub weak_left : Deciding rule sizes shared false left base place (place + get_or sizes left 0) (place + get_or sizes left 0 + 2) out
    weak_left =
        let b = weak_lower in
        let i = u.is_node in
        let a = u.in_script in
        let o = u.in_output in
        record {
          sized = u.sized;
          shared_is = u.shared_is;
          is_node = omega arith;
          true_line = omega (arith, weak_size);
          false_line = omega (arith, weak_size);
          in_script = omega (arith, weak_size, weak_left_size);
          from_base = u.from_base;
          in_output = omega (arith, weak_size, weak_left_size);
        }

    pub weak_code : (F : Facts)
        → decide t left place (place + get_or sizes left 0) (place + get_or sizes left 0 + 2) F ++ setting k left (place + get_or sizes left 0) F
        ≡ update t (node_at t k) k place F
    unfolding update
    weak_code F =
        ap (λ a. decide t left place (place + a) (place + a + 2) F ++ setting k left (place + a) F) weak_left_size
        ∙ ap (λ x. update t x k place F) (sym is-weak)

-- ---- other nodes

pub no_code : (t : Table) (x : Node) (k place : ℕ) (F : Facts) → is_past x ≡ false → (0 ≡ update_size t x) × ([] ≡ update t x k place F)
unfolding update_size update
no_code t false_node k place F e = (refl, refl)
no_code t (test_node a) k place F e = (refl, refl)
no_code t (implies_node l r) k place F e = (refl, refl)
no_code t (since_node l r) k place F e = clash refl e
no_code t (weak_previous_node l) k place F e = clash refl e

-- ---- any node

module _ {rule sizes : List ℕ} {shared k base place : ℕ} {out : List ℕ} (u : Working rule sizes shared k base place out) where
  abbrev table : Table
  table = table_in rule

  -- n lines decide node k, which is read as x
  module _ (s : is_shared table k ≡ true) {n : ℕ} {x : Node} (e : n ≡ size_from (λ j. get_or sizes j 0) x 0) (d : x ≡ node_in (get_or rule k 0)) where
    pub own_is : n ≡ size_from (decide_size table) (node_at table k) k
    own_is =
        let i = u.is_node in
        e ∙ ap (λ y. size_from (λ j. get_or sizes j 0) y 0) (d ∙ sym (node_at_lem rule k)) ∙ own_at rule sizes k u.sized.0 (λ j l. u.sized.1 j (omega arith))

    pub shared_size_lem : n + 3 ≡ work_size table k
    unfolding work_size shared_size
    shared_size_lem = rw s (omega (arith, own_is))

    pub shared_space : Room k (n + 3) base place out
    shared_space =
        let a = u.in_script in
        let o = u.in_output in
        let i = u.is_node in
        (omega (arith, nodes_few rule u.sized.0), omega (arith, shared_size_lem), u.from_base, omega (arith, shared_size_lem))

    pub shared_own : Deciding rule sizes shared true k base place (place + n) (place + n + 2) out
    shared_own =
        let a = u.in_script in
        let o = u.in_output in
        record {
          sized = u.sized;
          shared_is = u.shared_is;
          is_node = u.is_node;
          true_line = omega (arith, shared_size_lem);
          false_line = omega (arith, shared_size_lem);
          in_script = omega (arith, shared_size_lem, own_is);
          from_base = u.from_base;
          in_output = omega (arith, shared_size_lem, own_is);
        }

    pub shared_code_lem : (F : Facts)
        → decide_from table (decide table) (node_at table k) k place (place + n) (place + n + 2) F ++ setting k k (place + n) F ≡ work_code table k place F
    unfolding work_code shared_code
    shared_code_lem F = rw (s, own_is)

  module _ (s : is_shared table k ≡ false) where
    pub past_size : update_size table (node_at table k) ≡ work_size table k
    unfolding work_size
    past_size = rw s

    pub past_code : (F : Facts) → update table (node_at table k) k place F ≡ work_code table k place F
    unfolding work_code
    past_code F = rw s

    pub past_updating : Updating rule sizes shared k base place out
    past_updating =
        let a = u.in_script in
        let o = u.in_output in
        record {
          sized = u.sized;
          shared_is = u.shared_is;
          is_node = u.is_node;
          in_script = omega (arith, past_size);
          from_base = u.from_base;
          in_output = omega (arith, past_size);
        }
