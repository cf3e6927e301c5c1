-- Words of either stored form, read as 64 bits.
--     kind_by .. spare_by          a field is at its place
--     past_by                      whether it is a past node is told by the kind
--     upper_fields                 kind, register and constant are the upper bits
--     small_by                     fields have space at their places
--     word_by_lem                  word k, as 64 bits
--     fields_by_lem, length_by         the fields of a rule's word, and how many words there are
--     node_by_lem, past_end            node k of the table is read from word k; past the last node the table has a false
--     lower_by                     question 3 at node k, by the word
--     rest_by                      the table from node k on starts with node k
-- Assumes nothing.
use mathlib.Core.Path.{◌≡◌, refl, sym, ap, ap₂, ◌∙◌}
use mathlib.Core.Bool.{Bool, true, false, cond, ◌||◌}
use mathlib.Core.List.{List, ◌∷◌}
use Prim.Native.Nat.{ℕ, suc, ◌+◌, ◌*◌, ◌/◌, ◌%◌, ◌^◌, ◌≤◌, ◌<◌}
use native.Mathlib.Omega.{arith}
use lib.ListN.{length, get_or, drop, length-map, get_or-map, get_or-eq_default}
use lib.Seq.{drop-cons}
use lib.Pow.{shr-shr, shl-shr}
use lib.Dec.{eqb, ltb}
use Rattle.spec.specs.Questions.{all}
use Rattle.spec.specs.Rule.{NodeFields, node_fields, form32, form64, node_of, false_node, node_at, is_past, operands, operands_lower}
use Rattle.spec.proofs.RuleLaws.{node_read_lem, length_table}
use Rattle.spec.proofs.StoredLaws.{good32, good64}
use Rattle.moves.specs.Moves.{widen_word, narrow_word}
use Rattle.rule.proofs.NodeLaws.{since_kind, weak_kind, past_either}
use Rattle.rule.specs.Nodes.{fields_in, node_in, form_by, wide_word, words_in, fields_by, node_by, table_by}

past_kind : (f : NodeFields) → is_past (node_of f) ≡ (eqb f.kind 4 || eqb f.kind 5)
past_kind f = past_either (node_of f) ∙ ap₂ ◌||◌ (since_kind f) (weak_kind f)

-- ---- a field at its place

pub kind_by : (w : ℕ) (b : Bool) → (fields_in w).kind ≡ (fields_by b w).kind
kind_by w true = refl
kind_by w false = ap (λ x. x % 8) (sym (shr-shr w 32 29))

pub register_by : (w : ℕ) (b : Bool) → (fields_in w).register ≡ (fields_by b w).register
register_by w true = refl
register_by w false = ap (λ x. x % 16) (sym (shr-shr w 32 25))

pub constant_by : (w : ℕ) (b : Bool) → (fields_in w).constant ≡ (fields_by b w).constant
constant_by w true = refl
constant_by w false = ap (λ x. x % 16384) (sym (shr-shr w 32 11))

pub left_by : (w : ℕ) (b : Bool) → w / cond b (2 ^ 37) (2 ^ 38) % cond b 64 32 ≡ (fields_by b w).left
left_by w true = refl
left_by w false = ap (λ x. x % 32) (sym (shr-shr w 32 6))

pub right_by : (w : ℕ) (b : Bool) → w / cond b (2 ^ 31) (2 ^ 33) % cond b 64 32 ≡ (fields_by b w).right
right_by w true = refl
right_by w false = ap (λ x. x % 32) (sym (shr-shr w 32 1))

pub spare_by : (w : ℕ) (b : Bool) → w / cond b 1 (2 ^ 32) % cond b (2 ^ 31) 2 ≡ (fields_by b w).spare
spare_by w true = ap (λ x. x % 2 ^ 31) (let e : w / 1 ≡ w = omega arith in e)
spare_by w false = refl

pub past_by : (w : ℕ) (b : Bool) → is_past (node_in w) ≡ is_past (node_by b w)
past_by w b =
    let k = kind_by w b in
    past_kind (fields_in w) ∙ ap (λ n. eqb n 4 || eqb n 5) k ∙ sym (past_kind (fields_by b w))

-- kind, register and constant are the upper bits
pub upper_fields : (w : ℕ) → w < 2 ^ 64 → w / 2 ^ 43 ≡ (fields_in w).kind * 2 ^ 18 + (fields_in w).register * 2 ^ 14 + (fields_in w).constant
upper_fields w h =
    let v = w / 2 ^ 43 in
    let few : v < 2 ^ 21 = omega arith in
    let parts : v ≡ v / 2 ^ 18 % 8 * 2 ^ 18 + v / 2 ^ 14 % 16 * 2 ^ 14 + v % 2 ^ 14 = omega arith in
    parts ∙ ap₂ (λ x y. x % 8 * 2 ^ 18 + y % 16 * 2 ^ 14 + v % 2 ^ 14) (shr-shr w 43 18) (shr-shr w 43 14)

pub positive_by : (b : Bool) (m n : ℕ) → 0 < m → 0 < n → 0 < cond b m n
positive_by true m n g h = g
positive_by false m n g h = h

pub below_by : (b : Bool) (x m n k : ℕ) → x < cond b m n → m ≤ k → n ≤ k → x < k
below_by true x m n k l g h = omega arith
below_by false x m n k l g h = omega arith

pub record SmallFields (f : NodeFields) : Type 0 where
  pub register_small : f.register < 16
  pub constant_small : f.constant < 16384
  pub left_small : f.left < 64
  pub right_small : f.right < 64

pub small_by : (w : ℕ) (b : Bool) → SmallFields (fields_by b w)
small_by w true = record { register_small = omega arith; constant_small = omega arith; left_small = omega arith; right_small = omega arith }
small_by w false = record { register_small = omega arith; constant_small = omega arith; left_small = omega arith; right_small = omega arith }

-- ---- a rule

pub length_by : (b : Bool) (rule : List ℕ) → length (words_in b rule) ≡ length rule
length_by true rule = refl
length_by false rule = length-map rule widen_word

pub word_by_lem : (b : Bool) (rule : List ℕ) (k : ℕ) → get_or (words_in b rule) k 0 ≡ wide_word b (get_or rule k 0)
word_by_lem true rule k = refl
word_by_lem false rule k = get_or-map widen_word rule k 0

pub fields_by_lem : (b : Bool) (rule : List ℕ) (k : ℕ) → fields_by b (get_or (words_in b rule) k 0) ≡ (form_by b).read_node (get_or rule k 0)
unfolding form32 form64
fields_by_lem true rule k = refl
fields_by_lem false rule k = ap node_fields (ap narrow_word (get_or-map widen_word rule k 0) ∙ shl-shr (get_or rule k 0) 32)

no_node : (b : Bool) → node_of ((form_by b).read_node 0) ≡ false_node
no_node true = good64.no_node
no_node false = good32.no_node

module _ (b : Bool) (rule : List ℕ) where
  pub node_by_lem : (k : ℕ) → node_at (table_by b rule) k ≡ node_by b (get_or (words_in b rule) k 0)
  node_by_lem k = node_read_lem (form_by b) (no_node b) rule k ∙ ap node_of (sym (fields_by_lem b rule k))

  pub past_end : (k : ℕ) → length rule ≤ k → node_at (table_by b rule) k ≡ false_node
  past_end k h = get_or-eq_default (table_by b rule) false_node {n = k} (rw (length_table (form_by b) rule) h)

  pub lower_by : (k : ℕ) → operands_lower (table_by b rule) k ≡ all (λ j. ltb j k) (operands (node_by b (get_or (words_in b rule) k 0)))
  unfolding operands_lower
  lower_by k = ap (λ x. all (λ j. ltb j k) (operands x)) (node_by_lem k)

  pub rest_by : (k : ℕ) → k < length rule
      → drop k (table_by b rule) ≡ node_by b (get_or (words_in b rule) k 0) ∷ drop (suc k) (table_by b rule)
  rest_by k h =
      drop-cons (table_by b rule) k false_node (rw (length_table (form_by b) rule) h)
      ∙ ap (λ x. x ∷ drop (suc k) (table_by b rule)) (node_by_lem k)
