-- A node's fields and its word (`specs/Rule.antt`).
--     SmallFields                fields that a form of this width can hold
--     fields_over, word_over, word_bits      both stored forms at once
--     FieldsWithin, fields_within         fields that have their bits: those of any word do
--     word_over_lt, fields_over_lem, word_over_lem    such a word has its bits; the fields come back from it, and a word from its fields
--     fields_stored, fields_stored64      document 01's word has its fields back, and 2026-07's
--     node_fields_lem, fields_fit_lem    a node's fields are read as that node, and question 2 lets them pass
-- Assumes nothing.
use mathlib.Core.Path.{◌≡◌, refl, sym, subst, ap, ◌∙◌}
use mathlib.Core.Bool.{true}
use Prim.Native.Nat.{ℕ, ◌+◌, ◌*◌, ◌/◌, ◌%◌, ◌^◌, ◌<◌}
use native.Mathlib.Nat.{add_assoc, mod-lt, mod-eq_of_lt}
use lib.Arith.{digits_lt}
use lib.Pow as pow
use lib.Pow.{pow_pos, pow-add, high, low, mod-pow-add, mod-mod-pow, recompose}
use Rattle.spec.specs.Logic.{equal, below, equal_registers}
use Rattle.spec.specs.Rule.{field, NodeFields, node_fields, node_word, node_fields64, node_word64, Node, false_node, test_node, implies_node, since_node, weak_previous_node, node_of, fields_of_node, unused_zero, node_allowed, fields_fit}

pub record SmallFields (width : ℕ) (f : NodeFields) : Type 0 where
  pub kind_small : f.kind < 8
  pub register_small : f.register < 16
  pub constant_small : f.constant < 16384
  pub left_small : f.left < width
  pub right_small : f.right < width
  pub no_spare : f.spare ≡ 0

-- ---- both stored forms at once: operands of n bits, above z zero bits. Document 01's words have 5 and 1, 2026-07's 6 and 31.

-- how many bits stand below the constant, the register and the kind; how many a word has
abbrev pub under_constant : (n z : ℕ) → ℕ
under_constant n z = n + (n + z)

abbrev pub under_register : (n z : ℕ) → ℕ
under_register n z = 14 + under_constant n z

abbrev pub under_kind : (n z : ℕ) → ℕ
under_kind n z = 4 + under_register n z

abbrev pub word_bits : (n z : ℕ) → ℕ
word_bits n z = 3 + under_kind n z

abbrev pub fields_over : (n z : ℕ) → ℕ → NodeFields
fields_over n z w = record {
  kind = field (under_kind n z) 3 w;
  register = field (under_register n z) 4 w;
  constant = field (under_constant n z) 14 w;
  left = field (n + z) n w;
  right = field z n w;
  spare = w % 2 ^ z;
}

abbrev pub word_over : (n z : ℕ) → NodeFields → ℕ
word_over n z f =
    f.kind * 2 ^ (under_kind n z) + f.register * 2 ^ (under_register n z) + f.constant * 2 ^ (under_constant n z)
    + f.left * 2 ^ (n + z) + f.right * 2 ^ z + f.spare

-- each field has its bits
pub record FieldsWithin (n z : ℕ) (f : NodeFields) : Type 0 where
  pub kind_within : f.kind < 2 ^ 3
  pub register_within : f.register < 2 ^ 4
  pub constant_within : f.constant < 2 ^ 14
  pub left_within : f.left < 2 ^ n
  pub right_within : f.right < 2 ^ n
  pub spare_within : f.spare < 2 ^ z

pub fields_within : (n z w : ℕ) → FieldsWithin n z (fields_over n z w)
fields_within n z w = record {
  kind_within = mod-lt _ (pow_pos 3);
  register_within = mod-lt _ (pow_pos 4);
  constant_within = mod-lt _ (pow_pos 14);
  left_within = mod-lt _ (pow_pos n);
  right_within = mod-lt _ (pow_pos n);
  spare_within = mod-lt _ (pow_pos z);
}

joined_lt : (j k x lo : ℕ) → x < 2 ^ j → lo < 2 ^ k → x * 2 ^ k + lo < 2 ^ (j + k)
joined_lt j k x lo h l = subst (λ p. x * 2 ^ k + lo < p) (sym (pow-add 2 j k)) (digits_lt h l)

-- the field above the k lowest bits, and those bits
field_of : (j k w x lo : ℕ) → lo < 2 ^ k → w % 2 ^ (j + k) ≡ x * 2 ^ k + lo → (w / 2 ^ k % 2 ^ j ≡ x) × (w % 2 ^ k ≡ lo)
field_of j k w x lo l e =
    (sym (pow.field w j k) ∙ ap (λ v. v / 2 ^ k) e ∙ high x k l, sym (mod-mod-pow w j k) ∙ ap (λ v. v % 2 ^ k) e ∙ low x k l)

-- fields that have their bits, from the lowest up: each with what stands below it has its bits too
module _ (n z : ℕ) (f : NodeFields) (s : FieldsWithin n z f) where
  abbrev right : ℕ
  right = f.right * 2 ^ z + f.spare

  abbrev left : ℕ
  left = f.left * 2 ^ (n + z) + right

  abbrev constant : ℕ
  constant = f.constant * 2 ^ (under_constant n z) + left

  abbrev register : ℕ
  register = f.register * 2 ^ (under_register n z) + constant

  abbrev whole : ℕ
  whole = f.kind * 2 ^ (under_kind n z) + register

  whole_is : word_over n z f ≡ whole
  whole_is = add_assoc _ _ _ ∙ add_assoc _ _ _ ∙ add_assoc _ _ _ ∙ add_assoc _ _ _

  right_lt : right < 2 ^ (n + z)
  right_lt = joined_lt n z f.right f.spare s.right_within s.spare_within

  left_lt : left < 2 ^ (under_constant n z)
  left_lt = joined_lt n (n + z) f.left right s.left_within right_lt

  constant_lt : constant < 2 ^ (under_register n z)
  constant_lt = joined_lt 14 (under_constant n z) f.constant left s.constant_within left_lt

  register_lt : register < 2 ^ (under_kind n z)
  register_lt = joined_lt 4 (under_register n z) f.register constant s.register_within constant_lt

  whole_lt : whole < 2 ^ (word_bits n z)
  whole_lt = joined_lt 3 (under_kind n z) f.kind register s.kind_within register_lt

  pub word_over_lt : word_over n z f < 2 ^ (word_bits n z)
  word_over_lt = subst (λ w. w < 2 ^ (word_bits n z)) (sym whole_is) whole_lt

  pub fields_over_lem : fields_over n z (word_over n z f) ≡ f
  fields_over_lem =
      let (a, e₁) = field_of 3 (under_kind n z) whole f.kind register register_lt (mod-eq_of_lt whole_lt) in
      let (b, e₂) = field_of 4 (under_register n z) whole f.register constant constant_lt e₁ in
      let (c, e₃) = field_of 14 (under_constant n z) whole f.constant left left_lt e₂ in
      let (d, e₄) = field_of n (n + z) whole f.left right right_lt e₃ in
      let (e, g) = field_of n z whole f.right f.spare s.spare_within e₄ in
      ap (fields_over n z) whole_is ∙ (λ i. record { kind = a i; register = b i; constant = c i; left = d i; right = e i; spare = g i })

-- a word has no other bits
pub word_over_lem : (n z w : ℕ) → w < 2 ^ (word_bits n z) → word_over n z (fields_over n z w) ≡ w
word_over_lem n z w h =
    let L = n + z in
    let C = under_constant n z in
    let R = under_register n z in
    let K = under_kind n z in
    let add : (low width : ℕ) → ℕ → ℕ = λ low width v. field low width w * 2 ^ low + v in
    let right_is : add z n (w % 2 ^ z) ≡ w % 2 ^ L = sym (mod-pow-add w n z) in
    let left_is : add L n (add z n (w % 2 ^ z)) ≡ w % 2 ^ C = ap (add L n) right_is ∙ sym (mod-pow-add w n L) in
    let constant-is : add C 14 (add L n (add z n (w % 2 ^ z))) ≡ w % 2 ^ R = ap (add C 14) left_is ∙ sym (mod-pow-add w 14 C) in
    let register-is : add R 4 (add C 14 (add L n (add z n (w % 2 ^ z)))) ≡ w % 2 ^ K = ap (add R 4) constant-is ∙ sym (mod-pow-add w 4 R) in
    add_assoc _ _ _ ∙ add_assoc _ _ _ ∙ add_assoc _ _ _ ∙ add_assoc _ _ _ ∙ ap (add K 3) register-is ∙ recompose {n = w} 3 K h

-- ---- each form's

small_within : (n z : ℕ) (f : NodeFields) → SmallFields (2 ^ n) f → FieldsWithin n z f
small_within n z f s = record {
  kind_within = s.kind_small;
  register_within = s.register_small;
  constant_within = s.constant_small;
  left_within = s.left_small;
  right_within = s.right_small;
  spare_within = subst (λ x. x < 2 ^ z) (sym s.no_spare) (pow_pos z);
}

pub fields_stored : (f : NodeFields) → SmallFields 32 f → node_fields (node_word f) ≡ f
fields_stored f s = fields_over_lem 5 1 f (small_within 5 1 f s)

pub fields_stored64 : (f : NodeFields) → SmallFields 64 f → node_fields64 (node_word64 f) ≡ f
fields_stored64 f s = fields_over_lem 6 31 f (small_within 6 31 f s)

pub node_fields_lem : (x : Node) → node_of (fields_of_node x) ≡ x
unfolding node_of fields_of_node
node_fields_lem false_node = refl
node_fields_lem (test_node (equal r c)) = refl
node_fields_lem (test_node (below r c)) = refl
node_fields_lem (test_node (equal_registers r q)) = refl
node_fields_lem (implies_node l r) = refl
node_fields_lem (since_node l r) = refl
node_fields_lem (weak_previous_node l) = refl

pub fields_fit_lem : (x : Node) → node_allowed x ≡ true → fields_fit (fields_of_node x) ≡ true
unfolding fields_fit unused_zero node_of fields_of_node
fields_fit_lem false_node e = e
fields_fit_lem (test_node (equal r c)) e = e
fields_fit_lem (test_node (below r c)) e = e
fields_fit_lem (test_node (equal_registers r q)) e = e
fields_fit_lem (implies_node l r) e = e
fields_fit_lem (since_node l r) e = e
fields_fit_lem (weak_previous_node l) e = e
