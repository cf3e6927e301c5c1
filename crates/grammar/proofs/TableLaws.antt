-- The words of a formula's table (`specs/Nodes.antt`), in any stored form.
--     SmallTests                   the formula's tests fit a node
--     length_words                 as many words as nodes
--     table_words, rule_words_lem      the words are read back as the table, and so stand for the formula
--     words_accepted               and questions 1 to 4 let them pass
--     words_moved                  moved to another form they are the words of that form
-- Assumes nothing.
use mathlib.Core.Path.{◌≡◌, refl, ap, ap₂, ◌∙◌}
use mathlib.Core.Bool.{true}
use mathlib.Core.List.{[], ◌∷◌, ◌++◌, map}
use Prim.Native.Nat.{ℕ, zero, suc, ◌+◌, ◌≤◌, ◌<◌}
use native.Mathlib.Omega.{arith}
use lib.ListN.{length, get_or, length-map}
use borrow.Author.Tests.{lt-ltb, le-leb}
use Rattle.spec.specs.Logic.{Test, equal, below, equal_registers, Formula, never, test, implies, since, weak_previous}
use Rattle.spec.specs.Questions.{passed}
use Rattle.spec.specs.Rule.{Form, Node, false_node, test_node, implies_node, since_node, weak_previous_node, node_of, fields_of_node, Table, table_of, rule_of, question1, node_allowed, fields_fit, question2, question3, question4, mentions, check_rule}
use Rattle.spec.proofs.BoolLaws.{both_and}
use Rattle.spec.proofs.QuestionLaws.{then_passed, once_in, ask_in}
use Rattle.spec.proofs.NodeWordLaws.{SmallFields, node_fields_lem, fields_fit_lem}
use Rattle.spec.proofs.StoredLaws.{GoodForm}
use Rattle.grammar.specs.Nodes.{size, last_from, nodes_from, word_of_node, rule_words}
use Rattle.grammar.proofs.NodeLaws.{size_some, length_nodes, lower_all, rule_nodes}
use Rattle.grammar.proofs.MentionLaws.{mentioned}

abbrev pub SmallTest : Test → Type 0
SmallTest (equal r c) = (r < 16) × (c < 16384)
SmallTest (below r c) = (r < 16) × (c < 16384)
SmallTest (equal_registers r q) = (r < 16) × (q < 16)

abbrev pub SmallTests : Formula → Type 0
SmallTests never = Unit {0}
SmallTests (test a) = SmallTest a
SmallTests (implies φ ψ) = SmallTests φ × SmallTests ψ
SmallTests (since φ ψ) = SmallTests φ × SmallTests ψ
SmallTests (weak_previous φ) = SmallTests φ

-- ---- nodes whose fields a form of this width can hold

pub record SmallNode (width : ℕ) (x : Node) : Type 0 where
  pub small : SmallFields width (fields_of_node x)
  pub allowed : node_allowed x ≡ true

abbrev AllSmall : ℕ → Table → Type 0
AllSmall width [] = Unit {0}
AllSmall width (x ∷ t) = SmallNode width x × AllSmall width t

small_append : (width : ℕ) (xs ys : Table) → AllSmall width xs → AllSmall width ys → AllSmall width (xs ++ ys)
small_append width [] ys a b = b
small_append width (x ∷ xs) ys a b = (a.0, small_append width xs ys a.1 b)

module _ (width : ℕ) (some : 0 < width) where
  fields_small : {kind register constant left right : ℕ} → kind < 8 → register < 16 → constant < 16384 → left < width → right < width
      → SmallFields width (record { kind = kind; register = register; constant = constant; left = left; right = right; spare = 0 })
  fields_small k r c l q = record { kind_small = k; register_small = r; constant_small = c; left_small = l; right_small = q; no_spare = refl }

  pub small_false : SmallNode width false_node
  unfolding fields_of_node
  small_false = record { small = fields_small (omega arith) (omega arith) (omega arith) some some; allowed = refl }

  pub small_test : (a : Test) → SmallTest a → SmallNode width (test_node a)
  unfolding fields_of_node
  small_test (equal r c) s = record { small = fields_small (omega arith) s.0 s.1 some some; allowed = refl }
  small_test (below r c) s = record { small = fields_small (omega arith) s.0 s.1 some some; allowed = refl }
  small_test (equal_registers r q) s = record { small = fields_small (omega arith) s.0 (let z = s.1 in omega arith) some some; allowed = lt-ltb q 16 s.1 }

  pub small_implies : (l r : ℕ) → l < width → r < width → SmallNode width (implies_node l r)
  unfolding fields_of_node
  small_implies l r p q = record { small = fields_small (omega arith) (omega arith) (omega arith) p q; allowed = refl }

  pub small_since : (l r : ℕ) → l < width → r < width → SmallNode width (since_node l r)
  unfolding fields_of_node
  small_since l r p q = record { small = fields_small (omega arith) (omega arith) (omega arith) p q; allowed = refl }

  pub small_weak : (l : ℕ) → l < width → SmallNode width (weak_previous_node l)
  unfolding fields_of_node
  small_weak l p = record { small = fields_small (omega arith) (omega arith) (omega arith) p some; allowed = refl }

small_over : (φ ψ : Formula) (k width : ℕ) (x : Node) → AllSmall width (nodes_from k φ) → AllSmall width (nodes_from (k + size φ) ψ) → SmallNode width x
    → AllSmall width (nodes_from k φ ++ (nodes_from (k + size φ) ψ ++ x ∷ []))
small_over φ ψ k width x a b c = small_append width (nodes_from k φ) _ a (small_append width (nodes_from (k + size φ) ψ) (x ∷ []) b (c, tt))

small_nodes : (φ : Formula) (k width : ℕ) → SmallTests φ → k + size φ ≤ width → AllSmall width (nodes_from k φ)
unfolding nodes_from size
small_nodes never k width s h = (small_false width (omega arith), tt)
small_nodes (test a) k width s h = (small_test width (omega arith) a s, tt)
small_nodes (implies φ ψ) k width s h =
    let p = size_some φ in
    let q = size_some ψ in
    small_over φ ψ k width _ (small_nodes φ k width s.0 (omega arith)) (small_nodes ψ (k + size φ) width s.1 (omega arith))
    (small_implies width (omega arith) (last_from k (size φ)) (last_from (k + size φ) (size ψ)) (omega arith) (omega arith))
small_nodes (since φ ψ) k width s h =
    let p = size_some φ in
    let q = size_some ψ in
    small_over φ ψ k width _ (small_nodes φ k width s.0 (omega arith)) (small_nodes ψ (k + size φ) width s.1 (omega arith))
    (small_since width (omega arith) (last_from k (size φ)) (last_from (k + size φ) (size ψ)) (omega arith) (omega arith))
small_nodes (weak_previous φ) k width s h =
    let p = size_some φ in
    small_append width (nodes_from k φ) _ (small_nodes φ k width s (omega arith)) (small_weak width (omega arith) (last_from k (size φ)) (omega arith), tt)

-- ---- the words

pub length_words : (form : Form) (φ : Formula) → length (rule_words form φ) ≡ size φ
unfolding rule_words
length_words form φ = length-map (nodes_from 0 φ) (word_of_node form) ∙ length_nodes φ 0

module _ (form : Form) (good : GoodForm form) where
  read_word : (x : Node) → SmallNode form.width x → form.read_node (word_of_node form x) ≡ fields_of_node x
  unfolding word_of_node
  read_word x s = good.node_stored (fields_of_node x) s.small

  read_words : (t : Table) → AllSmall form.width t → table_of form (map (word_of_node form) t) ≡ t
  unfolding table_of
  read_words [] s = refl
  read_words (x ∷ t) s = ap₂ ◌∷◌ (ap node_of (read_word x s.0) ∙ node_fields_lem x) (read_words t s.1)

  moved_words : (to : Form) (t : Table) → AllSmall form.width t
      → map (λ w. to.store_node (form.read_node w)) (map (word_of_node form) t) ≡ map (word_of_node to) t
  unfolding word_of_node
  moved_words to [] s = refl
  moved_words to (x ∷ t) s = ap₂ ◌∷◌ (ap to.store_node (read_word x s.0)) (moved_words to t s.1)

  words_fit : (t : Table) → AllSmall form.width t → (k : ℕ) → k < length t → fields_fit (form.read_node (get_or (map (word_of_node form) t) k 0)) ≡ true
  words_fit [] s k h = absurd (omega arith)
  words_fit (x ∷ t) s zero h = ap fields_fit (read_word x s.0) ∙ fields_fit_lem x s.0.allowed
  words_fit (x ∷ t) s (suc k) h = words_fit t s.1 k (omega arith)

  module _ (φ : Formula) (small : SmallTests φ) (few : size φ ≤ form.width) where
    all_small : AllSmall form.width (nodes_from 0 φ)
    all_small = small_nodes φ 0 form.width small (omega arith)

    pub table_words : table_of form (rule_words form φ) ≡ nodes_from 0 φ
    unfolding rule_words
    table_words = read_words (nodes_from 0 φ) all_small

    pub rule_words_lem : rule_of (table_of form (rule_words form φ)) ≡ φ
    rule_words_lem = ap rule_of table_words ∙ rule_nodes φ

    one : question1 form (rule_words form φ) ≡ passed tt
    unfolding question1
    one =
        let l = length_words form φ in
        let p = size_some φ in
        once_in 1 _ (both_and (lt-ltb 0 (length (rule_words form φ)) (omega arith)) (le-leb (length (rule_words form φ)) form.width (omega arith)))

    two : question2 form (rule_words form φ) ≡ passed tt
    unfolding question2 rule_words
    two = ask_in 2 _ _ (λ k h. words_fit (nodes_from 0 φ) all_small k (let l = length-map (nodes_from 0 φ) (word_of_node form) in omega arith))

    three : question3 (nodes_from 0 φ) ≡ passed tt
    unfolding question3
    three = ask_in 3 _ _ (lower_all φ)

    four : question4 (nodes_from 0 φ) ≡ passed tt
    unfolding question4
    four = ask_in 4 _ _ (λ k h.
        le-leb 1 (mentions (nodes_from 0 φ) k) (omega (arith, (mentioned φ 0).inside k (omega arith) (let l = length_nodes φ 0 in omega arith))))

    pub words_accepted : check_rule form (rule_words form φ) ≡ passed tt
    unfolding check_rule
    words_accepted =
        then_passed _ _ one ∙ then_passed _ _ two ∙ then_passed _ _ (ap question3 table_words ∙ three) ∙ (ap question4 table_words ∙ four)

    -- a word is moved by reading its fields and storing them in the other form
    pub words_moved : (to : Form) → map (λ w. to.store_node (form.read_node w)) (rule_words form φ) ≡ rule_words to φ
    unfolding rule_words
    words_moved to = moved_words to (nodes_from 0 φ) all_small
