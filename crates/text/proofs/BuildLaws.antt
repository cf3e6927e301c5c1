-- The words that are built (`specs/Building.antt`) are those of the opened formula's table.
--     put_length, begins_length, finishes_length      how many words
--     onto, build_onto            a formula's words behind others are what its text formula builds
--     build_words                 so a text formula builds its opened formula's words
--     cost_size                   and its tokens cost as many as these are
-- Assumes nothing.
use mathlib.Core.Path.{◌≡◌, refl, sym, ap, ap₂, ◌∙◌}
use mathlib.Core.Bool.{true, false}
use mathlib.Core.List.{List, [], ◌∷◌, ◌++◌, map, append_assoc}
use Prim.Native.Nat.{ℕ, ◌+◌}
use native.Mathlib.Omega.{arith}
use lib.ListN.{length, length-append, length-map}
use Rattle.spec.specs.Logic.{Formula, never, implies, since, weak_previous}
use Rattle.spec.specs.Rule.{Form, Node, false_node, implies_node, since_node, weak_previous_node, Table}
use Rattle.grammar.specs.Typed.{Prefix, not, wprev, prev, once, sofar, Operator, since_word, and_word, or_word, implies_word, TextFormula, constant, atom, prefixed, joined, opened_prefix, opened_operator, opened}
use Rattle.grammar.specs.Grammar.{prefix_word, operator_word, close_sign, Token, word, sign, Spells, a_constant, an_atom, in_brackets, a_prefixed, a_joined, tighter}
use Rattle.grammar.specs.Nodes.{size, last_from, over, nodes_from, word_of_node, rule_words}
use Rattle.grammar.specs.Reading.{Waiting, awaiting, with_left}
use Rattle.grammar.proofs.ReadingLaws.{build}
use Rattle.grammar.proofs.NodeLaws.{length_nodes}
use Rattle.text.specs.Building.{last_of, put, put_implies, put_since, put_weak, put_not, put_true, begins, finishes, words, begin_cost, finish_cost, token_cost, cost}

-- ---- how many

module _ (form : Form) where
  pub put_length : (x : Node) (ws : List ℕ) → length (put form x ws) ≡ length ws + 1
  unfolding put
  put_length x ws = length-append ws (word_of_node form x ∷ [])

  pub implies_length : (l : ℕ) (ws : List ℕ) → length (put_implies form l ws) ≡ length ws + 1
  unfolding put_implies
  implies_length l ws = put_length (implies_node l (last_of ws)) ws

  pub since_length : (l : ℕ) (ws : List ℕ) → length (put_since form l ws) ≡ length ws + 1
  unfolding put_since
  since_length l ws = put_length (since_node l (last_of ws)) ws

  pub weak_length : (ws : List ℕ) → length (put_weak form ws) ≡ length ws + 1
  unfolding put_weak
  weak_length ws = put_length (weak_previous_node (last_of ws)) ws

  pub not_length : (ws : List ℕ) → length (put_not form ws) ≡ length ws + 2
  unfolding put_not
  not_length ws = let a = put_length false_node ws in let b = implies_length (last_of ws) (put form false_node ws) in omega arith

  pub true_length : (ws : List ℕ) → length (put_true form ws) ≡ length ws + 3
  unfolding put_true
  true_length ws = let a = put_length false_node ws in let b = not_length (put form false_node ws) in omega arith

  pub begins_length : (w : Waiting) (ws : List ℕ) → length (begins form w ws) ≡ length ws + begin_cost w
  begins_length (awaiting not) ws = omega arith
  begins_length (awaiting wprev) ws = omega arith
  begins_length (awaiting prev) ws = omega arith
  begins_length (awaiting once) ws = true_length ws
  begins_length (awaiting sofar) ws = true_length ws
  begins_length (with_left since_word) ws = omega arith
  begins_length (with_left and_word) ws = omega arith
  begins_length (with_left or_word) ws = not_length ws
  begins_length (with_left implies_word) ws = omega arith

  pub finishes_length : (w : Waiting) (l : ℕ) (ws : List ℕ) → length (finishes form w l ws) ≡ length ws + finish_cost w
  finishes_length (awaiting not) l ws = not_length ws
  finishes_length (awaiting wprev) l ws = weak_length ws
  finishes_length (awaiting prev) l ws =
      let a = not_length ws in
      let b = weak_length (put_not form ws) in
      let c = not_length (put_weak form (put_not form ws)) in omega arith
  finishes_length (awaiting once) l ws = since_length l ws
  finishes_length (awaiting sofar) l ws =
      let a = not_length ws in
      let b = since_length l (put_not form ws) in
      let c = not_length (put_since form l (put_not form ws)) in omega arith
  finishes_length (with_left since_word) l ws = since_length l ws
  finishes_length (with_left and_word) l ws =
      let a = not_length ws in
      let b = implies_length l (put_not form ws) in
      let c = not_length (put_implies form l (put_not form ws)) in omega arith
  finishes_length (with_left or_word) l ws = implies_length l ws
  finishes_length (with_left implies_word) l ws = implies_length l ws

  -- ---- a formula's words behind others

  unfoldable pub onto : Formula → List ℕ → List ℕ
  onto φ ws = ws ++ map (word_of_node form) (nodes_from (length ws) φ)

  onto_length : (φ : Formula) (ws : List ℕ) → length (onto φ ws) ≡ length ws + size φ
  unfolding onto
  onto_length φ ws =
      length-append ws (map (word_of_node form) (nodes_from (length ws) φ))
      ∙ ap (λ n. length ws + n) (length-map (nodes_from (length ws) φ) (word_of_node form) ∙ length_nodes φ (length ws))

  map_append : (xs ys : Table) → map (word_of_node form) (xs ++ ys) ≡ map (word_of_node form) xs ++ map (word_of_node form) ys
  map_append [] ys = refl
  map_append (x ∷ xs) ys = ap (λ l. word_of_node form x ∷ l) (map_append xs ys)

  -- one formula's words, then another's
  onto_then : (φ ψ : Formula) (ws : List ℕ)
      → (ws ++ map (word_of_node form) (nodes_from (length ws) φ)) ++ map (word_of_node form) (nodes_from (length ws + size φ) ψ) ≡ onto ψ (onto φ ws)
  unfolding onto
  onto_then φ ψ ws =
      ap (λ n. (ws ++ map (word_of_node form) (nodes_from (length ws) φ)) ++ map (word_of_node form) (nodes_from n ψ)) (sym (onto_length φ ws))

  -- and a node over them
  onto_over : (φ ψ : Formula) (ws : List ℕ) (node : ℕ → ℕ → Node)
      → ws ++ map (word_of_node form) (nodes_from (length ws) φ ++ (nodes_from (length ws + size φ) ψ ++ over node (length ws) (size φ) (size ψ) ∷ []))
      ≡ put form (node (last_of (onto φ ws)) (last_of (onto ψ (onto φ ws)))) (onto ψ (onto φ ws))
  unfolding put
  onto_over φ ψ ws node =
      ap (λ l. ws ++ l) (map_append xs (ys ++ x ∷ []) ∙ ap (λ l. map (word_of_node form) xs ++ l) (map_append ys (x ∷ [])))
      ∙ sym (append_assoc ws (map (word_of_node form) xs) (map (word_of_node form) ys ++ word_of_node form x ∷ []))
      ∙ sym (append_assoc (ws ++ map (word_of_node form) xs) (map (word_of_node form) ys) (word_of_node form x ∷ []))
      ∙ ap₂ (λ l y. l ++ word_of_node form y ∷ []) (onto_then φ ψ ws) (ap₂ node left right)
    where
      xs : Table
      xs = nodes_from (length ws) φ

      ys : Table
      ys = nodes_from (length ws + size φ) ψ

      x : Node
      x = over node (length ws) (size φ) (size ψ)

      left : last_from (length ws) (size φ) ≡ last_of (onto φ ws)
      left = let z = onto_length φ ws in omega arith

      right : last_from (length ws + size φ) (size ψ) ≡ last_of (onto ψ (onto φ ws))
      right = let z = onto_length φ ws in let y = onto_length ψ (onto φ ws) in omega arith

  onto_never : (ws : List ℕ) → onto never ws ≡ put form false_node ws
  unfolding onto nodes_from put
  onto_never ws = refl

  onto_implies : (φ ψ : Formula) (ws : List ℕ) → onto (implies φ ψ) ws ≡ put_implies form (last_of (onto φ ws)) (onto ψ (onto φ ws))
  onto_implies φ ψ ws = unfold onto nodes_from put_implies in onto_over φ ψ ws implies_node

  onto_since : (φ ψ : Formula) (ws : List ℕ) → onto (since φ ψ) ws ≡ put_since form (last_of (onto φ ws)) (onto ψ (onto φ ws))
  onto_since φ ψ ws = unfold onto nodes_from put_since in onto_over φ ψ ws since_node

  onto_weak : (φ : Formula) (ws : List ℕ) → onto (weak_previous φ) ws ≡ put_weak form (onto φ ws)
  unfolding onto nodes_from put_weak put
  onto_weak φ ws =
      let z : last_from (length ws) (size φ) ≡ last_of (onto φ ws) = let y = onto_length φ ws in omega arith in
      ap (λ l. ws ++ l) (map_append (nodes_from (length ws) φ) (weak_previous_node (last_from (length ws) (size φ)) ∷ []))
      ∙ sym (append_assoc ws (map (word_of_node form) (nodes_from (length ws) φ)) _)
      ∙ ap (λ l. (ws ++ map (word_of_node form) (nodes_from (length ws) φ)) ++ word_of_node form (weak_previous_node l) ∷ []) z

  -- ---- the opened words

  onto_not : (φ : Formula) (ws : List ℕ) → onto (implies φ never) ws ≡ put_not form (onto φ ws)
  onto_not φ ws = onto_implies φ never ws ∙ ap (put_implies form (last_of (onto φ ws))) (onto_never (onto φ ws)) ∙ unfold put_not in refl

  onto_true : (ws : List ℕ) → onto (implies never never) ws ≡ put_true form ws
  onto_true ws = onto_not never ws ∙ ap (put_not form) (onto_never ws) ∙ unfold put_true in refl

  onto_once : (φ : Formula) (ws : List ℕ) → onto (since (implies never never) φ) ws ≡ put_since form (last_of (put_true form ws)) (onto φ (put_true form ws))
  onto_once φ ws = onto_since (implies never never) φ ws ∙ ap (λ l. put_since form (last_of l) (onto φ l)) (onto_true ws)

  -- what a word builds around its operand, whose words are those of the formula φ
  prefix_onto : (p : Prefix) (φ : Formula) (ws : List ℕ)
      → finishes form (awaiting p) (last_of (begins form (awaiting p) ws)) (onto φ (begins form (awaiting p) ws)) ≡ onto (opened_prefix p φ) ws
  prefix_onto not φ ws = sym (onto_not φ ws)
  prefix_onto wprev φ ws = sym (onto_weak φ ws)
  prefix_onto prev φ ws = sym (onto_not (weak_previous (implies φ never)) ws ∙ ap (put_not form) (onto_weak (implies φ never) ws ∙ ap (put_weak form) (onto_not φ ws)))
  prefix_onto once φ ws = sym (onto_once φ ws)
  prefix_onto sofar φ ws =
      sym (onto_not (since (implies never never) (implies φ never)) ws
      ∙ ap (put_not form) (onto_once (implies φ never) ws ∙ ap (put_since form (last_of (put_true form ws))) (onto_not φ (put_true form ws))))

  operator_onto : (o : Operator) (φ ψ : Formula) (ws : List ℕ)
      → finishes form (with_left o) (last_of (begins form (with_left o) (onto φ ws))) (onto ψ (begins form (with_left o) (onto φ ws))) ≡ onto (opened_operator o φ ψ) ws
  operator_onto since_word φ ψ ws = sym (onto_since φ ψ ws)
  operator_onto and_word φ ψ ws =
      sym (onto_not (implies φ (implies ψ never)) ws
      ∙ ap (put_not form) (onto_implies φ (implies ψ never) ws ∙ ap (put_implies form (last_of (onto φ ws))) (onto_not ψ (onto φ ws))))
  operator_onto or_word φ ψ ws = sym (onto_implies (implies φ never) ψ ws ∙ ap (λ l. put_implies form (last_of l) (onto ψ l)) (onto_not φ ws))
  operator_onto implies_word φ ψ ws = sym (onto_implies φ ψ ws)

  pub build_onto : (φ : TextFormula) (ws : List ℕ) → build (words form) φ ws ≡ onto (opened φ) ws
  unfolding build opened
  build_onto (constant true) ws = sym (onto_true ws)
  build_onto (constant false) ws = sym (onto_never ws)
  build_onto (atom k r c) ws = unfold onto nodes_from put in refl
  build_onto (prefixed p φ) ws =
      ap (finishes form (awaiting p) (last_of (begins form (awaiting p) ws))) (build_onto φ (begins form (awaiting p) ws)) ∙ prefix_onto p (opened φ) ws
  build_onto (joined o φ ψ) ws =
      ap (λ l. finishes form (with_left o) (last_of (begins form (with_left o) l)) (build (words form) ψ (begins form (with_left o) l))) (build_onto φ ws)
      ∙ ap (finishes form (with_left o) (last_of (begins form (with_left o) (onto (opened φ) ws)))) (build_onto ψ (begins form (with_left o) (onto (opened φ) ws)))
      ∙ operator_onto o (opened φ) (opened ψ) ws

  pub build_words : (φ : TextFormula) → build (words form) φ [] ≡ rule_words form (opened φ)
  build_words φ = build_onto φ [] ∙ unfold onto rule_words in refl

-- ---- what tokens cost

prefix_size : (p : Prefix) (φ : Formula) → size (opened_prefix p φ) ≡ token_cost (word (prefix_word p)) + size φ
unfolding size
prefix_size not φ = omega arith
prefix_size wprev φ = omega arith
prefix_size prev φ = omega arith
prefix_size once φ = omega arith
prefix_size sofar φ = omega arith

operator_size : (o : Operator) (φ ψ : Formula) → size (opened_operator o φ ψ) ≡ size φ + (token_cost (word (operator_word o)) + size ψ)
unfolding size
operator_size since_word φ ψ = omega arith
operator_size and_word φ ψ = omega arith
operator_size or_word φ ψ = omega arith
operator_size implies_word φ ψ = omega arith

pub cost_one : (t : Token) (n : ℕ) → n ≡ token_cost t → n ≡ cost (t ∷ [])
unfolding cost
cost_one t n e = omega arith

pub cost_append : (ts us : List Token) → cost (ts ++ us) ≡ cost ts + cost us
unfolding cost
cost_append [] us = omega arith
cost_append (t ∷ ts) us = let e = cost_append ts us in omega arith

pub cost_size : {l : ℕ} {ts : List Token} {φ : TextFormula} → Spells l ts φ → cost ts ≡ size (opened φ)
unfolding cost opened size
cost_size (a_constant true) = refl
cost_size (a_constant false) = refl
cost_size (an_atom r c g) = refl
cost_size (in_brackets {ts = ts} e) = let a = cost_append ts (sign close_sign ∷ []) in let b = cost_size e in omega arith
cost_size (a_prefixed p {φ = φ} e) = let a = prefix_size p (opened φ) in let b = cost_size e in omega arith
cost_size (a_joined o {ts = ts} {us = us} {φ = φ} {ψ = ψ} e f) =
    let a = cost_append ts (word (operator_word o) ∷ us) in
    let b = operator_size o (opened φ) (opened ψ) in
    let x = cost_size e in
    let y = cost_size f in omega arith
cost_size (tighter e) = cost_size e
