-- An annotated script moved to the second stored form (`specs/Moves.antt`) is the same script.
--     nodes_widen                  a fact word with zero bits below has the same nodes
--     word_widen, drop_widen       words of the moved script
--     lines_widen, stored_widen    the same lines, the same instruction words, nothing in an unused field
--     annotated_widen, belong_widen, facts_widen    the same answers to questions 5 to 7, to 8, and to 8 to 11
--     move_widen, script_widen     to questions 5 to 8, and to all
--     code_widen, bare_widen       to questions 1 to 7 of a script of one word a line, whose words stay
-- Not here: there and back (`LineBackLaws.antt`). Assumes nothing.
use mathlib.Core.Path.{◌≡◌, refl, sym, ap, ap₂, ◌∙◌}
use mathlib.Core.Logic.{inl, inr}
use mathlib.Core.Bool.{Bool, true}
use mathlib.Core.List.{List, [], ◌∷◌}
use Prim.Native.Nat.{ℕ, zero, suc, ◌+◌, ◌-◌, ◌*◌, ◌/◌, ◌%◌, ◌^◌, ◌≤◌, ◌<◌}
use native.Mathlib.Nat.{mul_assoc}
use native.Mathlib.Omega.{arith}
use lib.ListN.{length, get_or, take, drop, length-map, get_or-map}
use lib.Dec.{eqb}
use lib.Pow.{pow-add, shl-shr, shr-shr}
use lib.Bits.{shifted_even}
use borrow.Author.Tests.{lt-ltb}
use Rattle.spec.specs.Questions.{◌then◌, ask}
use Rattle.spec.specs.Rule.{form32, form64, Table, table_of}
use Rattle.spec.specs.Script.{instruction_read, annotated_opcode, bare_stored, bare_opcode, check_code, check_words, check_bare}
use Rattle.spec.specs.Facts.{Fact, word_number, belongs, Facts, among_below}
use Rattle.spec.specs.Check.{line_at, nodes_in, facts_read, line_read, lines_read, lines_of, annotated_stored, facts_belong, question8, question9, question10, question11, check_facts, check_script}
use Rattle.moves.specs.Moves.{widen_rule, widen_word, narrow_word, widen_script, check_move}
use Rattle.spec.proofs.BoolLaws.{bool_ext, le_or_lt}
use Rattle.spec.proofs.FactLaws.{among_in, among_out}
use Rattle.spec.proofs.StoredLaws.{no_nodes_lem}
use Rattle.largest.proofs.ObeyLaws.{slim_lines}
use Rattle.moves.proofs.NodeMoveLaws.{table_widen, check_widen}

-- ---- a fact word

-- a word of n bits with m zero bits below has the same nodes
pub nodes_widen : (n m w k : ℕ) → nodes_in (n + m) (w * 2 ^ m) k ≡ nodes_in n w k
unfolding nodes_in
nodes_widen n m w k =
    elim (le_or_lt n k) [
      | inl h ↦ elim (le_or_lt (n + m) k) [
        | inl u ↦ no_nodes_lem (n + m) (w * 2 ^ m) k u ∙ sym (no_nodes_lem n w k h)
        | inr u ↦
            let j = n + m - 1 - k in
            let e : m ≡ suc (k - n) + j = omega arith in
            let shifted : w * 2 ^ m / 2 ^ j ≡ w * 2 ^ suc (k - n) =
            ap (λ x. x / 2 ^ j) (ap (λ x. w * 2 ^ x) e ∙ ap (λ x. w * x) (pow-add 2 (suc (k - n)) j) ∙ sym (mul_assoc w (2 ^ suc (k - n)) (2 ^ j)))
            ∙ shl-shr (w * 2 ^ suc (k - n)) j in
            rw (lt-ltb k (n + m) u, shifted, shifted_even w (k - n)) (sym (no_nodes_lem n w k h))
      ]
      | inr h ↦
          let e : n + m - 1 - k ≡ m + (n - 1 - k) = omega arith in
          let u : k < n + m = omega arith in
          rw (lt-ltb k (n + m) u, lt-ltb k n h, e, ← shr-shr (w * 2 ^ m) m (n - 1 - k), shl-shr w m) refl
    ]

pub word_widen : (ws : List ℕ) (i : ℕ) → get_or (widen_script ws) i 0 ≡ widen_word (get_or ws i 0)
word_widen ws i = get_or-map widen_word ws i 0

facts_read_lem : (ws : List ℕ) → facts_read 64 (widen_script ws) ≡ facts_read 32 ws
unfolding facts_read
facts_read_lem ws i f k = (ap (λ w. nodes_in 64 w k) (word_widen ws (word_number f)) ∙ nodes_widen 32 32 (get_or ws (word_number f) 0) k) i

-- ---- lines

take_widen : (n : ℕ) (ws : List ℕ) → take n (widen_script ws) ≡ widen_script (take n ws)
take_widen zero ws = refl
take_widen (suc n) [] = refl
take_widen (suc n) (w ∷ ws) = ap (◌∷◌ (widen_word w)) (take_widen n ws)

pub drop_widen : (n : ℕ) (ws : List ℕ) → drop n (widen_script ws) ≡ widen_script (drop n ws)
drop_widen zero ws = refl
drop_widen (suc n) [] = refl
drop_widen (suc n) (w ∷ ws) = drop_widen n ws

up : (w : ℕ) → narrow_word (widen_word w) ≡ w
up w = shl-shr w 32

line_read_lem : (ws : List ℕ) → line_read form64 (widen_script ws) ≡ line_read form32 ws
unfolding line_read form32 form64
line_read_lem ws i = record { instruction = a i; annotation = b i }
  where
    a : instruction_read (narrow_word (get_or (widen_script ws) 0 0)) ≡ instruction_read (get_or ws 0 0)
    a = ap (λ w. instruction_read (narrow_word w)) (word_widen ws 0) ∙ ap instruction_read (up (get_or ws 0 0))

    b : facts_read 64 (drop 1 (widen_script ws)) ≡ facts_read 32 (drop 1 ws)
    b = ap (facts_read 64) (drop_widen 1 ws) ∙ facts_read_lem (drop 1 ws)

lines_read_lem : (n : ℕ) (ws : List ℕ) → lines_read form64 n (widen_script ws) ≡ lines_read form32 n ws
unfolding lines_read
lines_read_lem zero ws = refl
lines_read_lem (suc n) ws =
    ap₂ ◌∷◌ (ap (line_read form64) (take_widen 8 ws) ∙ line_read_lem (take 8 ws))
    (ap (lines_read form64 n) (drop_widen 8 ws) ∙ lines_read_lem n (drop 8 ws))

pub lines_widen : (ws : List ℕ) → lines_of form64 (widen_script ws) ≡ lines_of form32 ws
unfolding lines_of
lines_widen ws = ap (λ n. lines_read form64 (n / 8) (widen_script ws)) (length-map ws widen_word) ∙ lines_read_lem (length ws / 8) ws

pub stored_widen : (ws : List ℕ) → annotated_stored form64 (widen_script ws) ≡ annotated_stored form32 ws
unfolding form32 form64
stored_widen ws i = record {
  whole = eqb (length-map ws widen_word i % 8) 0;
  line_count = length-map ws widen_word i / 8;
  word = λ l. word l i;
  unused = λ l. none l i;
}
  where
    word : (l : ℕ) → narrow_word (get_or (widen_script ws) (8 * l) 0) ≡ get_or ws (8 * l) 0
    word l = ap narrow_word (word_widen ws (8 * l)) ∙ shl-shr (get_or ws (8 * l) 0) 32

    none : (l : ℕ) → get_or (widen_script ws) (8 * l) 0 % 2 ^ 32 ≡ 0
    none l = ap (λ w. w % 2 ^ 32) (word_widen ws (8 * l)) ∙ omega arith

-- ---- questions 5 to 11

pub annotated_widen : (t : Table) (allowed : ℕ → Bool) (ws : List ℕ)
    → check_code t allowed (annotated_stored form64 (widen_script ws)) ≡ check_code t allowed (annotated_stored form32 ws)
annotated_widen t allowed ws = ap (check_code t allowed) (stored_widen ws)

-- facts of the nodes below n only are among others as far as any larger width
among_nodes : (n m : ℕ) (F G : Facts) → n ≤ m → ((f : Fact) (k : ℕ) → F f k ≡ true → k < n) → among_below m F G ≡ among_below n F G
among_nodes n m F G h narrow =
    bool_ext (among_below m F G) (among_below n F G)
    (λ e. among_in n F G (λ f k l i. among_out m F G e f k (omega arith) i))
    (λ e. among_in m F G (λ f k l i. among_out n F G e f k (narrow f k i) i))

-- the old form has no facts of later nodes to ask about
pub belong_widen : (t : Table) (ws : List ℕ) → question8 form64 t (lines_of form32 ws) ≡ question8 form32 t (lines_of form32 ws)
unfolding question8 facts_belong form32 form64
belong_widen t ws i =
    let ls = lines_of form32 ws in
    ask 8 (length ls) (λ l. among_nodes 32 64 (line_at ls l).annotation (belongs t) (omega arith) (slim_lines form32 ws l) i)

pub facts_widen : (t : Table) (ws : List ℕ) → check_facts form64 t (lines_of form64 (widen_script ws)) ≡ check_facts form32 t (lines_of form32 ws)
unfolding check_facts
facts_widen t ws =
    let ls = lines_of form32 ws in
    ap (check_facts form64 t) (lines_widen ws) ∙ ap (λ a. a then question9 t ls then question10 t ls then question11 t ls) (belong_widen t ws)

-- the rule and the script, both moved
pub move_widen : (rule ws : List ℕ) → check_move form64 (widen_rule rule) (widen_script ws) ≡ check_move form32 rule ws
unfolding check_move
move_widen rule ws =
    let t = table_of form32 rule in
    let ws' = widen_script ws in
    ap (λ u. check_code u annotated_opcode (annotated_stored form64 ws') then question8 form64 u (lines_of form64 ws')) (table_widen rule)
    ∙ ap₂ ◌then◌ (annotated_widen t annotated_opcode ws) (ap (question8 form64 t) (lines_widen ws) ∙ belong_widen t ws)

pub script_widen : (rule ws : List ℕ) → length rule ≤ 32 → check_script form64 (widen_rule rule) (widen_script ws) ≡ check_script form32 rule ws
unfolding check_script
script_widen rule ws few =
    let t = table_of form32 rule in
    let ws' = widen_script ws in
    ap₂ ◌then◌ (check_widen rule few)
    (ap (λ u. check_code u annotated_opcode (annotated_stored form64 ws') then check_facts form64 u (lines_of form64 ws')) (table_widen rule)
    ∙ ap₂ ◌then◌ (annotated_widen t annotated_opcode ws) (facts_widen t ws))

-- one word a line: such words stay
pub code_widen : (allowed : ℕ → Bool) (rule ws : List ℕ) → length rule ≤ 32
    → check_words form64 allowed (widen_rule rule) ws ≡ check_words form32 allowed rule ws
code_widen allowed rule ws few = ap₂ (λ c t. c then check_code t allowed (bare_stored ws)) (check_widen rule few) (table_widen rule)

pub bare_widen : (rule bare : List ℕ) → length rule ≤ 32 → check_bare form64 (widen_rule rule) bare ≡ check_bare form32 rule bare
unfolding check_bare
bare_widen rule bare few = code_widen bare_opcode rule bare few
