-- Cases of request 2026-07 by computation.
--     long_rules, long_woven, long_judged    rules of 33 and 64 nodes pass in the second form, 65 do not; one of 64 is woven, one of 34 judged
--     zero_bits, old_zero_bit    a set bit in any field that a node does not use is 2, at the same node when it was moved
--     lower_half                 a set bit in the lower half of a line's first word is 6
--     later_opcodes_lem              13 and 14 in both forms
--     last_node_lem                  the lowest bit of a fact word is node 63
--     rule_moves, script_moves   what the moves answer, 20 after 1 to 4 and before 5 to 8, 13 last
--     node_words                 each field at its place, and back
--     rule_words_lem, script_words   what the moves write, and back
-- Assumes nothing.
use mathlib.Core.Path.{◌≡◌, refl}
use mathlib.Core.List.{List, [], ◌∷◌, ◌++◌, map}
use Prim.Native.Nat.{ℕ, zero, suc, ◌+◌, ◌*◌, ◌^◌}
use lib.ListN.{replicate}
use Rattle.spec.specs.Questions.{passed, refused}
use Rattle.spec.specs.Rule.{form32, form64, check_rule}
use Rattle.spec.specs.Judging.{breach, judging}
use Rattle.spec.specs.Check.{check_script}
use Rattle.spec.specs.Weaver.{weaving}
use Rattle.moves.specs.Moves.{widen_node, narrow_node, widen_rule, narrow_rule, widen_script, question20, check_back, check_move, check_script_up, check_script_back, move_rule, move_script, rule_up, rule_back, script_up, script_back, rule_up_output, rule_back_output, script_up_output, script_back_output}
use Rattle.spec.proofs.Compute.{everything}
use Rattle.spec.proofs.Cases.{since_rule}

unfoldable pub moves : Unit {0}
unfolding widen_node narrow_node question20 check_back check_move check_script_up check_script_back move_rule move_script rule_up rule_back script_up script_back rule_up_output rule_back_output script_up_output script_back_output
moves = tt

-- ---- long rules

-- weak previous of node k, in the second form
abbrev weak_on : ℕ → ℕ
weak_on k = 5 * 2 ^ 61 + k * 2 ^ 37

-- of the n nodes from k on
abbrev weak_from : (n k : ℕ) → List ℕ
weak_from zero k = []
weak_from (suc n) k = weak_on k ∷ weak_from n (suc k)

-- false, then n weak previouses, each of the node before
abbrev chain : ℕ → List ℕ
chain n = 0 ∷ weak_from n 0

pub long_rules : map (λ n. check_rule form64 (chain n)) (32 ∷ 63 ∷ 64 ∷ []) ≡ passed tt ∷ passed tt ∷ refused 1 0 ∷ []
unfolding everything
long_rules = refl

-- present, halt: a block of 1 + 1 + 6 × 63 lines, and the halt
pub long_woven : weaving form64 (chain 63) (0x80000000 ∷ 0 ∷ []) (replicate 4096 0) ≡ passed 381
unfolding everything
long_woven = refl

-- weak previous 33 deep is true at the first 33 states
pub long_judged : judging form64 (chain 33) (replicate 544 0) ≡ passed (breach 33)
unfolding everything
long_judged = refl

-- ---- fields that are not used

-- the lowest and the highest bit of each field, in a false node
pub zero_bits :
    map (λ i. check_rule form64 (2 ^ i ∷ [])) (0 ∷ 30 ∷ 31 ∷ 36 ∷ 37 ∷ 42 ∷ 43 ∷ 56 ∷ 57 ∷ 60 ∷ []) ≡ replicate 10 (refused 2 0)
unfolding everything
zero_bits = refl

-- false; weak previous of it with the zero bit set
pub old_zero_bit : (check_rule form32 (0 ∷ 0xa0000001 ∷ []) ≡ refused 2 1) × (check_rule form64 (widen_rule (0 ∷ 0xa0000001 ∷ [])) ≡ refused 2 1)
unfolding everything moves
old_zero_bit = (refl, refl)

-- a line with these words of T, and this first word
abbrev line_of : (first true_nodes : ℕ) → List ℕ
line_of first true_nodes = first ∷ true_nodes ∷ replicate 6 0

-- halt, with nothing below; with a set bit there
pub lower_half :
    map (λ w. check_script form64 (0 ∷ []) (line_of 0 0 ++ line_of w 0)) (0 ∷ 1 ∷ 2 ^ 31 ∷ []) ≡ passed tt ∷ refused 6 1 ∷ refused 6 1 ∷ []
unfolding everything
lower_half = refl

-- opcodes 14 and 13 (2026-02, 2026-01): register 1 lowered by 1, back to line 0 where it equals register 2, halt
abbrev later_opcodes : List ℕ
later_opcodes = line_of 0xe1000400 0 ++ line_of 0xd1000800 0 ++ line_of 0 0

pub later_opcodes_lem : (check_script form32 (0 ∷ []) later_opcodes ≡ passed tt) × (check_script form64 (0 ∷ []) (widen_script later_opcodes) ≡ passed tt)
unfolding everything
later_opcodes_lem = (refl, refl)

-- ---- node 63

-- T of node 63, for rules of 64 nodes and of 63; T of node 0
pub last_node_lem :
    map (λ n. check_move form64 (chain n) (line_of 0 0 ++ line_of 0 1)) (63 ∷ 62 ∷ []) ++ (check_move form64 (0 ∷ []) (line_of 0 (2 ^ 63)) ∷ [])
    ≡ passed tt ∷ refused 8 1 ∷ passed tt ∷ []
unfolding everything moves
last_node_lem = refl

-- ---- answers

pub rule_moves :
    rule_up since_rule (replicate 3 0) ∷ rule_up since_rule (replicate 2 0) ∷ rule_up [] [] ∷ rule_up (replicate 33 0) []
    ∷ rule_back (chain 31) (replicate 32 0) ∷ rule_back (chain 31) (replicate 31 0)
    -- 33 nodes: 20 before 13, and after 1 to 4
    ∷ rule_back (chain 32) [] ∷ rule_back (replicate 65 0) [] ∷ rule_back (replicate 33 0) [] ∷ []
    ≡ passed 3 ∷ refused 13 0 ∷ refused 1 0 ∷ refused 1 0
    ∷ passed 32 ∷ refused 13 0
    ∷ refused 20 0 ∷ refused 1 0 ∷ refused 4 0 ∷ []
unfolding everything moves
rule_moves = refl

-- rule false; a halt with T of node 0, which question 9 refuses, moves all the same
pub script_moves :
    script_up (0 ∷ []) (line_of 0 (2 ^ 31)) (replicate 8 0) ∷ script_up (0 ∷ []) (line_of 0 (2 ^ 31)) (replicate 7 0)
    ∷ script_up (0 ∷ []) (line_of 0 1) [] ∷ script_up (0 ∷ []) (replicate 7 0) [] ∷ script_up [] [] []
    ∷ script_back (0 ∷ []) (line_of 0 (2 ^ 63)) (replicate 8 0) ∷ script_back (0 ∷ []) (line_of 1 0) []
    -- 33 nodes: 20 before 5
    ∷ script_back (chain 32) [] [] ∷ script_back (0 ∷ []) [] [] ∷ []
    ≡ passed 1 ∷ refused 13 0
    ∷ refused 8 0 ∷ refused 5 0 ∷ refused 1 0
    ∷ passed 1 ∷ refused 6 0
    ∷ refused 20 0 ∷ refused 5 0 ∷ []
unfolding everything moves
script_moves = refl

-- ---- words, field by field: register 1 = register 2; implies 30 31; weak previous of 16; every bit

abbrev old_words : List ℕ
old_words = 0xc2001000 ∷ 0x600007be ∷ 0xa0000400 ∷ 0xffffffff ∷ []

abbrev wide_words : List ℕ
wide_words = 0xc200100000000000 ∷ 0x600003cf80000000 ∷ 0xa000020000000000 ∷ 0xfffffbef80000001 ∷ []

pub node_words : (widen_rule old_words ≡ wide_words) × (narrow_rule wide_words ≡ old_words)
unfolding everything moves
node_words = (refl, refl)

-- ---- words written: register 1 = 1, register 2 = 1, the one since the other; a last word of the output stays

abbrev wide_rule : List ℕ
wide_rule = 0x2200080000000000 ∷ 0x2400080000000000 ∷ 0x8000000080000000 ∷ []

pub rule_words_lem :
    (rule_up_output since_rule (1 ∷ 2 ∷ 3 ∷ 4 ∷ []) ≡ wide_rule ++ (4 ∷ [])) × (rule_back_output wide_rule (1 ∷ 2 ∷ 3 ∷ 4 ∷ []) ≡ since_rule ++ (4 ∷ []))
    × (rule_back_output wide_rule (1 ∷ 2 ∷ []) ≡ 1 ∷ 2 ∷ [])
unfolding everything moves
rule_words_lem = (refl, refl, refl)

-- go to line 0, with F of node 0
abbrev go_on : List ℕ
go_on = 0x70000000 ∷ 0 ∷ 0x80000000 ∷ replicate 5 0

abbrev wide_go_on : List ℕ
wide_go_on = 0x7000000000000000 ∷ 0 ∷ 0x8000000000000000 ∷ replicate 5 0

pub script_words :
    (script_up_output (0 ∷ []) go_on (replicate 9 3) ≡ wide_go_on ++ (3 ∷ [])) × (script_back_output (0 ∷ []) wide_go_on (replicate 9 3) ≡ go_on ++ (3 ∷ []))
unfolding everything moves
script_words = (refl, refl)
