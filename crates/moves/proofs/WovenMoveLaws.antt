-- Lines stored in the second form are those lines stored in the old one, moved; so a woven script is the woven script, moved.
--     fact_upper, fact_widen, words_narrow, words_widen    a fact word, and the words of lines
--     output_widen                 an output that holds moved words
--     woven_narrow, woven_widen    a rule of the old form weaves to the same lines in both forms
--     weaving_widen, woven_into   with the same answer, into an output
-- Assumes nothing.
use mathlib.Core.Path.{◌≡◌, refl, sym, subst, ap, ap₂, ◌∙◌}
use mathlib.Core.Logic.{inl, inr}
use mathlib.Core.Bool.{Bool, true, false, cond}
use mathlib.Core.List.{List, [], ◌∷◌, ◌++◌, map, map-append}
use Prim.Native.Nat.{ℕ, zero, suc, ◌+◌, ◌*◌, ◌^◌, ◌≤◌, ◌<◌}
use native.Mathlib.Nat.{add_assoc, add-mul, zero-mul, le_refl}
use native.Mathlib.Omega.{arith}
use lib.ListN.{length, drop, length-map}
use lib.Dec.{leb}
use lib.Pow.{pow-add, high, shl-shr}
use Rattle.spec.specs.Questions.{Answer, passed, refused, ◌then◌, ask_once}
use Rattle.spec.specs.Rule.{form32, form64, table_of}
use Rattle.spec.specs.Script.{most_lines, bare_code, word_for}
use Rattle.spec.specs.Facts.{Fact, every_fact}
use Rattle.spec.specs.Check.{Line, Lines, fact_word, line_words, words_of}
use Rattle.spec.specs.Weaver.{weave, woven_count, woven, question12, question13, check_weaving, weaving, output_for, output_after}
use Rattle.spec.specs.Promise.{Weavable}
use Rattle.moves.specs.Moves.{widen_rule, widen_word, narrow_word, widen_script, narrow_script}
use Rattle.spec.proofs.BoolLaws.{decided}
use Rattle.spec.proofs.QuestionLaws.{both_passed}
use Rattle.spec.proofs.StoredLaws.{good32, word_small}
use Rattle.spec.proofs.HandedLaws.{weaving_out, read_back}
use Rattle.largest.proofs.ObeyLaws.{Slim, slim_lines}
use Rattle.moves.proofs.NodeMoveLaws.{table_widen}
use Rattle.moves.proofs.LineMoveLaws.{drop_widen, bare_widen}

-- ---- a fact word

bit_up : (b : Bool) (n m : ℕ) → cond b (2 ^ (n + m)) 0 ≡ cond b (2 ^ n) 0 * 2 ^ m
bit_up true n m = pow-add 2 n m
bit_up false n m = sym (zero-mul (2 ^ m))

-- a word of n + m bits: n bits, and m bits below them
word_parts : (n m k : ℕ) (p : ℕ → Bool) → fact_word (n + m) k p ≡ fact_word n k p * 2 ^ m + fact_word m (k + n) p
unfolding fact_word
word_parts zero m k p =
    let e : zero + m ≡ m = omega arith in
    let d : k + zero ≡ k = omega arith in
    rw (e, d) (omega (arith, zero-mul (2 ^ m)))
word_parts (suc n) m k p =
    let e : suc n + m ≡ suc (n + m) = omega arith in
    let d : k + suc n ≡ suc k + n = omega arith in
    rw (e, d)
    (ap₂ ◌+◌ (bit_up (p k) n m) (word_parts n m (suc k) p)
    ∙ sym (add_assoc (cond (p k) (2 ^ n) 0 * 2 ^ m) (fact_word n (suc k) p * 2 ^ m) (fact_word m (suc k + n) p))
    ∙ ap (λ x. x + fact_word m (suc k + n) p) (sym (add-mul (cond (p k) (2 ^ n) 0) (fact_word n (suc k) p) (2 ^ m))))

pub fact_upper : (p : ℕ → Bool) → narrow_word (fact_word 64 0 p) ≡ fact_word 32 0 p
fact_upper p = ap narrow_word (word_parts 32 32 0 p) ∙ high (fact_word 32 0 p) 32 (word_small 32 32 p)

no_word : (n k : ℕ) (p : ℕ → Bool) → ((j : ℕ) → k ≤ j → p j ≡ false) → fact_word n k p ≡ 0
unfolding fact_word
no_word zero k p h = refl
no_word (suc n) k p h = ap₂ (λ b x. cond b (2 ^ n) 0 + x) (h k (le_refl k)) (no_word n (suc k) p (λ j l. h j (omega arith)))

-- of the first 32 nodes only
pub fact_widen : (p : ℕ → Bool) → ((k : ℕ) → p k ≡ true → k < 32) → fact_word 64 0 p ≡ widen_word (fact_word 32 0 p)
fact_widen p few =
    word_parts 32 32 0 p ∙ ap (λ x. widen_word (fact_word 32 0 p) + x) (no_word 32 32 p later) ∙ omega arith
  where
    later : (j : ℕ) → 32 ≤ j → p j ≡ false
    later j h = elim (decided (p j)) [ inl e ↦ let z = few j e in absurd (omega arith) | inr e ↦ e ]

-- ---- lines

line_narrow : (x : Line) → narrow_script (line_words form64 x) ≡ line_words form32 x
unfolding line_words form32 form64
line_narrow x = ap₂ ◌∷◌ (shl-shr (word_for x.instruction) 32) (facts every_fact)
  where
    facts : (fs : List Fact) → narrow_script (map (λ f. fact_word 64 0 (x.annotation f)) fs) ≡ map (λ f. fact_word 32 0 (x.annotation f)) fs
    facts [] = refl
    facts (f ∷ fs) = ap₂ ◌∷◌ (fact_upper (x.annotation f)) (facts fs)

-- the old form's words are the upper halves
pub words_narrow : (ls : Lines) → narrow_script (words_of form64 ls) ≡ words_of form32 ls
unfolding words_of
words_narrow [] = refl
words_narrow (x ∷ ls) = map-append narrow_word (line_words form64 x) (words_of form64 ls) ∙ ap₂ ◌++◌ (line_narrow x) (words_narrow ls)

line_widen : (x : Line) → ((f : Fact) (k : ℕ) → x.annotation f k ≡ true → k < 32) → line_words form64 x ≡ widen_script (line_words form32 x)
unfolding line_words form32 form64
line_widen x few = ap (◌∷◌ (widen_word (word_for x.instruction))) (facts every_fact)
  where
    facts : (fs : List Fact) → map (λ f. fact_word 64 0 (x.annotation f)) fs ≡ widen_script (map (λ f. fact_word 32 0 (x.annotation f)) fs)
    facts [] = refl
    facts (f ∷ fs) = ap₂ ◌∷◌ (fact_widen (x.annotation f) (few f)) (facts fs)

-- and the second form's are those moved, where the facts are of the first 32 nodes
pub words_widen : (ls : Lines) → Slim 32 ls → words_of form64 ls ≡ widen_script (words_of form32 ls)
unfolding words_of
words_widen [] few = refl
words_widen (x ∷ ls) few =
    ap₂ ◌++◌ (line_widen x (few 0)) (words_widen ls (λ l. few (suc l))) ∙ sym (map-append widen_word (line_words form32 x) (words_of form32 ls))

-- an output that holds moved words is the moved output
pub output_widen : (words wide_words out : List ℕ) (a : Answer ℕ) → ((n : ℕ) → a ≡ passed n → wide_words ≡ widen_script words)
    → output_for wide_words a (widen_script out) ≡ widen_script (output_for words a out)
output_widen words wide_words out (passed n) h =
    ap (λ ws. ws ++ drop (length ws) (widen_script out)) (h n refl)
    ∙ ap (λ i. widen_script words ++ drop i (widen_script out)) (length-map words widen_word)
    ∙ ap (◌++◌ (widen_script words)) (drop_widen (length words) out) ∙ sym (map-append widen_word words (drop (length words) out))
output_widen words wide_words out (refused q i) h = refl

-- ---- weaving

pub woven_narrow : (rule bare : List ℕ) → narrow_script (woven form64 (widen_rule rule) bare) ≡ woven form32 rule bare
unfolding woven
woven_narrow rule bare =
    ap (λ t. narrow_script (words_of form64 (weave t (bare_code bare)))) (table_widen rule) ∙ words_narrow (weave (table_of form32 rule) (bare_code bare))

slim_woven : (rule bare : List ℕ) → Weavable form32 rule bare → Slim 32 (weave (table_of form32 rule) (bare_code bare))
unfolding form32
slim_woven rule bare w =
    let t = table_of form32 rule in
    let ls = weave t (bare_code bare) in
    subst (Slim 32) (read_back form32 good32 t (bare_code bare) (weaving_out form32 good32 rule bare w)) (slim_lines form32 (words_of form32 ls))

pub woven_widen : (rule bare : List ℕ) → Weavable form32 rule bare → woven form64 (widen_rule rule) bare ≡ widen_script (woven form32 rule bare)
unfolding woven
woven_widen rule bare w =
    ap (λ t. words_of form64 (weave t (bare_code bare))) (table_widen rule)
    ∙ words_widen (weave (table_of form32 rule) (bare_code bare)) (slim_woven rule bare w)

pub weaving_widen : (rule bare out wide_out : List ℕ) → length rule ≤ 32 → length wide_out ≡ length out
    → weaving form64 (widen_rule rule) bare wide_out ≡ weaving form32 rule bare out
unfolding weaving check_weaving question12 question13
weaving_widen rule bare out wide_out few e i =
    let n = woven_count (table_widen rule i) (bare_code bare) in
    (bare_widen rule bare few i then ask_once 12 (leb n most_lines)) then ask_once 13 (leb (8 * n) (e i)) then passed n

pub woven_into : (rule bare out : List ℕ) → length rule ≤ 32
    → output_after form64 (widen_rule rule) bare (widen_script out) ≡ widen_script (output_after form32 rule bare out)
unfolding output_after weaving
woven_into rule bare out few =
    ap (λ a. output_for (woven form64 (widen_rule rule) bare) a (widen_script out)) (weaving_widen rule bare out (widen_script out) few (length-map out widen_word))
    ∙ output_widen (woven form32 rule bare) (woven form64 (widen_rule rule) bare) out (weaving form32 rule bare out)
    (λ n e. woven_widen rule bare (both_passed (check_weaving form32 rule bare) _ n e).0)
