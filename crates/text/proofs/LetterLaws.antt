-- Letters of a word that stand at a place of a text (`specs/Bytes.antt` of crate grammar).
--     agreeing_none       none beyond its end
--     agreeing_pairs      as many as there are pairs, from the first on, of a byte that is the letter
-- Assumes nothing.
use Rattle.std.proofs.Common.{◌≡◌, refl, sym, ap, ◌∙◌, ℕ, suc, ◌+◌, ◌<◌, List, [], ◌∷◌, cond, length, drop, take_while, arith}
use Rattle.std.proofs.lemmas.List.Folds.{length-prefix_len}
use lib.Dec.{eqb}
use lib.ListN.{drop_of_length-le}
use Rattle.std.specs.List.{zip, prefix_len}
use Rattle.grammar.specs.Bytes.{agreeing}
use Rattle.text.specs.Tokens.{same}

agreeing_nothing : (letters : List ℕ) → 0 ≡ agreeing letters []
unfolding agreeing
agreeing_nothing [] = refl
agreeing_nothing (x ∷ xs) = refl

pub agreeing_none : (letters text : List ℕ) (at : ℕ) → length text < at → 0 ≡ agreeing letters (drop at text)
agreeing_none letters text at h = agreeing_nothing letters ∙ ap (agreeing letters) (sym (drop_of_length-le text {i = at} (omega arith)))

agreeing_prefix : (bs letters : List ℕ) → prefix_len same (zip bs letters) ≡ agreeing letters bs
unfolding agreeing
agreeing_prefix [] [] = refl
agreeing_prefix [] (x ∷ xs) = refl
agreeing_prefix (b ∷ bs) [] = refl
agreeing_prefix (b ∷ bs) (x ∷ xs) =
    let e : 1 + prefix_len same (zip bs xs) ≡ suc (agreeing xs bs) = omega (arith, agreeing_prefix bs xs) in
    ap (λ n. cond (eqb b x) n 0) e

pub agreeing_pairs : (bs letters : List ℕ) → length (take_while same (zip bs letters)) ≡ agreeing letters bs
agreeing_pairs bs letters = length-prefix_len same (zip bs letters) ∙ agreeing_prefix bs letters
