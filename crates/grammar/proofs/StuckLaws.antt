-- Where the scan stops (`specs/Scan.antt`), in the words of the grammar.
--     viable            from every state of the scan some bytes end the text
--     stuck_at          a 16 at place i: bytes 0 to i - 1 begin a text, and bytes 0 to i begin none, or the text ends at i and is none
--     stuck_one         there is one such place
-- Assumes nothing.
use mathlib.Core.Path.{◌≡◌, refl, sym, subst, ap, ◌∙◌}
use mathlib.Core.Logic.{◌⊎◌, inl, inr}
use mathlib.Core.Bool.{Bool, true, false, cond}
use mathlib.Core.Option.{Option, none, some}
use mathlib.Core.List.{List, [], ◌∷◌, ◌++◌, append_assoc}
use Prim.Native.Nat.{ℕ, zero, suc, ◌+◌, ◌≤◌, ◌<◌}
use native.Mathlib.Omega.{arith}
use lib.ListN.{length, take, drop, replicate, take-append-drop}
use lib.Seq.{take-take}
use Rattle.spec.specs.Questions.{refused, no_at}
use Rattle.spec.proofs.BoolLaws.{le_or_lt}
use Rattle.grammar.specs.Typed.{TextFormula}
use Rattle.grammar.specs.Grammar.{constant_word, close_sign, equal_sign, Token, word, register, number, sign, letters_of, space, Writes, nothing, a_space, a_word, a_number, a_sign, IsText, StuckAt}
use Rattle.grammar.specs.Place.{Want, operand, comparison, constant_number, operator, at, fits}
use Rattle.grammar.specs.Scan.{Scan, between, within, after_r, digits, move, may_end, start, stuck_from, question16, tokens_from}
use Rattle.grammar.proofs.SpellLaws.{fits_step}
use Rattle.grammar.proofs.JumpLaws.{none_some, stuck_step, stuck_stop, stuck_end, jump_one, within_jump}
use Rattle.grammar.proofs.NumeralLaws.{leads, number_ends, first_move}
use Rattle.grammar.proofs.FirstLaws.{none_cond}
use Rattle.grammar.proofs.ScanLaws.{Accepts, accepts_jump, writes_scan, text_accepts, accepts_text}

-- ---- a completion

abbrev Completed : Scan → Type 0
Completed s = (bs : List ℕ) × (ts : List Token) × (leads bs ≡ false) × Accepts s bs ts

closers : (d : ℕ) (t : Bool) → Writes t (replicate d 41) (replicate d (sign close_sign))
closers zero t = nothing
closers (suc d) t = a_sign close_sign (closers d false)

closers_fit : (d : ℕ) → fits (at operator d) (replicate d (sign close_sign)) ≡ true
unfolding fits
closers_fit zero = refl
closers_fit (suc d) = closers_fit d

no_digit : (d : ℕ) → leads (replicate d 41) ≡ false
no_digit zero = refl
no_digit (suc d) = refl

-- from between two tokens: a false, or =0, or a space and 0, and then closing brackets
between_viable : (t : Bool) (w : Want) (d : ℕ) → Completed (between t (at w d))
between_viable t operand d = (
  space ∷ letters_of (constant_word false) ++ replicate d 41,
  word (constant_word false) ∷ replicate d (sign close_sign),
  refl,
  writes_scan (a_space (a_word (constant_word false) (closers d true))) (at operand d) (fits_step (at operand d) (at operator d) (word (constant_word false)) _ refl ∙ closers_fit d),
)
between_viable t comparison d = (
  61 ∷ 48 ∷ replicate d 41,
  sign equal_sign ∷ number 0 ∷ replicate d (sign close_sign),
  refl,
  writes_scan (a_sign equal_sign (a_number 48 [] refl (closers d false))) (at comparison d)
      (fits_step (at comparison d) (at constant_number d) (sign equal_sign) _ refl ∙ fits_step (at constant_number d) (at operator d) (number 0) _ refl ∙ closers_fit d),
)
between_viable t constant_number d = (
  space ∷ 48 ∷ replicate d 41,
  number 0 ∷ replicate d (sign close_sign),
  refl,
  writes_scan (a_space (a_number 48 [] refl (closers d false))) (at constant_number d) (fits_step (at constant_number d) (at operator d) (number 0) _ refl ∙ closers_fit d),
)
between_viable t operator d = (replicate d 41, replicate d (sign close_sign), no_digit d, writes_scan (closers d t) (at operator d) (closers_fit d))

pub viable : (s : Scan) → (bs : List ℕ) × (ts : List Token) × Accepts s bs ts
viable (between t p) = let (bs, ts, l, a) = between_viable t p.want p.depth in (bs, ts, a)
viable (within x more w q) =
    let (bs, ts, l, a) = between_viable true q.want q.depth in (x ∷ more ++ bs, word w ∷ ts, accepts_jump (within_jump more x w q bs) a)
viable (after_r d) =
    let (bs, ts, l, a) = between_viable true comparison d in
    let (m, z) = first_move d 48 refl in
    (48 ∷ bs, register 0 ∷ ts, accepts_jump (jump_one (after_r d) (digits true 0 d) 48 bs [] m z) (accepts_jump (number_ends true 0 d bs l) a))
viable (digits true n d) = let (bs, ts, l, a) = between_viable true comparison d in (bs, register n ∷ ts, accepts_jump (number_ends true n d bs l) a)
viable (digits false n d) = let (bs, ts, l, a) = between_viable false operator d in (bs, number n ∷ ts, accepts_jump (number_ends false n d bs l) a)

-- ---- where it stops

-- from a state, at k bytes from there
pub record Stuck (s : Scan) (bs : List ℕ) (k : ℕ) : Type 0 where
  pub begins : (rest : List ℕ) × (ts : List Token) × Accepts s (take k bs ++ rest) ts
  pub stops : ((k < length bs) × ((rest : List ℕ) (ts : List Token) → Accepts s (take (suc k) bs ++ rest) ts → ⊥))
      ⊎ ((k ≡ length bs) × ((ts : List Token) → Accepts s bs ts → ⊥))

-- the count of places does not matter for the end
same_end : (bs : List ℕ) (s : Scan) (i j : ℕ) → stuck_from i s bs ≡ none → stuck_from j s bs ≡ none
same_end [] s i j e = stuck_end j s ∙ ap (λ x. cond x none (some j)) (none_cond (may_end s) i (sym (stuck_end i s) ∙ e))
same_end (b ∷ bs) s i j e = go (move s b) refl (λ q. same_end bs q (suc i) (suc j))
  where
    go : (o : Option Scan) → move s b ≡ o → ((q : Scan) → stuck_from (suc i) q bs ≡ none → stuck_from (suc j) q bs ≡ none) → stuck_from j s (b ∷ bs) ≡ none
    go none d next = none_some (sym e ∙ stuck_stop i s b bs d)
    go (some q) d next = stuck_step j s q b bs d ∙ next q (sym (stuck_step i s q b bs d) ∙ e)

accepts_after : (s q : Scan) (b : ℕ) (bs : List ℕ) (ts : List Token) → move s b ≡ some q → Accepts s (b ∷ bs) ts → Accepts q bs (tokens_from q bs)
accepts_after s q b bs ts m a = record { through = λ i. same_end bs q 1 i (sym (stuck_step 0 s q b bs m) ∙ a.through 0); found = refl }

stuck_later : (s q : Scan) (b : ℕ) (bs : List ℕ) (k : ℕ) → move s b ≡ some q → Stuck q bs k → Stuck s (b ∷ bs) (suc k)
stuck_later s q b bs k m h = record { begins = begin h.begins; stops = stop h.stops }
  where
    begin : (rest : List ℕ) × (ts : List Token) × Accepts q (take k bs ++ rest) ts → (rest : List ℕ) × (ts : List Token) × Accepts s (b ∷ (take k bs ++ rest)) ts
    begin (rest, ts, a) = (rest, _, accepts_jump (jump_one s q b (take k bs ++ rest) _ m refl) a)

    stop : ((k < length bs) × ((rest : List ℕ) (ts : List Token) → Accepts q (take (suc k) bs ++ rest) ts → ⊥))
        ⊎ ((k ≡ length bs) × ((ts : List Token) → Accepts q bs ts → ⊥))
        → ((suc k < suc (length bs)) × ((rest : List ℕ) (ts : List Token) → Accepts s (b ∷ (take (suc k) bs ++ rest)) ts → ⊥))
        ⊎ ((suc k ≡ suc (length bs)) × ((ts : List Token) → Accepts s (b ∷ bs) ts → ⊥))
    stop (inl h) = inl (let l = h.0 in omega arith, λ rest ts a. h.1 rest _ (accepts_after s q b _ ts m a))
    stop (inr h) = inr (ap suc h.0, λ ts a. h.1 _ (accepts_after s q b bs ts m a))

some_cond : (x : Bool) (i j : ℕ) → cond x none (some i) ≡ some j → (x ≡ false) × (i ≡ j)
some_cond true i j e = none_some e
some_cond false i j e = (refl, cc)

pub stuck_out : (bs : List ℕ) (i j : ℕ) (s : Scan) → stuck_from i s bs ≡ some j → (k : ℕ) × (j ≡ i + k) × Stuck s bs k
stuck_out [] i j s e =
    let (x, y) = some_cond (may_end s) i j (sym (stuck_end i s) ∙ e) in (
      0,
      omega arith,
      record {
        begins = viable s;
        stops = inr (refl, λ ts a. none_some (sym (a.through 0) ∙ stuck_end 0 s ∙ ap (λ b. cond b none (some 0)) x));
      },
    )
stuck_out (b ∷ bs) i j s e = go (move s b) refl (λ q. stuck_out bs (suc i) j q)
  where
    go : (o : Option Scan) → move s b ≡ o → ((q : Scan) → stuck_from (suc i) q bs ≡ some j → (k : ℕ) × (j ≡ suc i + k) × Stuck q bs k)
        → (k : ℕ) × (j ≡ i + k) × Stuck s (b ∷ bs) k
    go none d next =
        let y : ◌≡◌ {A = Option ℕ} (some i) (some j) = sym (stuck_stop i s b bs d) ∙ e in
        let z : i ≡ j = cc in (
          0,
          omega arith,
          record {
            begins = viable s;
            stops = inl (omega arith, λ rest ts a. none_some (sym (a.through 0) ∙ stuck_stop 0 s b rest d));
          },
        )
    go (some q) d next =
        let (k, z, h) = next q (sym (stuck_step i s q b bs d) ∙ e) in
        (suc k, omega arith, stuck_later s q b bs k d h)

-- ---- in the words of the grammar

at_place : (o : Option ℕ) (i : ℕ) → no_at 16 o ≡ refused 16 i → o ≡ some i
at_place none i e = let z : ◌≡◌ {A = ℕ} 0 1 = cc in absurd (omega arith)
at_place (some j) i e = cc

stuck_text : (bs : List ℕ) (k : ℕ) → Stuck start bs k → StuckAt bs k
stuck_text bs k h = record { begins = begin h.begins; stops = stop h.stops }
  where
    begin : (rest : List ℕ) × (ts : List Token) × Accepts start (take k bs ++ rest) ts → (rest : List ℕ) × (φ : TextFormula) × IsText (take k bs ++ rest) φ
    begin (rest, ts, a) = let (φ, x) = accepts_text (take k bs ++ rest) 0 (a.through 0) in (rest, φ, x)

    stop : ((k < length bs) × ((rest : List ℕ) (ts : List Token) → Accepts start (take (suc k) bs ++ rest) ts → ⊥))
        ⊎ ((k ≡ length bs) × ((ts : List Token) → Accepts start bs ts → ⊥))
        → ((k < length bs) × ((rest : List ℕ) (φ : TextFormula) → IsText (take (suc k) bs ++ rest) φ → ⊥))
        ⊎ ((k ≡ length bs) × ((φ : TextFormula) → IsText bs φ → ⊥))
    stop (inl h) = inl (h.0, λ rest φ x. h.1 rest _ (text_accepts _ φ x))
    stop (inr h) = inr (h.0, λ φ x. h.1 _ (text_accepts bs φ x))

pub stuck_at : (bs : List ℕ) (i : ℕ) → question16 bs ≡ refused 16 i → StuckAt bs i
unfolding question16
stuck_at bs i e =
    let (k, z, h) = stuck_out bs 0 i start (at_place (stuck_from 0 start bs) i e) in
    let y : k ≡ i = omega arith in
    subst (StuckAt bs) y (stuck_text bs k h)

-- ---- one place

within_text : (bs : List ℕ) (i : ℕ) → StuckAt bs i → i ≤ length bs
within_text bs i x = go x.stops
  where
    go : ((i < length bs) × ((rest : List ℕ) (φ : TextFormula) → IsText (take (suc i) bs ++ rest) φ → ⊥)) ⊎ ((i ≡ length bs) × ((φ : TextFormula) → IsText bs φ → ⊥))
        → i ≤ length bs
    go (inl h) = let l = h.0 in omega arith
    go (inr h) = let l = h.0 in omega arith

-- a longer beginning of a text begins with a shorter one
shorter : (bs rest : List ℕ) (i j : ℕ) → i < j → take (suc i) bs ++ (drop (suc i) (take j bs) ++ rest) ≡ take j bs ++ rest
shorter bs rest i j l =
    let k : suc i ≤ j = omega arith in
    sym (append_assoc (take (suc i) bs) (drop (suc i) (take j bs)) rest)
    ∙ ap (λ x. (x ++ drop (suc i) (take j bs)) ++ rest) (sym (take-take (suc i) j bs k))
    ∙ ap (λ x. x ++ rest) (take-append-drop (suc i) (take j bs))

no_later : (bs : List ℕ) (i j : ℕ) → StuckAt bs i → StuckAt bs j → i < j → ⊥
no_later bs i j x y l = go x.stops y.begins
  where
    go : ((i < length bs) × ((rest : List ℕ) (φ : TextFormula) → IsText (take (suc i) bs ++ rest) φ → ⊥)) ⊎ ((i ≡ length bs) × ((φ : TextFormula) → IsText bs φ → ⊥))
        → (rest : List ℕ) × (φ : TextFormula) × IsText (take j bs ++ rest) φ → ⊥
    go (inl h) (rest, φ, t) = h.1 (drop (suc i) (take j bs) ++ rest) φ (subst (λ b. IsText b φ) (sym (shorter bs rest i j l)) t)
    go (inr h) b = let e = h.0 in let m = within_text bs j y in omega arith

pub stuck_one : (bs : List ℕ) (i j : ℕ) → StuckAt bs i → StuckAt bs j → i ≡ j
stuck_one bs i j x y =
    elim (le_or_lt i j) [
      | inl h ↦ elim (le_or_lt j i) [ inl k ↦ (omega arith) | inr k ↦ absurd (no_later bs i j x y k) ]
      | inr k ↦ absurd (no_later bs j i y x k)
    ]
