-- The loop that writes a text's nodes (`specs/Progress.antt`).
--     Writing                    what is put and owed so far, and the tokens that are left, make the table
--     writing_start, writing_many, writing_ready, writing_next, writing_stuck, writing_end
-- Assumes nothing.
use mathlib.Core.Path.{◌≡◌, refl, sym, subst, ap, ap₂, ◌∙◌}
use mathlib.Core.Bool.{true, false}
use mathlib.Core.Option.{none, some}
use mathlib.Core.List.{List, [], ◌∷◌, ◌++◌, map}
use Prim.Native.Nat.{ℕ, ◌+◌, ◌≤◌, ◌<◌}
use native.Mathlib.Omega.{arith}
use lib.ListN.{length, take, drop, replicate, drop_of_length-le}
use Rattle.spec.specs.Questions.{passed}
use Rattle.grammar.specs.Typed.{opened}
use Rattle.grammar.specs.Grammar.{Token, word, register, number, sign}
use Rattle.grammar.specs.Scan.{start, stuck_from, question16, tokens_from, tokens_of}
use Rattle.grammar.specs.Reading.{Reading, read, read_all, whole, nothing_read, formula_of}
use Rattle.grammar.specs.Nodes.{size, rule_words}
use Rattle.grammar.specs.Texting.{question17}
use Rattle.grammar.specs.TextPromise.{AllInRange}
use Rattle.grammar.proofs.JumpLaws.{none_some, tokens_end}
use Rattle.grammar.proofs.ReadingLaws.{read_append, read_spelled}
use Rattle.grammar.proofs.ScanLaws.{passes_through, passes_text, text_tokens, text_formula}
use Rattle.grammar.proofs.RangeLaws.{fit_append, range_tokens}
use Rattle.text.specs.Tokens.{tokens_in, capped_token}
use Rattle.text.specs.Places.{scan_of, scan_after, Over}
use Rattle.text.specs.Building.{words, cost}
use Rattle.std.specs.Prelude.{Some, None}
use Rattle.text.specs.declared.stack.Pending.{Pending}
use Rattle.text.specs.Stacks.{table_length, stack_length, no_word, stack_of, owed, LeftSmall, Fitting, Unwinds}
use Rattle.text.specs.Progress.{reading_of, depth_in, Ready, Takes, TableOf}
use Rattle.text.specs.declared.token.Prefix.TheVariants as prefix
use Rattle.text.specs.declared.token.Operator.TheVariants as operator
use Rattle.text.specs.declared.token.Token as token
use Rattle.text.specs.declared.token.Token.TheVariants as variant
use Rattle.text.specs.declared.scan.Want.{Want}
use Rattle.text.specs.declared.scan.Between.{Between}
use Rattle.text.specs.declared.write.Progress.{Progress}
use Rattle.rule.specs.Nodes.{form_in}
use Rattle.text.proofs.DigitLaws.{cap_low}
use Rattle.text.proofs.TurnLaws.{Turning, turning_start, turning_next, depth_of}
use Rattle.text.proofs.BuildLaws.{build_words, cost_append, cost_size}
use Rattle.text.proofs.StackLaws.{weight, read_weight}
use Rattle.text.proofs.HoldLaws.{length_held}

-- ---- a text that questions 16 and 17 let pass

module _ (text : List ℕ) (q₁₆ : question16 text ≡ passed tt) (q₁₇ : question17 text ≡ passed tt) where
  whole_table : whole (words form_in) (read_all (words form_in) (nothing_read []) (tokens_of text)) ≡ rule_words form_in (opened (formula_of text))
  whole_table =
      let (φ, x) = passes_text text q₁₆ in
      ap (λ ts. whole (words form_in) (read_all (words form_in) (nothing_read []) ts)) (text_tokens text φ x) ∙ read_spelled (words form_in) x.spells []
      ∙ build_words form_in φ ∙ ap (λ ψ. rule_words form_in (opened ψ)) (sym (text_formula text φ x))

  whole_cost : cost (tokens_of text) ≡ size (opened (formula_of text))
  whole_cost =
      let (φ, x) = passes_text text q₁₆ in
      ap cost (text_tokens text φ x) ∙ cost_size x.spells ∙ ap (λ ψ. size (opened ψ)) (sym (text_formula text φ x))

  whole_range : AllInRange (tokens_of text)
  whole_range = let (φ, x) = passes_text text q₁₆ in subst AllInRange (sym (text_tokens text φ x)) (range_tokens text φ x q₁₇)

-- ---- tokens in range

capped_same : (ts : List Token) → AllInRange ts → map capped_token ts ≡ ts
capped_same [] r = refl
capped_same (word w ∷ ts) r = ap (λ l. word w ∷ l) (capped_same ts r.1)
capped_same (register n ∷ ts) r = ap₂ (λ m l. register m ∷ l) (cap_low n (let k = r.0 in omega arith)) (capped_same ts r.1)
capped_same (number n ∷ ts) r = ap₂ (λ m l. number m ∷ l) (cap_low n r.0) (capped_same ts r.1)
capped_same (sign s ∷ ts) r = ap (λ l. sign s ∷ l) (capped_same ts r.1)

pub cost_small : (x : token.Token) → cost (tokens_in x) ≤ 8
unfolding cost
cost_small variant.Space = omega arith
cost_small (variant.Constant true) = omega arith
cost_small (variant.Constant false) = omega arith
cost_small (variant.Prefix prefix.Not) = omega arith
cost_small (variant.Prefix prefix.Wprev) = omega arith
cost_small (variant.Prefix prefix.Prev) = omega arith
cost_small (variant.Prefix prefix.Once) = omega arith
cost_small (variant.Prefix prefix.Sofar) = omega arith
cost_small (variant.Operator operator.Since) = omega arith
cost_small (variant.Operator operator.And) = omega arith
cost_small (variant.Operator operator.Or) = omega arith
cost_small (variant.Operator operator.Implies) = omega arith
cost_small (variant.Register n) = omega arith
cost_small (variant.Number n) = omega arith
cost_small variant.Open = omega arith
cost_small variant.Close = omega arith
cost_small variant.Equal = omega arith
cost_small variant.Below = omega arith

weight_all : (r : Reading (List ℕ) ℕ) (ts : List Token) → weight (read_all (words form_in) r ts).built ≡ weight r.built + cost ts
unfolding read_all cost
weight_all r [] = omega arith
weight_all r (t ∷ ts) = let a = weight_all (read (words form_in) r t) ts in let b = read_weight form_in r t in omega arith

register_all : (r : Reading (List ℕ) ℕ) (ts : List Token) → AllInRange ts → r.of_register ≤ 15 → (read_all (words form_in) r ts).of_register ≤ 15
unfolding read_all read
register_all r [] f h = h
register_all r (word w ∷ ts) f h = register_all (read (words form_in) r (word w)) ts f.1 h
register_all r (register n ∷ ts) f h = register_all (read (words form_in) r (register n)) ts f.1 f.0
register_all r (number n ∷ ts) f h = register_all (read (words form_in) r (number n)) ts f.1 h
register_all r (sign s ∷ ts) f h = register_all (read (words form_in) r (sign s)) ts f.1 h

-- the brackets that are open after a token
depth_same : (w : Want) (d : ℕ) (x : token.Token) → depth_of (scan_after w d x) ≡ depth_in d (tokens_in x)
depth_same w d variant.Space = refl
depth_same w d (variant.Constant v) = refl
depth_same w d (variant.Prefix p) = refl
depth_same w d (variant.Operator o) = refl
depth_same w d (variant.Register n) = refl
depth_same w d (variant.Number n) = refl
depth_same w d variant.Open = refl
depth_same w d variant.Close = refl
depth_same w d variant.Equal = refl
depth_same w d variant.Below = refl

-- ---- the loop

pub record Writing (text : List ℕ) (allowed : ℕ) (stack : List Pending) (table : List ℕ) (p : Progress) (s : Between) (total at : ℕ) : Type 0 where
  pub turning : Turning text s at
  pub through : stuck_from 0 start text ≡ none
  pub reading : whole (words form_in) (read_all (words form_in) (reading_of stack table p s.depth) (tokens_from (scan_of s) (drop at text))) ≡ rule_words form_in (opened (formula_of text))
  pub spent : total + cost (tokens_from (scan_of s) (drop at text)) ≡ size (opened (formula_of text))
  pub weighed : p.height.count + owed (stack_of stack p.height.top) ≡ total
  pub within : allowed ≤ table_length
  pub few : total ≤ allowed
  pub fits : Fitting stack p.height.top table p.height.count
  pub in_range : AllInRange (tokens_from (scan_of s) (drop at text))
  pub register : p.register ≤ 15

abbrev first_pen : Progress
first_pen = record { height = record { top = 0; count = 0 }; register = 0; below = false }

pub writing_start : (text : List ℕ) (allowed : ℕ) (table : List ℕ) (s : Between) → question16 text ≡ passed tt → question17 text ≡ passed tt → allowed ≤ table_length → length table ≡ table_length → scan_of s ≡ start
    → Writing text allowed (replicate stack_length no_word) table first_pen s 0 0
unfolding tokens_of stack_of owed LeftSmall
writing_start text allowed table s q₁₆ q₁₇ within l e =
    let d : s.depth ≡ 0 = ap depth_of e in
    record {
      turning = turning_start text s e;
      through = passes_through text q₁₆;
      reading = ap₂ (λ n x. whole (words form_in) (read_all (words form_in) (reading_of (replicate stack_length no_word) table first_pen n) (tokens_from x text))) d e ∙ whole_table text q₁₆ q₁₇;
      spent = let a = whole_cost text q₁₆ q₁₇ in let b = ap (λ x. cost (tokens_from x text)) e in omega arith;
      weighed = refl;
      within = within;
      few = omega arith;
      fits = record { stack_long = refl; table_long = l; room = omega arith; left_small = tt };
      in_range = subst (λ x. AllInRange (tokens_from x text)) (sym e) (whole_range text q₁₆ q₁₇);
      register = omega arith;
    }

module _ (text : List ℕ) (allowed : ℕ) (stack : List Pending) (table : List ℕ) (p : Progress) (s : Between) (total at : ℕ) (x : Writing text allowed stack table p s total at) where
  abbrev rest : List Token
  rest = tokens_from (scan_of s) (drop at text)

  -- the scan does not stop
  pub writing_stuck : {X : Type 0} (place : ℕ) → stuck_from at (scan_of s) (drop at text) ≡ some place → X
  writing_stuck place e = none_some (sym x.through ∙ sym x.turning.same ∙ e)

  -- one more token
  module _ (t : token.Token) (next : ℕ) (o : Over text at (scan_of s) t next (scan_after s.want s.depth t)) where
    abbrev later : List Token
    later = tokens_from (scan_after s.want s.depth t) (drop next text)

    exact_range : AllInRange o.exact × AllInRange later
    exact_range = (fit_append o.exact later).0 (subst AllInRange o.tokens x.in_range)

    this : o.exact ≡ tokens_in t
    this = sym (capped_same o.exact exact_range.0) ∙ o.capped

    rest_is : rest ≡ tokens_in t ++ later
    rest_is = o.tokens ∙ ap (λ l. l ++ later) this

    spent_is : total + cost (tokens_in t) + cost later ≡ size (opened (formula_of text))
    spent_is = let a = x.spent in let b = ap cost rest_is in let c = cost_append (tokens_in t) later in omega arith

    -- too many nodes
    pub writing_many : (table' : List ℕ) → allowed < total + cost (tokens_in t) → TableOf text allowed table' None
    writing_many table' h = let a = spent_is in omega arith

    module _ (h : total + cost (tokens_in t) ≤ allowed) where
      pub writing_ready : Ready stack table p t
      writing_ready = record {
        fits = x.fits;
        room = let a = x.weighed in let b = x.within in omega arith;
        in_range = subst AllInRange this exact_range.0;
        register = x.register;
      }

      pub writing_next : (stack' : List Pending) (table' : List ℕ) (q : Progress) (s' : Between) → Takes stack table p s.depth t stack' table' q → scan_of s' ≡ scan_after s.want s.depth t
          → Writing text allowed stack' table' q s' (total + cost (tokens_in t)) next
      writing_next stack' table' q s' k e =
          let ready = writing_ready in
          let d : s'.depth ≡ depth_in s.depth (tokens_in t) = ap depth_of e ∙ depth_same s.want s.depth t in
          let a = ap (λ r. weight r.built) k.reading in
          let b = weight_all (reading_of stack table p s.depth) (tokens_in t) in
          let c = length_held p.height.count table (let z = x.fits.room in omega arith) x.fits.table_long in
          let f = length_held q.height.count table' (let z = k.fits.room in omega arith) k.fits.table_long in
          let w = x.weighed in
          let g = ap (λ r. r.of_register) k.reading in
          let m = register_all (reading_of stack table p s.depth) (tokens_in t) ready.in_range x.register in
          record {
            turning = turning_next text s at x.turning s' t next o e;
            through = x.through;
            reading = ap₂ (λ n y. whole (words form_in) (read_all (words form_in) (reading_of stack' table' q n) (tokens_from y (drop next text)))) d e
                ∙ ap (λ r. whole (words form_in) (read_all (words form_in) r later)) k.reading
                ∙ ap (whole (words form_in)) (sym (read_append (words form_in) (reading_of stack table p s.depth) (tokens_in t) later))
                ∙ ap (λ l. whole (words form_in) (read_all (words form_in) (reading_of stack table p s.depth) l)) (sym rest_is)
                ∙ x.reading;
            spent = let y = spent_is in let z = ap (λ y. cost (tokens_from y (drop next text))) e in omega arith;
            weighed = omega arith;
            within = x.within;
            few = h;
            fits = k.fits;
            in_range = subst (λ y. AllInRange (tokens_from y (drop next text))) (sym e) exact_range.1;
            register = omega arith;
          }

  -- all tokens are read
  module _ (h : length text ≤ at) where
    none_left : rest ≡ []
    none_left = ap (tokens_from (scan_of s)) (drop_of_length-le text h) ∙ tokens_end (scan_of s)

    pub writing_end : (t : ℕ) (after : List ℕ) (n : ℕ) → Unwinds stack p.height.top table p.height.count 0 t after n → TableOf text allowed after (Some n)
    unfolding cost read_all whole
    writing_end t after n u =
        let a = x.spent in
        let b = ap cost none_left in
        let f = x.few in
        let words_are : take n after ≡ rule_words form_in (opened (formula_of text)) = ap (λ y. y.value) u.built
        ∙ sym (ap (λ l. whole (words form_in) (read_all (words form_in) (reading_of stack table p s.depth) l)) none_left) ∙ x.reading in
        let c = length_held n after (let z = u.fits.room in omega arith) u.fits.table_long in
        let d = ap length words_are in
        (omega arith, record { words = words_are; count = omega arith; long = u.fits.table_long })
