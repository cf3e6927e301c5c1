-- One token taken (`specs/Progress.antt`).
--     ready_as, took, with_progress         for a token or a progress that is this one
--     taken_space, taken_open, taken_close, taken_register, taken_equal, taken_below      nothing is put
--     constant_room, taken_constant, number_room, taken_number      an operand
--     prefix_room, taken_prefix, operator_room, taken_operator      a word that waits
-- Assumes nothing.
use mathlib.Core.Path.{◌≡◌, refl, sym, subst, ap, ap₂, ◌∙◌}
use mathlib.Core.Bool.{Bool, true, false}
use mathlib.Core.List.{List, [], ◌∷◌}
use Prim.Native.Nat.{ℕ, suc, ◌+◌, ◌≤◌, ◌<◌}
use native.Mathlib.Omega.{arith}
use lib.ListN.{length, take}
use Rattle.spec.specs.Rule.{false_node, test_node}
use Rattle.grammar.specs.Typed as typed
use Rattle.grammar.specs.Typed.{test_of}
use Rattle.grammar.specs.Grammar.{constant_word, Token, word, number, strength}
use Rattle.grammar.specs.Reading.{awaiting, with_left, rank, unwound, waits, read, read_all}
use Rattle.text.specs.Tokens.{prefix_of, operator_of}
use Rattle.text.specs.Building.{put, put_constant, words, begin_cost, finish_cost, token_cost, cost}
use Rattle.text.specs.Stacks.{table_length, waiting_of, stack_of, built_of, owed, comparison_of, Holds, Fitting}
use Rattle.text.specs.Progress.{Builds, progress_at, progress_with, reading_with, Ready, Takes}
use Rattle.text.specs.declared.token.Prefix.{Prefix}
use Rattle.text.specs.declared.token.Operator.{Operator}
use Rattle.text.specs.declared.token.Token as token
use Rattle.text.specs.declared.token.Token.TheVariants as variant
use Rattle.text.specs.declared.write.Progress.{Progress}
use Rattle.rule.specs.Nodes.{form_in}
use Rattle.text.specs.declared.token.WaitingWord.{WaitingWord}
use Rattle.text.specs.declared.stack.Pending.{Pending}
use Rattle.text.proofs.BuildLaws.{put_length, true_length}
use Rattle.text.proofs.HoldLaws.{length_held}

strength_small : (o : typed.Operator) → strength o < 4
strength_small typed.since_word = omega arith
strength_small typed.and_word = omega arith
strength_small typed.or_word = omega arith
strength_small typed.implies_word = omega arith

-- a token, and a progress, that is this one
pub ready_as : {stack : List Pending} {table : List ℕ} {p : Progress} {t x : token.Token} → t ≡ x → Ready stack table p t → Ready stack table p x
ready_as {stack} {table} {p} e h = subst (Ready stack table p) e h

module _ {stack : List Pending} {table : List ℕ} {stack' : List Pending} {table' : List ℕ} {p : Progress} {depth : ℕ} where
  pub took : {t x : token.Token} {r : Progress} → t ≡ x → Takes stack table p depth x stack' table' r → Takes stack table p depth t stack' table' r
  took {r = r} e h = subst (λ y. Takes stack table p depth y stack' table' r) (sym e) h

  pub with_progress : {t : token.Token} {r q : Progress} → r ≡ q → Takes stack table p depth t stack' table' q → Takes stack table p depth t stack' table' r
  with_progress {t = t} e h = subst (Takes stack table p depth t stack' table') (sym e) h

module _ (stack : List Pending) (table : List ℕ) (p : Progress) (depth : ℕ) where
  abbrev count : ℕ
  count = p.height.count

  abbrev top : ℕ
  top = p.height.top

  -- ---- nothing is put

  pub taken_space : Fitting stack top table count → Takes stack table p depth variant.Space stack table p
  unfolding read_all
  taken_space f = record { reading = refl; fits = f }

  pub taken_open : Fitting stack top table count → Takes stack table p depth variant.Open stack table p
  unfolding read_all read
  taken_open f = record { reading = refl; fits = f }

  pub taken_close : Fitting stack top table count → Takes stack table p depth variant.Close stack table p
  unfolding read_all read
  taken_close f = record { reading = refl; fits = f }

  pub taken_register : (n : ℕ) → Fitting stack top table count → Takes stack table p depth (variant.Register n) stack table (progress_with p n p.below)
  unfolding read_all read
  taken_register n f = record { reading = refl; fits = f }

  pub taken_equal : Fitting stack top table count → Takes stack table p depth variant.Equal stack table (progress_with p p.register false)
  unfolding read_all read
  taken_equal f = record { reading = refl; fits = f }

  pub taken_below : Fitting stack top table count → Takes stack table p depth variant.Below stack table (progress_with p p.register true)
  unfolding read_all read
  taken_below f = record { reading = refl; fits = f }

  -- ---- an operand is put

  constant_length : (v : Bool) (ws : List ℕ) → length (put_constant form_in v ws) ≡ length ws + token_cost (word (constant_word v))
  constant_length true ws = true_length form_in ws
  constant_length false ws = put_length form_in false_node ws

  -- the words are there, and as many as the token costs
  put_fits : (t : Token) (table' : List ℕ) (n : ℕ) (ws : List ℕ) → Fitting stack top table count → count + owed (stack_of stack top) + cost (t ∷ []) ≤ table_length
      → length ws ≡ length (take count table) + token_cost t → Holds table' n ws → Fitting stack top table' n
  unfolding cost
  put_fits t table' n ws f r e h =
      let a = length_held count table (let k = f.room in omega arith) f.table_long in
      let b = h.count in
      record { stack_long = f.stack_long; table_long = h.long; room = omega arith; left_small = f.left_small }

  pub constant_room : (v : Bool) → Ready stack table p (variant.Constant v) → (count + token_cost (word (constant_word v)) ≤ table_length) × (length table ≡ table_length)
  unfolding cost
  constant_room v r = (let k = r.room in omega arith, r.fits.table_long)

  pub taken_constant : (v : Bool) (table' : List ℕ) (n : ℕ) → Ready stack table p (variant.Constant v) → Holds table' n (put_constant form_in v (take count table))
      → Takes stack table p depth (variant.Constant v) stack table' (progress_at p top n)
  unfolding read_all read
  taken_constant v table' n r h = record {
    reading = ap (λ ws. reading_with p depth (record { stack = stack_of stack top; value = ws })) h.words;
    fits = put_fits (word (constant_word v)) table' n _ r.fits r.room (constant_length v (take count table)) h;
  }

  pub number_room : (c : ℕ) → Ready stack table p (variant.Number c) → (count < table_length) × (length table ≡ table_length) × (p.register ≤ 15) × (c ≤ 16383)
  unfolding cost
  number_room c r = (let k = r.room in omega arith, r.fits.table_long, r.register, r.in_range.0)

  pub taken_number : (c : ℕ) (table' : List ℕ) (n : ℕ) → Ready stack table p (variant.Number c)
      → Holds table' n (put form_in (test_node (test_of (comparison_of p.below) p.register c)) (take count table))
      → Takes stack table p depth (variant.Number c) stack table' (progress_at p top n)
  unfolding read_all read
  taken_number c table' n r h = record {
    reading = ap (λ ws. reading_with p depth (record { stack = stack_of stack top; value = ws })) h.words;
    fits = put_fits (number c) table' n _ r.fits r.room (put_length form_in (test_node (test_of (comparison_of p.below) p.register c)) (take count table)) h;
  }

  -- ---- a word waits

  module _ (w : Prefix) (m : WaitingWord) (e : waiting_of m ≡ awaiting (prefix_of w)) (r : Ready stack table p (variant.Prefix w)) where
    pub prefix_room : Fitting stack top table count × (count + owed (stack_of stack top) + (begin_cost (waiting_of m) + finish_cost (waiting_of m)) ≤ table_length)
    unfolding cost
    prefix_room = (r.fits, (let k = r.room in let a = ap begin_cost e in let b = ap finish_cost e in omega arith))

    pub taken_prefix : (stack' : List Pending) (top' : ℕ) (table' : List ℕ) (n : ℕ)
        → Builds stack' top' table' n (waits (words form_in) depth (waiting_of m) (built_of stack top table count)) → Takes stack table p depth (variant.Prefix w) stack' table' (progress_at p top' n)
    unfolding read_all read
    taken_prefix stack' top' table' n b = record {
      reading = ap (reading_with p depth)
          (b.built ∙ ap (λ v. waits (words form_in) depth v (built_of stack top table count)) e);
      fits = b.fits;
    }

  module _ (w : Operator) (m : WaitingWord) (level : ℕ) (e : waiting_of m ≡ with_left (operator_of w)) (l : level ≡ suc (strength (operator_of w))) (r : Ready stack table p (variant.Operator w)) where
    pub operator_room : Fitting stack top table count × (count + owed (stack_of stack top) + (begin_cost (waiting_of m) + finish_cost (waiting_of m)) ≤ table_length) × (level ≤ 4)
    unfolding cost
    operator_room = (
      r.fits,
      (let k = r.room in let a = ap begin_cost e in let b = ap finish_cost e in omega arith),
      (let s = strength_small (operator_of w) in omega arith),
    )

    pub taken_operator : (stack' : List Pending) (top' : ℕ) (table' : List ℕ) (n : ℕ)
        → Builds stack' top' table' n (waits (words form_in) depth (waiting_of m) (unwound (words form_in) (rank depth level) (stack_of stack top) (take count table)))
        → Takes stack table p depth (variant.Operator w) stack' table' (progress_at p top' n)
    unfolding read_all read
    taken_operator stack' top' table' n b = record {
      reading = ap (reading_with p depth)
          (b.built ∙ ap₂ (λ v k. waits (words form_in) depth v (unwound (words form_in) (rank depth k) (stack_of stack top) (take count table))) e l);
      fits = b.fits;
    }
