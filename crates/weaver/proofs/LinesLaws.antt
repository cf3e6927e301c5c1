-- A bare script, line after line.
--     part_each, part_size, back_each        the words of the output from one on
--     weave_up_to, weaving_series            the woven lines of the first l bare lines
--     up_to_length, up_to_all             how many there are; those of all bare lines are the woven script
--     present_line_lem, other_line            what a line becomes
--     woven_block, woven_line, woven_start, woven_few, woven_room, woven_more, woven_size    what the loop over the lines asks
-- Assumes nothing.
use mathlib.Core.Path.{◌≡◌, refl, sym, ap, ap₂, ◌∙◌}
use mathlib.Core.Bool.{Bool, true, false, cond}
use mathlib.Core.List.{List, [], ◌∷◌, ◌++◌, append_assoc, append-nil}
use Prim.Native.Nat.{ℕ, zero, suc, ◌+◌, ◌-◌, ◌*◌, ◌≤◌, ◌<◌}
use native.Mathlib.Omega.{arith}
use lib.ListN.{length, get_or, take, drop, length-append, length-drop, drop_of_length-le}
use lib.Seq.{drop-cons, length-take-le}
use Rattle.std.proofs.lemmas.List.{map-append}
use Rattle.spec.specs.Rule.{Table}
use Rattle.spec.specs.Script.{Instruction, halt, Code, instruction_at, instruction_read, is_present, bare_code}
use Rattle.spec.specs.Check.{Lines}
use Rattle.spec.specs.Weaver.{line, bare_facts, block, block_size, line_size, start_of, retarget, weave_line, weave_from, weave, woven_count}
use Rattle.spec.proofs.RuleLaws.{InOrder, rule_out}
use Rattle.spec.proofs.WeaverLaws.{start_zero, start_next, length_weave_line}
use Rattle.layout.proofs.StartLaws.{code_at, length_bare, present_inside, woven_few as few}
use Rattle.weaver.specs.Laid.{Blocking, Weaving}
use Rattle.rule.specs.Nodes.{table_in, form_in, Each}
use Rattle.rule.proofs.EachLaws.{length_each, take_each, drop_each}
use Rattle.rule.proofs.PutLaws.{part_from, back_from}
use Rattle.facts.specs.Written.{Space}
use Rattle.weaver.proofs.SeriesLaws.{Series, Filled, filled_room, filled_part}

-- ---- a part of the output

module _ {A : Type 0} {number : A → ℕ} {numbers : List A → List ℕ} (each : Each number numbers) where
  append_each : (xs ys : List A) → numbers (xs ++ ys) ≡ numbers xs ++ numbers ys
  append_each xs ys = each (xs ++ ys) ∙ map-append number xs ys ∙ ap₂ ◌++◌ (sym (each xs)) (sym (each ys))

  module _ (s : ℕ) (o : List A) where
    pub part_each : numbers (take (length o - s) (drop s o)) ≡ part_from s (numbers o)
    part_each = take_each each (drop s o) (length o - s) ∙ ap₂ (λ n xs. take (n - s) xs) (sym (length_each each o)) (drop_each each o s)

    pub part_size : length (numbers (take (length o - s) (drop s o))) ≡ length (numbers o) - s
    part_size =
        length_each each (take (length o - s) (drop s o)) ∙ length-take-le (length o - s) (drop s o) (omega (arith, length-drop s o))
        ∙ ap (λ n. n - s) (sym (length_each each o))

    pub back_each : (p : List A) → numbers (take s o ++ (p ++ drop (length o - s) (drop s o))) ≡ back_from s (numbers o) (numbers p)
    back_each p =
        append_each (take s o) (p ++ drop (length o - s) (drop s o))
        ∙ ap₂ ◌++◌ (take_each each o s) (append_each p (drop (length o - s) (drop s o))
        ∙ ap (λ xs. numbers p ++ xs) (drop_each each (drop s o) (length o - s)
        ∙ ap₂ (λ n xs. drop (n - s) xs) (sym (length_each each o)) (drop_each each o s)))

-- ---- lines of the first bare lines

unfoldable pub weave_up_to : Table → Code → ℕ → Lines
weave_up_to t code zero = []
weave_up_to t code (suc l) = weave_up_to t code l ++ weave_line t code (start_of t code l) (instruction_at code l)

pub up_to_none : (t : Table) (code : Code) → weave_up_to t code 0 ≡ []
unfolding weave_up_to
up_to_none t code = refl

pub up_to_more : (t : Table) (code : Code) (l : ℕ)
    → weave_up_to t code l ++ weave_line t code (start_of t code l) (instruction_at code l) ≡ weave_up_to t code (suc l)
unfolding weave_up_to
up_to_more t code l = refl

abbrev pub weaving_series : Table → Code → Series
weaving_series t code = record {
  whole = weave_up_to t code;
  part = λ l. weave_line t code (start_of t code l) (instruction_at code l);
  start = up_to_none t code;
  next = up_to_more t code;
}

module _ (t : Table) (o : InOrder t) (code : Code) where
  pub up_to_length : (l : ℕ) → l ≤ length code → length (weave_up_to t code l) ≡ start_of t code l
  unfolding weave_up_to
  up_to_length zero h = sym (start_zero t code)
  up_to_length (suc l) h =
      length-append (weave_up_to t code l) (weave_line t code (start_of t code l) (instruction_at code l))
      ∙ ap₂ ◌+◌ (up_to_length l (omega arith)) (length_weave_line t o code (start_of t code l) (instruction_at code l))
      ∙ sym (start_next t code l (omega arith))

  rest_next : (p l : ℕ) → l < length code → weave_from t code p (drop l code)
      ≡ weave_line t code p (instruction_at code l) ++ weave_from t code (p + line_size t (instruction_at code l)) (drop (suc l) code)
  unfolding weave_from
  rest_next p l h = ap (weave_from t code p) (drop-cons code l halt h)

  up_to_rest : (l : ℕ) → l ≤ length code → weave_up_to t code l ++ weave_from t code (start_of t code l) (drop l code) ≡ weave t code
  unfolding weave_up_to weave
  up_to_rest zero h = ap (λ p. weave_from t code p code) (start_zero t code)
  up_to_rest (suc l) h =
      append_assoc (weave_up_to t code l) (weave_line t code (start_of t code l) (instruction_at code l)) (weave_from t code (start_of t code (suc l)) (drop (suc l) code))
      ∙ ap (λ p. weave_up_to t code l ++ (weave_line t code (start_of t code l) (instruction_at code l) ++ weave_from t code p (drop (suc l) code))) (start_next t code l (omega arith))
      ∙ ap (λ ls. weave_up_to t code l ++ ls) (sym (rest_next (start_of t code l) l (omega arith)))
      ∙ up_to_rest l (omega arith)

  pub up_to_all : weave_up_to t code (length code) ≡ weave t code
  unfolding weave_from
  up_to_all =
      sym (append-nil (weave_up_to t code (length code)))
      ∙ ap (λ c. weave_up_to t code (length code) ++ weave_from t code (start_of t code (length code)) c) (sym (drop_of_length-le code {i = length code} (omega arith)))
      ∙ up_to_rest (length code) (omega arith)

-- ---- what a bare line becomes

pub present_line_lem : (t : Table) (code : Code) (place : ℕ) (i : Instruction) → is_present i ≡ true
    → (block_size t ≡ line_size t i) × (block t place ≡ weave_line t code place i)
unfolding weave_line
present_line_lem t code place i e =
    (ap (λ b. cond b (block_size t) 1) (sym e), ap (λ b. cond b (block t place) (line (retarget (start_of t code) i) (bare_facts t) ∷ [])) (sym e))

pub other_line : (t : Table) (code : Code) (place : ℕ) (i : Instruction) → is_present i ≡ false
    → (1 ≡ line_size t i) × (line (retarget (start_of t code) i) (bare_facts t) ∷ [] ≡ weave_line t code place i)
unfolding weave_line
other_line t code place i e =
    (ap (λ b. cond b (block_size t) 1) (sym e), ap (λ b. cond b (block t place) (line (retarget (start_of t code) i) (bare_facts t) ∷ [])) (sym e))

-- ---- what is asked to write a line

module _ {rule bare sizes starts : List ℕ} {size shared past : ℕ} (v : Weaving rule bare sizes starts size shared past) where
  abbrev table : Table
  table = table_in rule

  abbrev code : Code
  code = bare_code bare

  pub order : InOrder table
  order = (rule_out form_in rule v.sized.0).ordered

  pub woven_block : (l place : ℕ) (out : List ℕ) → l < length bare → place ≡ start_of table code l → is_present (instruction_at code l) ≡ true
      → Space 0 (line_size table (instruction_at code l)) out → Blocking rule sizes shared place out
  woven_block l place out h e p room =
      let q : is_present (instruction_read (get_or bare l 0)) ≡ true = ap is_present (sym (code_at bare l)) ∙ p in
      let i = present_inside rule bare v.started.weavable l h q in
      let z : block_size table ≡ line_size table (instruction_at code l) = (present_line_lem table code place (instruction_at code l) p).0 in
      record { sized = v.sized; shared_is = v.shared_is; in_script = omega arith; in_output = omega arith }

  pub woven_line : (l : ℕ) (out : List ℕ) → Space 0 (line_size table (instruction_at code l)) out → is_present (instruction_at code l) ≡ false → Space 0 1 out
  woven_line l out room p =
      let z : 1 ≡ line_size table (instruction_at code l) = (other_line table code 0 (instruction_at code l) p).0 in omega arith

  module _ (b : Bool) (o₀ : List ℕ) {o : List ℕ} {c l : ℕ} (i : Filled (weaving_series table code) b 0 o₀ o c l) (h : l ≤ length bare)
      (room : Space 0 (woven_count table code) o₀) where
    all_length : length (weave_up_to table code (length bare)) ≡ woven_count table code
    all_length =
        up_to_length table order code (length bare) (omega (arith, length_bare bare)) ∙ ap (start_of table code) (sym (length_bare bare))

    pub all_room : 8 * (0 + length (weave_up_to table code (length bare))) ≤ length o₀
    all_room = omega (arith, all_length)

    pub woven_start : c ≡ start_of table code l
    woven_start = i.0 ∙ up_to_length table order code l (omega (arith, length_bare bare))

    -- the lines written are few, and the output has them
    pub woven_few : (c ≤ 1024) × (8 * c ≤ length o)
    woven_few =
        let r = filled_room (weaving_series table code) b 0 o₀ o c l (length bare) i h all_room in
        let f = few rule bare v.started.weavable in
        (omega (arith, all_length), omega (arith, all_length))

    module _ (g : l < length bare) where
      line_length_lem : length (weave_line table code (start_of table code l) (instruction_at code l)) ≡ line_size table (instruction_at code l)
      line_length_lem = length_weave_line table order code (start_of table code l) (instruction_at code l)

      part_within : c + line_size table (instruction_at code l) ≤ woven_count table code
      part_within =
          let q = filled_part (weaving_series table code) b 0 o₀ o c l (length bare) i h all_room g in omega (arith, line_length_lem, all_length)

      -- the rest of the output has space for bare line l
      pub woven_room : (out : List ℕ) → length out ≡ length o - 8 * c → Space 0 (line_size table (instruction_at code l)) out
      woven_room out e =
          let q = part_within in let s = (filled_room (weaving_series table code) b 0 o₀ o c l (length bare) i h all_room).1 in omega arith

      pub woven_more : c + line_size table (instruction_at code l) ≤ 1024
      woven_more = let q = part_within in let f = few rule bare v.started.weavable in omega arith

      pub woven_size : (m : ℕ) → m ≡ line_size table (instruction_at code l) → m ≡ length (weave_line table code (start_of table code l) (instruction_at code l))
      woven_size m e = e ∙ sym line_length_lem
