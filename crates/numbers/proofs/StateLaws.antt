-- A machine's words (`specs/States.antt`).
--     bits_word       the word of a word's nodes is that word
--     words_of, ready_words, put_words     a machine's words, and those of its readiness
--     fits_is, fits_fold     whether each of the registers' words has at most 16 bits, asked by `all` and by a fold
--     Noted, step_short, step_large, step_made      what a step hands back, made or not
-- Assumes nothing.
use mathlib.Core.Path.{◌≡◌, refl, sym, subst, ap, ap₂, fun_ext, ◌∙◌}
use mathlib.Core.List.{List, [], ◌∷◌, ◌++◌, append_assoc}
use mathlib.Core.Logic.{inl, inr}
use mathlib.Core.Bool.{Bool, true, false, cond, ◌&&◌}
use Prim.Native.Nat.{ℕ, ◌+◌, ◌^◌, ◌<◌, ◌≤◌}
use native.Mathlib.Omega.{arith}
use lib.Dec.{leb}
use lib.ListN.{length, get_or, take, drop, length-drop}
use lib.Seq.{length-take-le, drop-append_seam, get_or-take, get_or-drop}
use Rattle.std.specs.Bool.{MatchBool}
use Rattle.std.specs.List.{AllWithin, HoldsAt, fold}
use Rattle.spec.specs.Questions.{all_below}
use Rattle.spec.specs.Rule.{Form}
use Rattle.spec.specs.Check.{fact_word}
use Rattle.spec.specs.Ready.{MachineState}
use Rattle.spec.proofs.BoolLaws.{le_or_lt, clash}
use Rattle.spec.proofs.QuestionLaws.{below_in, below_out}
use Rattle.spec.proofs.StoredLaws.{word_small, nodes_stored, no_nodes_lem}
use Rattle.sets.specs.Sets.{set_of}
use Rattle.rule.proofs.NumberLaws.{fold_below}
use Rattle.machine.specs.declared.Machine.{Machine}
use Rattle.machine.specs.declared.ready.Readiness.{Readiness}
use Rattle.machine.specs.Machines.{machine_of, readiness_of}
use Rattle.machine.proofs.ViewLaws.{set_once}
use borrow.Author.Tests.{le-leb, lt-leb}
use Rattle.numbers.specs.States.{machine_words, readiness_words, state_words, registers_fit, state_fits, is_stated, step_result, stepped}

pub bits_word : (w : ℕ) → w < 2 ^ 64 → fact_word 64 0 (set_of w) ≡ w
bits_word w h =
    set_once (fact_word 64 0 (set_of w)) w (word_small 64 0 (set_of w)) h
    (fun_ext (λ k. elim (le_or_lt 64 k) [
      | inl l ↦ no_nodes_lem 64 (fact_word 64 0 (set_of w)) k l ∙ sym (no_nodes_lem 64 w k l)
      | inr l ↦ nodes_stored 64 (set_of w) k l
    ]))

module _ (m : Machine) (h : List ℕ) where
  pub words_of : m.kept < 2 ^ 64 → m.work < 2 ^ 64
      → machine_words (machine_of m h) ≡ m.line ∷ m.presentations ∷ m.reads ∷ m.kept ∷ m.work ∷ m.registers
  unfolding machine_words
  words_of kept work =
      ap₂ (λ (a b : ℕ). m.line ∷ m.presentations ∷ m.reads ∷ a ∷ b ∷ m.registers) (bits_word m.kept kept) (bits_word m.work work)

pub ready_words : (x : Readiness) → x.priors < 2 ^ 64 → x.next < 2 ^ 64 → x.tested < 2 ^ 64
    → readiness_words (readiness_of x) ≡ cond x.ready 1 0 ∷ x.priors ∷ x.next ∷ x.tested ∷ []
unfolding readiness_words
ready_words x a b c =
    let p = bits_word x.priors a in let n = bits_word x.next b in let q = bits_word x.tested c in
    λ i. cond x.ready 1 0 ∷ p i ∷ n i ∷ q i ∷ []

-- the words of a readiness, and then those of the machine before them
pub put_words : (vs ready lent : List ℕ) → 25 ≤ length lent → vs ++ drop 21 (take 21 lent ++ ready ++ drop 25 lent) ≡ vs ++ ready ++ drop 25 lent
put_words vs ready lent h =
    let first = take 21 lent in
    let n : length first ≡ 21 = length-take-le 21 lent (omega arith) in
    ap (λ (l : List ℕ). vs ++ drop 21 l) (append_assoc first ready (drop 25 lent))
    ∙ ap (λ (k : ℕ). vs ++ drop k (first ++ (ready ++ drop 25 lent))) (sym n)
    ∙ ap (λ (l : List ℕ). vs ++ l) (drop-append_seam first (ready ++ drop 25 lent)) ∙ sym (append_assoc vs ready (drop 25 lent))

-- ---- the registers

module _ (s : List ℕ) (long : 25 ≤ length s) where
  abbrev words : List ℕ
  words = take 16 (drop 5 s)

  abbrev fit : ℕ → Bool
  fit i = leb (get_or s (5 + i) 0) 65535

  sixteen : length words ≡ 16
  sixteen = length-take-le 16 (drop 5 s) (omega (arith, length-drop 5 s))

  word_is : (k : ℕ) → k < 16 → get_or words k 0 ≡ get_or s (5 + k) 0
  word_is k h = get_or-take 16 (drop 5 s) k 0 h ∙ get_or-drop 5 s k 0

  unfit : (b : Bool) → all_below 16 fit ≡ b → (k : ℕ) → k < 16 → fit k ≡ false → false ≡ b
  unfit true e k h d = clash (below_out 16 fit e k h) d
  unfit false e k h d = refl

  pub fits_is : (b : Bool)
      → MatchBool b (AllWithin (λ x. x ≤ 65535) words 0 (length words)) ((k : ℕ) × (k < length words) × HoldsAt (λ x. 65535 < x) words k)
      → b ≡ registers_fit s
  unfolding registers_fit
  fits_is true h = sym (below_in 16 fit (λ k l. le-leb _ _ (subst (λ x. x ≤ 65535) (word_is k l) (h k 0 (omega arith) (omega (arith, sixteen))))))
  fits_is false h =
      let l : h.0 < 16 = omega (arith, sixteen, h.1) in
      unfit (all_below 16 fit) refl h.0 l (lt-leb _ _ (subst (λ x. 65535 < x) (word_is h.0 l) (h.2 0)))

  pub fits_fold : (b : Bool) → b ≡ fold (λ b w. b && leb w 65535) true words → b ≡ registers_fit s
  unfolding registers_fit
  fits_fold b e =
      fold_below (λ w. leb w 65535) 0 words fit (λ k h. ap (λ w. leb w 65535) (word_is k (omega (arith, sixteen)))) b e
      ∙ ap (λ n. all_below n fit) sixteen

-- ---- whether a step is made

pub short : (ws : List ℕ) → length ws < 25 → (◌≡◌ {A = ℕ} 99 (step_result ws)) × (is_stated ws ≡ false)
unfolding step_result is_stated
short ws h = let room = lt-leb 25 (length ws) h in (rw room, rw room)

pub large : (ws : List ℕ) → 25 ≤ length ws → state_fits ws ≡ false → (◌≡◌ {A = ℕ} 98 (step_result ws)) × (is_stated ws ≡ false)
unfolding step_result is_stated
large ws h fit = let room = le-leb 25 (length ws) h in (rw (room, fit), rw (room, fit))

stated : (ws : List ℕ) → 25 ≤ length ws → state_fits ws ≡ true → (◌≡◌ {A = ℕ} 0 (step_result ws)) × (is_stated ws ≡ true)
unfolding step_result is_stated
stated ws h fit = let room = le-leb 25 (length ws) h in (rw (room, fit), rw (room, fit))

-- ---- what is handed back, for any stored form

module _ (form : Form) (rule script inputs ws lent : List ℕ) where
  abbrev after : MachineState
  after = stepped form rule script inputs ws lent

  abbrev pub Noted : (number : ℕ) (words history : List ℕ) → Type 0
  Noted n words history =
      (n ≡ step_result ws) × ((words ≡ cond (is_stated ws) (state_words after ++ drop 25 ws) ws) × (history ≡ cond (is_stated ws) after.machine.history lent))

  pub step_short : length ws < 25 → Noted 99 ws lent
  step_short h = let (number, unmade) = short ws h in (number, (rw unmade, rw unmade))

  pub step_large : 25 ≤ length ws → state_fits ws ≡ false → Noted 98 ws lent
  step_large h fit = let (number, unmade) = large ws h fit in (number, (rw unmade, rw unmade))

  pub step_made : 25 ≤ length ws → state_fits ws ≡ true → (x : MachineState) → x ≡ after → (words : List ℕ) → words ≡ state_words x ++ drop 25 ws
      → Noted 0 words x.machine.history
  step_made h fit x e words d =
      let (number, made) = stated ws h fit in
      (number, (d ∙ ap (λ (y : MachineState). state_words y ++ drop 25 ws) e ∙ rw made, ap (λ (y : MachineState). y.machine.history) e ∙ rw made))
