-- Tests within limits (`specs/Limits.antt`).
--     Between, Inside                  a register of an exact state lies within the limits; every one does
--     test_can_lem, test_reached           a result lies within the limits if and only if some state within them gives it
--     test_some, test_is               some result does, where the limits are in order; then a test can be what lies within its limits
--     test_known                       exact limits
--     test_narrow, test_same           limits within others; limits that differ elsewhere
-- Assumes nothing.
use mathlib.Core.Path.{◌≡◌, refl, sym, ap, subst, ◌∙◌}
use mathlib.Core.Logic.{inl, inr}
use mathlib.Core.Bool.{Bool, true, false, not, ◌&&◌, ◌||◌}
use Prim.Native.Nat.{ℕ, ◌≤◌, ◌<◌}
use native.Mathlib.Nat.{le_refl}
use native.Mathlib.Omega.{arith}
use native.Mathlib.Decide.{ℕ_discrete}
use lib.Seq.{get_or-set_same, get_or-set_other}
use lib.ListN.{length, set, length-set}
use lib.Dec.{eqb, ltb, leb}
use borrow.Author.Tests.{ltb-true, ltb-false, leb-true, eqb-true, eqb-false, lt-ltb, le-ltb, le-leb, eq-eqb, ne_eqb, not-true}
use Rattle.spec.specs.Logic.{State, register_of, Test, equal, below, equal_registers, passes}
use Rattle.spec.proofs.BoolLaws.{clash, and_both, both_and, or_either, or_left, or_right, decided, le_or_lt}
use Rattle.intervals.specs.Limits.{known, can, test_can, test₃}
use Rattle.intervals.specs.Reasons.{test_registers}
use Rattle.intervals.proofs.TruthLaws.{can_open, open_one}

abbrev pub Between : (low high s : State) → ℕ → Type 0
Between low high s r = (register_of low r ≤ register_of s r) × (register_of s r ≤ register_of high r)

abbrev pub Inside : (low high s : State) → Type 0
Inside low high s = (r : ℕ) → Between low high s r

-- ---- the result in a state within the limits lies within them; only the registers that the test depends on need to

denied : {b : Bool} → (b ≡ true → ⊥) → not b ≡ true
denied {b} n = go b n
  where
    go : (b : Bool) → (b ≡ true → ⊥) → not b ≡ true
    go true n = absurd (n refl)
    go false n = refl

pub test_can_lem : (a : Test) (low high s : State) → ((r : ℕ) → test_registers a r ≡ true → Between low high s r) → test_can a low high (passes a s) ≡ true
unfolding test_can passes
test_can_lem (equal r c) low high s w = go (eqb (register_of s r) c) refl
  where
    go : (b : Bool) → eqb (register_of s r) c ≡ b → test_can (equal r c) low high b ≡ true
    go true e =
        let z = eqb-true (register_of s r) c e in
        let (l, h) = w r (eq-eqb r r refl) in
        both_and (le-leb (register_of low r) c (omega arith)) (le-leb c (register_of high r) (omega arith))
    go false e = denied (λ d.
        let (p, q) = and_both (eqb (register_of low r) c) (eqb (register_of high r) c) d in
        let (l, h) = w r (eq-eqb r r refl) in
        let x = eqb-true (register_of low r) c p in
        let y = eqb-true (register_of high r) c q in
        eqb-false (register_of s r) c e (omega arith))
test_can_lem (below r c) low high s w = go (ltb (register_of s r) c) refl
  where
    go : (b : Bool) → ltb (register_of s r) c ≡ b → test_can (below r c) low high b ≡ true
    go true e = let z = ltb-true (register_of s r) c e in let (l, h) = w r (eq-eqb r r refl) in lt-ltb (register_of low r) c (omega arith)
    go false e = let z = ltb-false (register_of s r) c e in let (l, h) = w r (eq-eqb r r refl) in le-leb c (register_of high r) (omega arith)
test_can_lem (equal_registers r q) low high s w = elim (decided (eqb r q)) [ inl same ↦ itself same | inr apart ↦ two apart (eqb (register_of s r) (register_of s q)) refl ]
  where
    itself : eqb r q ≡ true → test_can (equal_registers r q) low high (eqb (register_of s r) (register_of s q)) ≡ true
    itself same =
        subst (λ b. test_can (equal_registers r q) low high b ≡ true)
        (sym (eq-eqb (register_of s r) (register_of s q) (ap (register_of s) (eqb-true r q same)))) (or_left (eqb r q) _ same)

    two : eqb r q ≡ false → (b : Bool) → eqb (register_of s r) (register_of s q) ≡ b → test_can (equal_registers r q) low high b ≡ true
    two apart true e =
        let z = eqb-true (register_of s r) (register_of s q) e in
        let (l, h) = w r (both_and (ap not apart) (or_left (eqb r r) (eqb r q) (eq-eqb r r refl))) in
        let (m, k) = w q (both_and (ap not apart) (or_right (eqb q r) (eqb q q) (eq-eqb q q refl))) in
        or_right (eqb r q) _ (both_and (le-leb (register_of low r) (register_of high q) (omega arith)) (le-leb (register_of low q) (register_of high r) (omega arith)))
    two apart false e = denied (λ d.
        elim (or_either (eqb r q) (eqb (register_of low r) (register_of high r) && eqb (register_of low q) (register_of high q) && eqb (register_of low r) (register_of low q)) d) [
          | inl same ↦ clash same apart
          | inr exact ↦
              let (x, y) = and_both (eqb (register_of low r) (register_of high r) && eqb (register_of low q) (register_of high q)) (eqb (register_of low r) (register_of low q)) exact in
              let (u, v) = and_both (eqb (register_of low r) (register_of high r)) (eqb (register_of low q) (register_of high q)) x in
              let u' = eqb-true (register_of low r) (register_of high r) u in
              let v' = eqb-true (register_of low q) (register_of high q) v in
              let y' = eqb-true (register_of low r) (register_of low q) y in
              let (l, h) = w r (both_and (ap not apart) (or_left (eqb r r) (eqb r q) (eq-eqb r r refl))) in
              let (m, k) = w q (both_and (ap not apart) (or_right (eqb q r) (eqb q q) (eq-eqb q q refl))) in
              eqb-false (register_of s r) (register_of s q) e (omega arith)
        ])

-- some result lies within limits that are in order
pub test_some : (a : Test) (low high : State) → ((r : ℕ) → register_of low r ≤ register_of high r) → (test_can a low high true || test_can a low high false) ≡ true
test_some a low high order = go (passes a low) (test_can_lem a low high low (λ r h. (le_refl (register_of low r), order r)))
  where
    go : (b : Bool) → test_can a low high b ≡ true → (test_can a low high true || test_can a low high false) ≡ true
    go true e = or_left _ _ e
    go false e = or_right (test_can a low high true) _ e

-- then a test can be what lies within its limits
pub test_is : (a : Test) (low high : State) → ((r : ℕ) → register_of low r ≤ register_of high r) → (b : Bool) → can (test₃ a low high) b ≡ test_can a low high b
test_is a low high order true = can_open (test_can a low high true) (test_can a low high false) (test_some a low high order) true
test_is a low high order false = can_open (test_can a low high true) (test_can a low high false) (test_some a low high order) false

-- ---- a result that lies within the limits is that of some state within them

abbrev pub InState : Test → State → Type 0
InState (equal r c) s = r < length s
InState (below r c) s = r < length s
InState (equal_registers r q) s = (r < length s) × (q < length s)

module _ (low high : State) (order : (r : ℕ) → register_of low r ≤ register_of high r) where
  -- some state within the limits passes the test, or fails it
  abbrev pub Reached : Test → Bool → Type 0
  Reached a b = (s : State) × Inside low high s × (passes a s ≡ b)

  lowest : Inside low high low
  lowest j = (le_refl (register_of low j), order j)

  -- a state within the limits, with register r set to x
  put_inside : (s : State) → Inside low high s → (r x : ℕ) → r < length s → register_of low r ≤ x → x ≤ register_of high r → Inside low high (set s r x)
  put_inside s w r x l a b j =
      elim (ℕ_discrete j r) [
        | yes e ↦
            let z : register_of (set s r x) j ≡ x = ap (register_of (set s r x)) e ∙ get_or-set_same s r x 0 l in
            (rw (z, e) a, rw (z, e) b)
        | no n ↦
            let z : register_of (set s r x) j ≡ register_of s j = get_or-set_other s r j x 0 n in
            let (p, q) = w j in
            (omega arith, omega arith)
      ]

  -- two registers of one such state, both set to x
  pair_inside : (r q x : ℕ) → r < length low → q < length low → (r ≡ q → ⊥) → register_of low r ≤ x → x ≤ register_of high r → register_of low q ≤ x
      → x ≤ register_of high q → Reached (equal_registers r q) true
  unfolding passes
  pair_inside r q x l m n a b c d =
      let s = set low r x in
      let m' : q < length s = omega (arith, length-set low r x) in (
        set s q x,
        put_inside s (put_inside low lowest r x l a b) q x m' c d,
        eq-eqb (register_of (set s q x) r) (register_of (set s q x) q)
            (get_or-set_other s q r x 0 n ∙ get_or-set_same low r x 0 l ∙ sym (get_or-set_same s q x 0 m')),
      )

  -- one register of the lowest state raised to its highest value
  raised : (r : ℕ) → r < length low → Inside low high (set low r (register_of high r))
  raised r l = put_inside low lowest r (register_of high r) l (order r) (le_refl (register_of high r))

  two_equal : (r q : ℕ) → r < length low → q < length low → test_can (equal_registers r q) low high true ≡ true → Reached (equal_registers r q) true
  unfolding test_can passes
  two_equal r q l m e =
      elim (or_either (eqb r q) (leb (register_of low r) (register_of high q) && leb (register_of low q) (register_of high r)) e) [
        | inl same ↦ (low, lowest, eq-eqb (register_of low r) (register_of low q) (ap (register_of low) (eqb-true r q same)))
        | inr meet ↦ elim (decided (eqb r q)) [
          | inl same ↦ (low, lowest, eq-eqb (register_of low r) (register_of low q) (ap (register_of low) (eqb-true r q same)))
          | inr apart ↦
              let (p, o) = and_both (leb (register_of low r) (register_of high q)) (leb (register_of low q) (register_of high r)) meet in
              let p' = leb-true (register_of low r) (register_of high q) p in
              let o' = leb-true (register_of low q) (register_of high r) o in
              let n = eqb-false r q apart in
              let wr = order r in
              let wq = order q in
              elim (le_or_lt (register_of low r) (register_of low q)) [
                | inl h ↦ pair_inside r q (register_of low q) l m n h o' (le_refl (register_of low q)) wq
                | inr h ↦ pair_inside r q (register_of low r) l m n (le_refl (register_of low r)) wr (omega arith) p'
              ]
        ]
      ]

  two_differ : (r q : ℕ) → r < length low → q < length low → test_can (equal_registers r q) low high false ≡ true → Reached (equal_registers r q) false
  unfolding test_can passes
  two_differ r q l m e =
      let apart : eqb r q ≡ false = not_first (eqb r q) _ e in
      let n = eqb-false r q apart in
      elim (decided (eqb (register_of low r) (register_of low q))) [
        | inr differ ↦ (low, lowest, differ)
        | inl alike ↦
            let z = eqb-true (register_of low r) (register_of low q) alike in
            elim (decided (eqb (register_of low r) (register_of high r))) [
              | inr wide ↦ (
                set low r (register_of high r),
                raised r l,
                ne_eqb (register_of (set low r (register_of high r)) r) (register_of (set low r (register_of high r)) q) (λ d.
                    eqb-false (register_of low r) (register_of high r) wide
                    (z ∙ sym (get_or-set_other low r q (register_of high r) 0 (λ i. n (sym i))) ∙ sym d ∙ get_or-set_same low r (register_of high r) 0 l)),
              )
              | inl exact ↦ (
                set low q (register_of high q),
                raised q m,
                ne_eqb (register_of (set low q (register_of high q)) r) (register_of (set low q (register_of high q)) q) (λ d.
                    let y : register_of low q ≡ register_of high q =
                    sym z ∙ sym (get_or-set_other low q r (register_of high q) 0 n) ∙ d ∙ get_or-set_same low q (register_of high q) 0 m in
                    clash (or_right (eqb r q) _ (both_and (both_and exact (eq-eqb (register_of low q) (register_of high q) y)) alike)) (not-true _ e)),
              )
            ]
      ]
    where
      not_first : (a b : Bool) → not (a || b) ≡ true → a ≡ false
      not_first true b e = clash e refl
      not_first false b e = refl

  pub test_reached : (a : Test) → InState a low → (b : Bool) → test_can a low high b ≡ true → Reached a b
  unfolding test_can passes
  test_reached (equal r c) l true e =
      let (p, q) = and_both (leb (register_of low r) c) (leb c (register_of high r)) e in (
        set low r c,
        put_inside low lowest r c l (leb-true (register_of low r) c p) (leb-true c (register_of high r) q),
        eq-eqb (register_of (set low r c) r) c (get_or-set_same low r c 0 l),
      )
  test_reached (equal r c) l false e =
      elim (decided (eqb (register_of low r) c)) [
        | inr differ ↦ (low, lowest, differ)
        | inl alike ↦ (
          set low r (register_of high r),
          raised r l,
          ap (λ x. eqb x c) (get_or-set_same low r (register_of high r) 0 l) ∙ above alike (eqb (register_of high r) c) refl,
        )
      ]
    where
      above : eqb (register_of low r) c ≡ true → (b : Bool) → eqb (register_of high r) c ≡ b → b ≡ false
      above alike true d = clash e (ap not (both_and alike d))
      above alike false d = refl
  test_reached (below r c) l true e = (low, lowest, e)
  test_reached (below r c) l false e = (
    set low r (register_of high r),
    raised r l,
    ap (λ x. ltb x c) (get_or-set_same low r (register_of high r) 0 l) ∙ le-ltb (register_of high r) c (leb-true c (register_of high r) e),
  )
  test_reached (equal_registers r q) l true e = two_equal r q l.0 l.1 e
  test_reached (equal_registers r q) l false e = two_differ r q l.0 l.1 e

-- ---- exact limits

-- the one result is the state's own
test_only : (a : Test) (s : State) (b : Bool) → test_can a s s b ≡ true → passes a s ≡ b
unfolding test_can passes
test_only (equal r c) s true e =
    let (p, q) = and_both (leb (register_of s r) c) (leb c (register_of s r)) e in
    let l = leb-true (register_of s r) c p in
    let h = leb-true c (register_of s r) q in
    eq-eqb (register_of s r) c (omega arith)
test_only (equal r c) s false e = ne_eqb (register_of s r) c (λ z. let h = eq-eqb (register_of s r) c z in clash (both_and h h) (not-true _ e))
test_only (below r c) s true e = e
test_only (below r c) s false e = le-ltb (register_of s r) c (leb-true c (register_of s r) e)
test_only (equal_registers r q) s true e =
    elim (or_either (eqb r q) (leb (register_of s r) (register_of s q) && leb (register_of s q) (register_of s r)) e) [
      | inl same ↦ eq-eqb (register_of s r) (register_of s q) (ap (register_of s) (eqb-true r q same))
      | inr meet ↦
          let (p, o) = and_both (leb (register_of s r) (register_of s q)) (leb (register_of s q) (register_of s r)) meet in
          let l = leb-true (register_of s r) (register_of s q) p in
          let h = leb-true (register_of s q) (register_of s r) o in
          eq-eqb (register_of s r) (register_of s q) (omega arith)
    ]
test_only (equal_registers r q) s false e =
    ne_eqb (register_of s r) (register_of s q) (λ z.
    clash (or_right (eqb r q) _ (both_and (both_and (eq-eqb (register_of s r) (register_of s r) refl) (eq-eqb (register_of s q) (register_of s q) refl))
    (eq-eqb (register_of s r) (register_of s q) z))) (not-true _ e))

pub test_known : (a : Test) (s : State) → test₃ a s s ≡ known (passes a s)
test_known a s = open_one (test_can a s s) (passes a s) (test_can_lem a s s s (λ r h. (le_refl (register_of s r), le_refl (register_of s r)))) (test_only a s)

-- ---- limits within others

module _ (low high low' high' : State) (above : (r : ℕ) → register_of low r ≤ register_of low' r) (order : (r : ℕ) → register_of low' r ≤ register_of high' r)
    (under : (r : ℕ) → register_of high' r ≤ register_of high r) where
  pub test_narrow : (a : Test) (b : Bool) → test_can a low' high' b ≡ true → test_can a low high b ≡ true
  unfolding test_can
  test_narrow (equal r c) true e =
      let (p, q) = and_both (leb (register_of low' r) c) (leb c (register_of high' r)) e in
      let l = leb-true (register_of low' r) c p in
      let h = leb-true c (register_of high' r) q in
      let i = above r in
      let j = under r in
      both_and (le-leb (register_of low r) c (omega arith)) (le-leb c (register_of high r) (omega arith))
  test_narrow (equal r c) false e = denied (λ d.
      let (p, q) = and_both (eqb (register_of low r) c) (eqb (register_of high r) c) d in
      let l = eqb-true (register_of low r) c p in
      let h = eqb-true (register_of high r) c q in
      let i = above r in
      let j = order r in
      let k = under r in
      clash (both_and (eq-eqb (register_of low' r) c (omega arith)) (eq-eqb (register_of high' r) c (omega arith))) (not-true _ e))
  test_narrow (below r c) true e =
      let l = ltb-true (register_of low' r) c e in
      let i = above r in
      lt-ltb (register_of low r) c (omega arith)
  test_narrow (below r c) false e =
      let h = leb-true c (register_of high' r) e in
      let j = under r in
      le-leb c (register_of high r) (omega arith)
  test_narrow (equal_registers r q) true e =
      elim (or_either (eqb r q) (leb (register_of low' r) (register_of high' q) && leb (register_of low' q) (register_of high' r)) e) [
        | inl same ↦ or_left (eqb r q) _ same
        | inr meet ↦
            let (p, o) = and_both (leb (register_of low' r) (register_of high' q)) (leb (register_of low' q) (register_of high' r)) meet in
            let l = leb-true (register_of low' r) (register_of high' q) p in
            let h = leb-true (register_of low' q) (register_of high' r) o in
            let i = above r in
            let j = under r in
            let m = above q in
            let n = under q in
            or_right (eqb r q) _ (both_and (le-leb (register_of low r) (register_of high q) (omega arith)) (le-leb (register_of low q) (register_of high r) (omega arith)))
      ]
  test_narrow (equal_registers r q) false e = denied (λ d.
      elim (or_either (eqb r q) (eqb (register_of low r) (register_of high r) && eqb (register_of low q) (register_of high q) && eqb (register_of low r) (register_of low q)) d) [
        | inl same ↦ clash (or_left (eqb r q) _ same) (not-true _ e)
        | inr exact ↦
            let (x, y) = and_both (eqb (register_of low r) (register_of high r) && eqb (register_of low q) (register_of high q)) (eqb (register_of low r) (register_of low q)) exact in
            let (u, v) = and_both (eqb (register_of low r) (register_of high r)) (eqb (register_of low q) (register_of high q)) x in
            let u' = eqb-true (register_of low r) (register_of high r) u in
            let v' = eqb-true (register_of low q) (register_of high q) v in
            let y' = eqb-true (register_of low r) (register_of low q) y in
            let i = above r in
            let j = order r in
            let k = under r in
            let l = above q in
            let m = order q in
            let n = under q in
            clash (or_right (eqb r q) _ (both_and (both_and (eq-eqb (register_of low' r) (register_of high' r) (omega arith)) (eq-eqb (register_of low' q) (register_of high' q) (omega arith)))
            (eq-eqb (register_of low' r) (register_of low' q) (omega arith)))) (not-true _ e)
      ])

-- ---- limits that differ elsewhere

module _ (low high low' high' : State) where
  -- the limits of register r are as before
  abbrev pub Same : ℕ → Type 0
  Same r = (register_of low' r ≡ register_of low r) × (register_of high' r ≡ register_of high r)

  pub test_same : (a : Test) → ((r : ℕ) → test_registers a r ≡ true → Same r) → (b : Bool) → test_can a low' high' b ≡ test_can a low high b
  unfolding test_can
  test_same (equal r c) w true = let (l, h) = w r (eq-eqb r r refl) in rw (l, h)
  test_same (equal r c) w false = let (l, h) = w r (eq-eqb r r refl) in rw (l, h)
  test_same (below r c) w true = rw (w r (eq-eqb r r refl)).0
  test_same (below r c) w false = rw (w r (eq-eqb r r refl)).1
  test_same (equal_registers r q) w b = elim (decided (eqb r q)) [ inl same ↦ itself same b | inr apart ↦ two apart b ]
    where
      itself : eqb r q ≡ true → (b : Bool) → test_can (equal_registers r q) low' high' b ≡ test_can (equal_registers r q) low high b
      itself same true = rw same
      itself same false = rw same

      two : eqb r q ≡ false → (b : Bool) → test_can (equal_registers r q) low' high' b ≡ test_can (equal_registers r q) low high b
      two apart b =
          let (l, h) = w r (both_and (ap not apart) (or_left (eqb r r) (eqb r q) (eq-eqb r r refl))) in
          let (m, k) = w q (both_and (ap not apart) (or_right (eqb q r) (eqb q q) (eq-eqb q q refl))) in
          go l h m k b
        where
          go : register_of low' r ≡ register_of low r → register_of high' r ≡ register_of high r → register_of low' q ≡ register_of low q → register_of high' q ≡ register_of high q
              → (b : Bool) → test_can (equal_registers r q) low' high' b ≡ test_can (equal_registers r q) low high b
          go l h m k true = rw (l, h, m, k)
          go l h m k false = rw (l, h, m, k)
