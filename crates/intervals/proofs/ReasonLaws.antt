-- The registers that an answer depends on (`specs/Reasons.antt`).
--     reason_truth       a reason's answer is `truth_at`'s
--     settled            an answer that is known is right in every exact history in which the registers that it depends on lie within
--                        their limits
--     keeps              limits within others leave what is known, and what is open where the registers that it depends on are as before
-- Assumes nothing.
use mathlib.Core.Path.{◌≡◌, refl, sym, ap, ap₂, subst, ◌∙◌}
use mathlib.Core.Bool.{Bool, true, false, not, ◌&&◌, ◌||◌}
use Prim.Native.Nat.{ℕ, zero, suc, ◌≤◌}
use native.Mathlib.Nat.{le_refl, le_step, le_trans}
use Rattle.spec.specs.Logic.{Trace, register_of, state_at, Test, Formula, never, test, implies, since, weak_previous, passes, holds}
use Rattle.spec.specs.Monitor.{since_step}
use Rattle.spec.proofs.BoolLaws.{or_left, or_right}
use Rattle.spec.proofs.LogicLaws.{since_first, since_next, weak_first, weak_next}
use Rattle.intervals.specs.Limits.{Truth₃, false₃, true₃, open₃, known, open_if, test_can, since₃, since_at, previous_at, truth_at}
use Rattle.intervals.specs.Reasons.{Reason, always, not₃, opposite, or₃, or_depends, either, and₃, both, test_registers, implies_reason, since_reason, since_reason_at, previous_reason_at, reason_at}
use Rattle.intervals.proofs.TruthLaws.{step_first, known_true, known_false, open_known, open_only, implies_or, since_or, Narrow, or_narrow, not_narrow, narrow_known}
use Rattle.intervals.proofs.TestLaws.{Between, test_can_lem, test_is, test_narrow, test_same}

-- ---- the answer

module _ (lows highs : Trace) where
  since_truth : (φ ψ : Formula) → ((n : ℕ) → (reason_at lows highs φ n).truth ≡ truth_at lows highs φ n)
      → ((n : ℕ) → (reason_at lows highs ψ n).truth ≡ truth_at lows highs ψ n) → (n : ℕ)
      → (since_reason_at (λ i. reason_at lows highs φ i) (λ i. reason_at lows highs ψ i) n).truth ≡ since_at (λ i. truth_at lows highs φ i) (λ i. truth_at lows highs ψ i) n
  unfolding since_reason_at since_at
  since_truth φ ψ l r zero =
      (λ i. or₃ (r 0 i) (and₃ (l 0 i) false₃)) ∙ sym (since_or (truth_at lows highs φ 0) (truth_at lows highs ψ 0) false₃)
  since_truth φ ψ l r (suc n) =
      let p = since_truth φ ψ l r n in
      (λ i. or₃ (r (suc n) i) (and₃ (l (suc n) i) (p i)))
      ∙ sym (since_or (truth_at lows highs φ (suc n)) (truth_at lows highs ψ (suc n)) (since_at (λ i. truth_at lows highs φ i) (λ i. truth_at lows highs ψ i) n))

  weak_truth : (φ : Formula) → ((n : ℕ) → (reason_at lows highs φ n).truth ≡ truth_at lows highs φ n) → (n : ℕ)
      → (previous_reason_at (λ i. reason_at lows highs φ i) n).truth ≡ previous_at (λ i. truth_at lows highs φ i) n
  unfolding previous_reason_at previous_at
  weak_truth φ l zero = refl
  weak_truth φ l (suc n) = l n

  pub reason_truth : (φ : Formula) (n : ℕ) → (reason_at lows highs φ n).truth ≡ truth_at lows highs φ n
  unfolding reason_at truth_at
  reason_truth never n = refl
  reason_truth (test a) n = refl
  reason_truth (implies φ ψ) n =
      ap₂ (λ v w. or₃ (not₃ v) w) (reason_truth φ n) (reason_truth ψ n) ∙ sym (implies_or (truth_at lows highs φ n) (truth_at lows highs ψ n))
  reason_truth (since φ ψ) n = since_truth φ ψ (λ i. reason_truth φ i) (λ i. reason_truth ψ i) n
  reason_truth (weak_previous φ) n = weak_truth φ (λ i. reason_truth φ i) n

-- ---- what is known settles x, where G holds of the registers that it depends on

abbrev pub Settles : Reason → (G : ℕ → Type 0) → (x : Bool) → Type 0
Settles a G x = (b : Bool) → a.truth ≡ known b → ((r : ℕ) → a.registers r ≡ true → G r) → x ≡ b

module _ (G : ℕ → Type 0) where
  -- by the two answers
  or_settles : (v w : Truth₃) (f g : ℕ → Bool) (x y : Bool)
      → ((b : Bool) → v ≡ known b → ((r : ℕ) → f r ≡ true → G r) → x ≡ b)
      → ((b : Bool) → w ≡ known b → ((r : ℕ) → g r ≡ true → G r) → y ≡ b)
      → (b : Bool) → or₃ v w ≡ known b → ((r : ℕ) → or_depends v w (f r) (g r) ≡ true → G r) → (x || y) ≡ b
  or_settles true₃ false₃ f g x y p q b e h = ap (λ z. z || y) (p true refl h) ∙ sym (known_true b e)
  or_settles true₃ true₃ f g x y p q b e h = ap (λ z. z || y) (p true refl h) ∙ sym (known_true b e)
  or_settles true₃ open₃ f g x y p q b e h = ap (λ z. z || y) (p true refl h) ∙ sym (known_true b e)
  or_settles false₃ true₃ f g x y p q b e h = or_right x y (q true refl h) ∙ sym (known_true b e)
  or_settles open₃ true₃ f g x y p q b e h = or_right x y (q true refl h) ∙ sym (known_true b e)
  or_settles false₃ false₃ f g x y p q b e h =
      ap₂ ◌||◌ (p false refl (λ r d. h r (or_left (f r) (g r) d))) (q false refl (λ r d. h r (or_right (f r) (g r) d))) ∙ sym (known_false b e)
  or_settles false₃ open₃ f g x y p q b e h = absurd (open_known b e)
  or_settles open₃ false₃ f g x y p q b e h = absurd (open_known b e)
  or_settles open₃ open₃ f g x y p q b e h = absurd (open_known b e)

  not_settles : (v : Truth₃) (f : ℕ → Bool) (x : Bool) → ((b : Bool) → v ≡ known b → ((r : ℕ) → f r ≡ true → G r) → x ≡ b)
      → (b : Bool) → not₃ v ≡ known b → ((r : ℕ) → f r ≡ true → G r) → not x ≡ b
  not_settles false₃ f x p b e h = ap not (p false refl h) ∙ sym (known_true b e)
  not_settles true₃ f x p b e h = ap not (p true refl h) ∙ sym (known_false b e)
  not_settles open₃ f x p b e h = absurd (open_known b e)

  either_settles : (a b : Reason) (x y : Bool) → Settles a G x → Settles b G y → Settles (either a b) G (x || y)
  either_settles a b x y p q = or_settles a.truth b.truth a.registers b.registers x y p q

  opposite_settles : (a : Reason) (x : Bool) → Settles a G x → Settles (opposite a) G (not x)
  opposite_settles a x p = not_settles a.truth a.registers x p

  both_settles : (a b : Reason) (x y : Bool) → Settles a G x → Settles b G y → Settles (both a b) G (x && y)
  both_settles a b x y p q c e h =
      by_not x y
      ∙ opposite_settles (either (opposite a) (opposite b)) (not x || not y)
      (either_settles (opposite a) (opposite b) (not x) (not y) (opposite_settles a x p) (opposite_settles b y q)) c e h
    where
      by_not : (x y : Bool) → (x && y) ≡ not (not x || not y)
      by_not true true = refl
      by_not true false = refl
      by_not false y = refl

  since_settles : (l r p : Reason) (x y z : Bool) → Settles l G x → Settles r G y → Settles p G z → Settles (since_reason l r p) G (since_step x y z)
  since_settles l r p x y z i j k = either_settles r (both l p) y (x && z) j (both_settles l p x z i k)

  always_settles : (b : Bool) → Settles (always b) G b
  always_settles true c e h = sym (known_true c e)
  always_settles false c e h = sym (known_false c e)

module _ (lows highs σ : Trace) where
  -- register r lies within the limits up to index n
  abbrev pub UpTo : ℕ → ℕ → Type 0
  UpTo n r = (i : ℕ) → i ≤ n → Between (state_at lows i) (state_at highs i) (state_at σ i) r

  abbrev Right : Formula → ℕ → Type 0
  Right φ n = Settles (reason_at lows highs φ n) (UpTo n) (holds σ φ n)

  earlier : (a : Reason) (n : ℕ) (x : Bool) → Settles a (UpTo n) x → Settles a (UpTo (suc n)) x
  earlier a n x p b e h = p b e (λ r d i l. h r d i (le_step l))

  test_settles : (a : Test) (n : ℕ) → Right (test a) n
  unfolding reason_at holds
  test_settles a n b e h =
      open_only (test_can a (state_at lows n) (state_at highs n)) (passes a (state_at σ n)) b e
      (test_can_lem a (state_at lows n) (state_at highs n) (state_at σ n) (λ r d. h r d n (le_refl n)))

  since_right : (φ ψ : Formula) → ((n : ℕ) → Right φ n) → ((n : ℕ) → Right ψ n) → (n : ℕ) → Right (since φ ψ) n
  unfolding reason_at since_reason_at
  since_right φ ψ l r zero b e h =
      since_first σ φ ψ ∙ sym (step_first (holds σ φ 0) (holds σ ψ 0))
      ∙ since_settles (UpTo 0) (reason_at lows highs φ 0) (reason_at lows highs ψ 0) (always false) (holds σ φ 0) (holds σ ψ 0) false
      (l 0) (r 0) (always_settles (UpTo 0) false) b e h
  since_right φ ψ l r (suc n) b e h =
      let last = since_reason_at (λ i. reason_at lows highs φ i) (λ i. reason_at lows highs ψ i) n in
      since_next σ φ ψ n
      ∙ since_settles (UpTo (suc n)) (reason_at lows highs φ (suc n)) (reason_at lows highs ψ (suc n)) last
      (holds σ φ (suc n)) (holds σ ψ (suc n)) (holds σ (since φ ψ) n)
      (l (suc n)) (r (suc n)) (earlier last n (holds σ (since φ ψ) n) (since_right φ ψ l r n)) b e h

  weak_right : (φ : Formula) → ((n : ℕ) → Right φ n) → (n : ℕ) → Right (weak_previous φ) n
  unfolding reason_at previous_reason_at
  weak_right φ l zero b e h = weak_first σ φ ∙ always_settles (UpTo 0) true b e h
  weak_right φ l (suc n) b e h = weak_next σ φ n ∙ earlier (reason_at lows highs φ n) n (holds σ φ n) (l n) b e h

  pub settled : (φ : Formula) (n : ℕ) → Right φ n
  unfolding reason_at holds
  settled never n = always_settles (UpTo n) false
  settled (test a) n = test_settles a n
  settled (implies φ ψ) n =
      either_settles (UpTo n) (opposite (reason_at lows highs φ n)) (reason_at lows highs ψ n) (not (holds σ φ n)) (holds σ ψ n)
      (opposite_settles (UpTo n) (reason_at lows highs φ n) (holds σ φ n) (settled φ n)) (settled ψ n)
  settled (since φ ψ) n = since_right φ ψ (λ i. settled φ i) (λ i. settled ψ i) n
  settled (weak_previous φ) n = weak_right φ (λ i. settled φ i) n

-- ---- limits within others: what is open stays so, where G holds of the registers that it depends on

pub record Keeps (a : Reason) (v' : Truth₃) (G : ℕ → Type 0) : Type 0 where
  pub narrow : Narrow a.truth v'
  pub open_still : a.truth ≡ open₃ → ((r : ℕ) → a.registers r ≡ true → G r) → v' ≡ open₃

module _ (G : ℕ → Type 0) where
  or_open : (v w v' w' : Truth₃) (f g : ℕ → Bool) → Narrow v v' → Narrow w w'
      → (v ≡ open₃ → ((r : ℕ) → f r ≡ true → G r) → v' ≡ open₃) → (w ≡ open₃ → ((r : ℕ) → g r ≡ true → G r) → w' ≡ open₃)
      → or₃ v w ≡ open₃ → ((r : ℕ) → or_depends v w (f r) (g r) ≡ true → G r) → or₃ v' w' ≡ open₃
  or_open open₃ open₃ v' w' f g m n p q e h = ap₂ or₃ (p refl (λ r d. h r (or_left (f r) (g r) d))) (q refl (λ r d. h r (or_right (f r) (g r) d)))
  or_open open₃ false₃ v' w' f g m n p q e h = ap₂ or₃ (p refl h) (narrow_known false w' n)
  or_open false₃ open₃ v' w' f g m n p q e h = ap₂ or₃ (narrow_known false v' m) (q refl h)
  or_open false₃ false₃ v' w' f g m n p q e h = absurd (open_known false (sym e))
  or_open false₃ true₃ v' w' f g m n p q e h = absurd (open_known true (sym e))
  or_open open₃ true₃ v' w' f g m n p q e h = absurd (open_known true (sym e))
  or_open true₃ false₃ v' w' f g m n p q e h = absurd (open_known true (sym e))
  or_open true₃ true₃ v' w' f g m n p q e h = absurd (open_known true (sym e))
  or_open true₃ open₃ v' w' f g m n p q e h = absurd (open_known true (sym e))

  not_open : (v : Truth₃) → not₃ v ≡ open₃ → v ≡ open₃
  not_open false₃ e = absurd (open_known true (sym e))
  not_open true₃ e = absurd (open_known false (sym e))
  not_open open₃ e = refl

  either_keeps : (a b : Reason) (v' w' : Truth₃) → Keeps a v' G → Keeps b w' G → Keeps (either a b) (or₃ v' w') G
  either_keeps a b v' w' p q = record {
    narrow = or_narrow a.truth v' b.truth w' p.narrow q.narrow;
    open_still = or_open a.truth b.truth v' w' a.registers b.registers p.narrow q.narrow p.open_still q.open_still;
  }

  opposite_keeps : (a : Reason) (v' : Truth₃) → Keeps a v' G → Keeps (opposite a) (not₃ v') G
  opposite_keeps a v' p = record {
    narrow = not_narrow a.truth v' p.narrow;
    open_still = λ e h. ap not₃ (p.open_still (not_open a.truth e) h);
  }

  both_keeps : (a b : Reason) (v' w' : Truth₃) → Keeps a v' G → Keeps b w' G → Keeps (both a b) (and₃ v' w') G
  both_keeps a b v' w' p q =
      opposite_keeps (either (opposite a) (opposite b)) (or₃ (not₃ v') (not₃ w'))
      (either_keeps (opposite a) (opposite b) (not₃ v') (not₃ w') (opposite_keeps a v' p) (opposite_keeps b w' q))

  since_keeps : (l r p : Reason) (u v w : Truth₃) → Keeps l u G → Keeps r v G → Keeps p w G → Keeps (since_reason l r p) (since₃ u v w) G
  since_keeps l r p u v w i j k =
      subst (λ x. Keeps (since_reason l r p) x G) (sym (since_or u v w)) (either_keeps r (both l p) v (and₃ u w) j (both_keeps l p u w i k))

  always_keeps : (b : Bool) → Keeps (always b) (known b) G
  always_keeps b = record { narrow = λ c e. e; open_still = λ e h. e }

module _ (lows highs lows' highs' : Trace) (above : (i r : ℕ) → register_of (state_at lows i) r ≤ register_of (state_at lows' i) r)
    (order : (i r : ℕ) → register_of (state_at lows' i) r ≤ register_of (state_at highs' i) r)
    (under : (i r : ℕ) → register_of (state_at highs' i) r ≤ register_of (state_at highs i) r) where
  -- the limits of register r are as before up to index n
  abbrev pub SameUpTo : ℕ → ℕ → Type 0
  SameUpTo n r = (i : ℕ) → i ≤ n → (register_of (state_at lows' i) r ≡ register_of (state_at lows i) r) × (register_of (state_at highs' i) r ≡ register_of (state_at highs i) r)

  abbrev Kept : Formula → ℕ → Type 0
  Kept φ n = Keeps (reason_at lows highs φ n) (truth_at lows' highs' φ n) (SameUpTo n)

  later : (a : Reason) (v' : Truth₃) (n : ℕ) → Keeps a v' (SameUpTo n) → Keeps a v' (SameUpTo (suc n))
  later a v' n k = record { narrow = k.narrow; open_still = λ e h. k.open_still e (λ r d i l. h r d i (le_step l)) }

  test_keeps : (a : Test) (n : ℕ) → Kept (test a) n
  unfolding reason_at truth_at
  test_keeps a n =
      let low = state_at lows n in
      let high = state_at highs n in
      let low' = state_at lows' n in
      let high' = state_at highs' n in
      let wider : (r : ℕ) → register_of low r ≤ register_of high r = λ r. le_trans (above n r) (le_trans (order n r) (under n r)) in
      record {
        narrow = λ b e. test_is a low high wider b ∙ test_narrow low high low' high' (above n) (order n) (under n) a b (sym (test_is a low' high' (order n) b) ∙ e);
        open_still = λ e h. ap₂ open_if (same a n h true) (same a n h false) ∙ e;
      }
    where
      same : (a : Test) (n : ℕ) → ((r : ℕ) → test_registers a r ≡ true → SameUpTo n r) → (b : Bool)
          → test_can a (state_at lows' n) (state_at highs' n) b ≡ test_can a (state_at lows n) (state_at highs n) b
      same a n h b = test_same (state_at lows n) (state_at highs n) (state_at lows' n) (state_at highs' n) a (λ r d. h r d n (le_refl n)) b

  since_kept : (φ ψ : Formula) → ((n : ℕ) → Kept φ n) → ((n : ℕ) → Kept ψ n) → (n : ℕ) → Kept (since φ ψ) n
  unfolding reason_at truth_at since_reason_at since_at
  since_kept φ ψ l r zero =
      since_keeps (SameUpTo 0) (reason_at lows highs φ 0) (reason_at lows highs ψ 0) (always false) (truth_at lows' highs' φ 0) (truth_at lows' highs' ψ 0) false₃
      (l 0) (r 0) (always_keeps (SameUpTo 0) false)
  since_kept φ ψ l r (suc n) =
      let last = since_reason_at (λ i. reason_at lows highs φ i) (λ i. reason_at lows highs ψ i) n in
      let last' = since_at (λ i. truth_at lows' highs' φ i) (λ i. truth_at lows' highs' ψ i) n in
      since_keeps (SameUpTo (suc n)) (reason_at lows highs φ (suc n)) (reason_at lows highs ψ (suc n)) last
      (truth_at lows' highs' φ (suc n)) (truth_at lows' highs' ψ (suc n)) last'
      (l (suc n)) (r (suc n)) (later last last' n (since_kept φ ψ l r n))

  weak_kept : (φ : Formula) → ((n : ℕ) → Kept φ n) → (n : ℕ) → Kept (weak_previous φ) n
  unfolding reason_at truth_at previous_reason_at previous_at
  weak_kept φ l zero = always_keeps (SameUpTo 0) true
  weak_kept φ l (suc n) = later (reason_at lows highs φ n) (truth_at lows' highs' φ n) n (l n)

  pub keeps : (φ : Formula) (n : ℕ) → Kept φ n
  unfolding reason_at truth_at
  keeps never n = always_keeps (SameUpTo n) false
  keeps (test a) n = test_keeps a n
  keeps (implies φ ψ) n =
      subst (λ v. Keeps (implies_reason (reason_at lows highs φ n) (reason_at lows highs ψ n)) v (SameUpTo n)) (sym (implies_or (truth_at lows' highs' φ n) (truth_at lows' highs' ψ n)))
      (either_keeps (SameUpTo n) (opposite (reason_at lows highs φ n)) (reason_at lows highs ψ n) (not₃ (truth_at lows' highs' φ n)) (truth_at lows' highs' ψ n)
      (opposite_keeps (SameUpTo n) (reason_at lows highs φ n) (truth_at lows' highs' φ n) (keeps φ n)) (keeps ψ n))
  keeps (since φ ψ) n = since_kept φ ψ (λ i. keeps φ i) (λ i. keeps ψ i) n
  keeps (weak_previous φ) n = weak_kept φ (λ i. keeps φ i) n
