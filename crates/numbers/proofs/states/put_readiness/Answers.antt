-- `numbers::states::put_readiness` meets its contract. Assumes nothing.
use mathlib.Core.Path.{◌≡◌, refl, sym, ap, ◌∙◌}
use mathlib.Core.Bool.{Bool, true, false, cond}
use mathlib.Core.List.{List, [], ◌∷◌, ◌++◌}
use Prim.Native.Nat.{ℕ}
use native.Mathlib.Omega.{arith}
use lib.ListN.{take, drop}
use lib.Seq.{sets, sets-eq}
use mir.Val.{bool_byte}
use Rattle.numbers.proofs.StateLaws.{ready_words}
use Rattle.numbers.proofs.states.put_readiness.Goals as goal

-- a truth value as a number
bit : (b : Bool) → bool_byte b ≡ cond b 1 0
bit true = refl
bit false = refl

pub returns : goal.returns
returns c =
    let a = c.args in
    let s = a.state.now in
    let x = a.x in
    ap (λ (b : ℕ). sets s 21 (b ∷ x.priors ∷ x.next ∷ x.tested ∷ [])) (bit x.ready)
    ∙ sets-eq (cond x.ready 1 0 ∷ x.priors ∷ x.next ∷ x.tested ∷ []) s 21 (omega arith)
    ∙ ap (λ (l : List ℕ). take 21 s ++ l ++ drop 25 s) (sym (ready_words x (omega arith) (omega arith) (omega arith)))
