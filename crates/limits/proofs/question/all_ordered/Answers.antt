-- `limits::question::all_ordered` meets its contract (`QuestionLaws`). Assumes nothing.
use mathlib.Core.Bool.{true, ◌&&◌}
use Prim.Native.Nat.{ℕ}
use lib.Dec.{leb}
use Rattle.std.proofs.Common.{rules, tests}
use Rattle.std.proofs.lemmas.Iterator.{YieldsList-from_slice, YieldsList-from_zip}
use Rattle.std.proofs.lemmas.Iterator.Consumers.{fold_from_yields_List}
use Rattle.limits.proofs.QuestionLaws.{all_are}
use Rattle.limits.proofs.question.all_ordered.Goals as goal

pub returns : goal.returns
returns c = let a = c.args in
    all_are a.lows.now a.highs.now c.requires c.fold.result (
    fold_from_yields_List _ (λ b (p : ℕ × ℕ). b && leb p.0 p.1) true _ c.fold.ensures.ran
    (YieldsList-from_zip (YieldsList-from_slice a.lows.now cc) (YieldsList-from_slice a.highs.now cc))
    (λ b x d q k. search (rules, tests))
    )
