-- `finder::lines::count_facts` meets its contract: seven counts of at most 64. Assumes nothing.
use native.Mathlib.Omega.{arith}
use Rattle.largest.specs.Largest.{facts_in}
use Rattle.finder.proofs.lines.count_facts.Goals as goal

pub returns : goal.returns
unfolding facts_in
returns c =
    let n₁ = c.count.ensures in
    let n₂ = c.count-2.ensures in
    let n₃ = c.count-3.ensures in
    let n₄ = c.count-4.ensures in
    let n₅ = c.count-5.ensures in
    let n₆ = c.count-6.ensures in
    let n₇ = c.count-7.ensures in
    (omega (arith, n₁.0, n₂.0, n₃.0, n₄.0, n₅.0, n₆.0, n₇.0), omega (arith, n₁.1, n₂.1, n₃.1, n₄.1, n₅.1, n₆.1, n₇.1))
