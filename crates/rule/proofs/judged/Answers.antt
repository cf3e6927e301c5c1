-- `rule::judged` meets its contract: a breach lies in the history, so the part is there. Assumes nothing.
use mathlib.Core.Path.{ap, ◌∙◌}
use native.Mathlib.Omega.{arith}
use Rattle.spec.specs.Questions.{passed}
use Rattle.rule.specs.Answers.{told_of, verdict_of}
use Rattle.rule.proofs.judged.Goals as goal

pub overflow_mul-at : goal.overflow_mul-at
overflow_mul-at c =
    let a = c.args in
    let b = c.requires c.in-Breach.index (ap verdict_of c.in-Ok.is ∙ ap (λ t. passed (told_of t)) c.in-Breach.is) in
    omega arith

pub overflow_add-end : goal.overflow_add-end
overflow_add-end c =
    let a = c.args in
    let b = c.requires c.in-Breach.index (ap verdict_of c.in-Ok.is ∙ ap (λ t. passed (told_of t)) c.in-Breach.is) in
    omega arith

pub offset_bounds-history-at : goal.offset_bounds-history-at
offset_bounds-history-at c =
    let a = c.args in
    let b = c.requires c.in-Breach.index (ap verdict_of c.in-Ok.is ∙ ap (λ t. passed (told_of t)) c.in-Breach.is) in
    omega (arith, c.well_formed)

pub slice_bounds-result-end : goal.slice_bounds-result-end
slice_bounds-result-end c =
    let a = c.args in
    let b = c.requires c.in-Breach.index (ap verdict_of c.in-Ok.is ∙ ap (λ t. passed (told_of t)) c.in-Breach.is) in
    omega arith
