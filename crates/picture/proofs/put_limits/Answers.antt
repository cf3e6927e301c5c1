-- `picture::put_limits` meets its contract (`PictureLaws`). Assumes nothing.
use mathlib.Core.Path.{sym, ap, ◌∙◌}
use native.Mathlib.Omega.{arith}
use lib.Seq.{length-take-le}
use Rattle.rule.specs.Answers.{counted_of}
use Rattle.spec.specs.Rule.{form32}
use Rattle.print.specs.Decimal.{refused_text}
use Rattle.print.proofs.AddedLaws.{added_as}
use Rattle.picture.proofs.PictureLaws.{limits_no, limits_yes, sets_asked, count_is}
use Rattle.picture.proofs.put_limits.Goals as goal

pub put_registers-requires : goal.put_registers-requires
put_registers-requires c =
    let a = c.args in
    let few = c.requires.0 in
    sets_asked form32 a.rule.now a.lows.now a.highs.now _ (omega arith) _ (sym (ap counted_of c.in-Ok.is) ∙ c.judge.ensures.answer) _ (omega arith)

pub slice_bounds-answers-end : goal.slice_bounds-answers-end
slice_bounds-answers-end c =
    let a = c.args in
    let few = c.requires.0 in
    let count = count_is form32 a.rule.now a.lows.now a.highs.now _ (omega arith) _ (sym (ap counted_of c.in-Ok.is) ∙ c.judge.ensures.answer) in
    omega arith

pub slice_bounds-put_lines-end : goal.slice_bounds-put_lines-end
slice_bounds-put_lines-end c =
    let a = c.args in
    let few = c.requires.0 in
    let count = count_is form32 a.rule.now a.lows.now a.highs.now _ (omega arith) _ (sym (ap counted_of c.in-Ok.is) ∙ c.judge.ensures.answer) in
    sym (length-take-le c.in-Ok.n c.judge.new.out (omega arith))

pub returns-in-Err : goal.returns-in-Err
returns-in-Err c =
    let a = c.args in
    let few = c.requires.0 in
    let refusal = c.in-Err.refusal in
    added_as _ _ 0 _ _ _
    (ap (λ q. refused_text q refusal.place) c.from.ensures
    ∙ limits_no form32 a.rule.now a.lows.now a.highs.now _ (omega arith) _ _ (sym (ap counted_of c.in-Err.is) ∙ c.judge.ensures.answer))
    c.add_refused.ensures.added

pub returns-in-Ok : goal.returns-in-Ok
returns-in-Ok c =
    let a = c.args in
    let few = c.requires.0 in
    let asked = sym (ap counted_of c.in-Ok.is) ∙ c.judge.ensures.answer in
    let count = count_is form32 a.rule.now a.lows.now a.highs.now _ (omega arith) _ asked in
    added_as _ _ 0 _ _ _
    (limits_yes form32 a.rule.now a.lows.now a.highs.now _ (omega arith) _ asked _ c.judge.ensures.output (omega arith) _ _ c.put_registers.ensures)
    c.put_lines.ensures
