-- `picture::put_file` meets its contract (`PictureLaws`). Assumes nothing.
use mathlib.Core.Path.{sym, ap, ◌∙◌}
use Rattle.rule.specs.Answers.{answer_of}
use Rattle.print.specs.Decimal.{refused_text}
use Rattle.print.proofs.AddedLaws.{added_as}
use Rattle.picture.proofs.PictureLaws.{file_no, file_few, file_judged}
use Rattle.picture.proofs.put_file.Goals as goal

pub returns-in-Err : goal.returns-in-Err
returns-in-Err c = let a = c.args in
    let refusal = c.in-Err.refusal in
    added_as _ _ 0 _ _ _
    (ap (λ q. refused_text q refusal.place) c.from.ensures
    ∙ file_no a.rule.now a.bytes.now a.at _ _ (sym c.check_rule.ensures ∙ ap answer_of c.in-Err.is))
    c.add_refused.ensures.added

pub returns-then-not-is_whole : goal.returns-then-not-is_whole
returns-then-not-is_whole c = let a = c.args in added_as _ _ 0 _ _ _ (file_few a.rule.now a.bytes.now a.at (sym c.check_rule.ensures ∙ ap answer_of c.in_default.is) (sym c.is_whole.ensures ∙ c.if-not-is_whole.true)) c.add_bytes.ensures

pub returns : goal.returns
returns c = let a = c.args in added_as _ _ 0 _ _ _ (file_judged a.rule.now a.bytes.now a.at (sym c.check_rule.ensures ∙ ap answer_of c.in_default.is) (sym c.is_whole.ensures ∙ c.if-not-is_whole.false)) c.put_indices.ensures
