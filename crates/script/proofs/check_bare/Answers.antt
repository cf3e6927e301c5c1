-- `script::check_bare` meets its contract: the rule's questions, then those of the code (`StrideLaws.bare_is`). Assumes nothing.
use mathlib.Core.Path.{sym, ap, ◌∙◌}
use Rattle.spec.specs.Rule.{table_of}
use Rattle.spec.specs.Script.{bare_opcode, check_code, check_bare}
use Rattle.spec.proofs.QuestionLaws.{then_passed, then_refused}
use Rattle.rule.specs.Nodes.{form_by}
use Rattle.rule.proofs.AnswerLaws.{handed_on}
use Rattle.script.proofs.StrideLaws.{bare_is}
use Rattle.script.proofs.check_bare.Goals as goal

pub returns-in_err-check_rule : goal.returns-in_err-check_rule
unfolding check_bare
returns-in_err-check_rule g c =
    handed_on (λ u. tt) c.from_residual.result c.in_err-check_rule.field-0.0 c.from_residual.ensures.1
    ∙ sym (then_refused _ _ _ _ (sym c.in_err-check_rule.ensures))

pub returns : goal.returns
unfolding check_bare
returns g c =
    let t = table_of (form_by g.W.Word.IS_WIDE) (g.W.Word.numbers c.args.rule.now) in
    c.check_code.ensures t tt ∙ ap (check_code t bare_opcode) (bare_is c.args.bare.now) ∙ sym (then_passed _ _ (sym c.in_ok-check_rule.ensures))
