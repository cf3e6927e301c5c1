-- `rule::judge` meets its contract: a breach lies in the history (`VerdictLaws`). Assumes nothing.
use mathlib.Core.Path.{sym, ◌∙◌}
use Rattle.rule.proofs.VerdictLaws.{breach_inside}
use Rattle.rule.proofs.judge.Goals as goal

pub judged-requires : goal.judged-requires
judged-requires g c = λ i e. breach_inside _ (g.W.Word.numbers c.args.rule.now) c.args.history.now i (sym c.verdict.ensures.answer ∙ e)
