-- `rule::shared::used_twice` meets its contract: the second of question 4's two sets (`TallyLaws`). Assumes nothing.
use mathlib.Core.Path.{ap, ◌∙◌}
use Rattle.rule.proofs.TallyLaws.{used_twice}
use Rattle.rule.proofs.shared.used_twice.Goals as goal

pub returns : goal.returns
returns g c = ap (λ s. s.twice) c.tally.ensures ∙ used_twice g.W.Word.IS_WIDE (g.W.Word.numbers c.args.rule.now)
