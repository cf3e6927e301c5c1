-- `limits::question::ask_order` meets its contract (`QuestionLaws`). Assumes nothing.
use mathlib.Core.Path.{sym, ◌∙◌}
use Rattle.limits.proofs.QuestionLaws.{order_yes, none_above, one_above}
use Rattle.limits.proofs.question.ask_order.Goals as goal

pub returns-then-all_ordered : goal.returns-then-all_ordered
returns-then-all_ordered c = let a = c.args in order_yes a.lows.now a.highs.now (sym c.all_ordered.ensures ∙ c.if-all_ordered.true)

pub returns-in-None : goal.returns-in-None
returns-in-None c = none_above c.args.lows.now c.args.highs.now c.in-None.ensures

pub returns-in-Some : goal.returns-in-Some
returns-in-Some c = one_above c.args.lows.now c.args.highs.now c.in-Some.place c.in-Some.ensures
