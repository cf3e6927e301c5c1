-- `rule::shared::work_at` meets its contract: a node with a work bit is past or used twice (`MentionLaws`). Assumes nothing.
use mathlib.Core.Path.{◌≡◌, sym, ap, ◌∙◌}
use mathlib.Core.Bool.{false, ◌||◌}
use Rattle.rule.specs.Nodes.{table_by}
use lib.Dec.{leb}
use Rattle.spec.specs.Rule.{node_at, is_past, mentions}
use Rattle.spec.proofs.MentionLaws.{past_has_work, work_is_lem}
use Rattle.rule.proofs.shared.work_at.Goals as goal

pub returns-then-past_at : goal.returns-then-past_at
returns-then-past_at g c =
    sym (past_has_work (table_by g.W.Word.IS_WIDE (g.W.Word.numbers c.args.rule.now)) c.args.k (sym c.past_at.ensures ∙ c.if-past_at.true))

pub returns-else-past_at : goal.returns-else-past_at
returns-else-past_at g c =
    let k = c.args.k in
    let t = table_by g.W.Word.IS_WIDE (g.W.Word.numbers c.args.rule.now) in
    let p : is_past (node_at t k) ≡ false = sym c.past_at.ensures ∙ c.if-past_at.false in
    c.has.ensures ∙ ap (λ s. s k) c.used_twice.ensures
    ∙ sym (work_is_lem t k ∙ ap (λ b. b || leb 2 (mentions t k)) p)
