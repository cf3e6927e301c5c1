-- `report::expected::is_begun` meets its contract. Assumes nothing.
use mathlib.Core.Path.{sym, ◌∙◌}
use Rattle.report.proofs.BegunLaws.{begun_all, begun_other, begun_is}
use Rattle.report.proofs.expected.is_begun.Goals as goal

pub returns-then-bytes-typed : goal.returns-then-bytes-typed
returns-then-bytes-typed c =
    begun_all c.args.text.now c.args.start c.args.typed c.args.bytes.now c.if-bytes-typed.true

pub returns-then-matching-typed : goal.returns-then-matching-typed
returns-then-matching-typed c =
    begun_other c.args.text.now c.args.start c.args.typed c.args.bytes.now c.if-bytes-typed.false
    (λ z. c.if-matching-typed.true (c.matching.ensures ∙ z))

pub returns : goal.returns
returns c =
    begun_is c.args.text.now c.args.start c.args.typed c.args.bytes.now c.if-bytes-typed.false
    (sym c.matching.ensures ∙ c.if-matching-typed.false) c.may_stand.result c.may_stand.ensures
