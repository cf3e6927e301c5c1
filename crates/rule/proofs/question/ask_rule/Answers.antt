-- `rule::question::ask_rule` meets its contract: each return is one of the laws of `CheckLaws`. Assumes nothing.
use mathlib.Core.Path.{sym, ap, ap₂, ◌∙◌}
use mathlib.Core.Bool.{◌||◌}
use lib.Dec.{eqb, ltb}
use Prim.Native.Nat.{◌-◌}
use Rattle.spec.specs.Questions.{ask}
use Rattle.rule.specs.Nodes.{form_by}
use Rattle.rule.specs.Tally.{tallies_of}
use Rattle.rule.proofs.AnswerLaws.{handed_on}
use Rattle.rule.proofs.CheckLaws.{many_wrong, many_right, fields_no, operands_no, last_yes}
use Rattle.rule.proofs.EachLaws.{length_each}
use Rattle.rule.proofs.TallyLaws.{ask_tallied}
use Rattle.rule.proofs.question.ask_rule.Goals as goal

pub returns-then-count-most_nodes : goal.returns-then-count-most_nodes
returns-then-count-most_nodes g c =
    let there = length_each g.met.W.Word.each c.args.rule.now in
    many_wrong (form_by g.W.Word.IS_WIDE) (g.W.Word.numbers c.args.rule.now)
    (ap₂ (λ m n. eqb n 0 || ltb m n) (sym c.most_nodes.ensures) there ∙ c.if-count-most_nodes.true)

pub returns-in_err-ask_fields : goal.returns-in_err-ask_fields
returns-in_err-ask_fields g c =
    let there = length_each g.met.W.Word.each c.args.rule.now in
    let right = many_right (form_by g.W.Word.IS_WIDE) (g.W.Word.numbers c.args.rule.now)
    (ap₂ (λ m n. eqb n 0 || ltb m n) (sym c.most_nodes.ensures) there ∙ c.if-count-most_nodes.false) in
    fields_no (form_by g.W.Word.IS_WIDE) (g.W.Word.numbers c.args.rule.now) right.0 right.1 _ _ _
    (handed_on (λ u. tt) c.from_residual.result c.in_err-ask_fields.field-0.0 c.from_residual.ensures.1)
    (handed_on (λ u. tt) c.from_residual.result c.in_err-ask_fields.field-0.0 c.from_residual.ensures.1 ∙ c.in_err-ask_fields.ensures)

pub returns-in_err-uses : goal.returns-in_err-uses
returns-in_err-uses g c =
    let there = length_each g.met.W.Word.each c.args.rule.now in
    let right = many_right (form_by g.W.Word.IS_WIDE) (g.W.Word.numbers c.args.rule.now)
    (ap₂ (λ m n. eqb n 0 || ltb m n) (sym c.most_nodes.ensures) there ∙ c.if-count-most_nodes.false) in
    let no = handed_on (λ u. tt) c.from_residual-in_err-uses.result c.in_err-uses.field-0.0 c.from_residual-in_err-uses.ensures.1 in
    operands_no (form_by g.W.Word.IS_WIDE) (g.W.Word.numbers c.args.rule.now) right.0 right.1 (sym c.in_ok-ask_fields.ensures) _ _ _
    no (no ∙ sym c.in_err-uses.ensures)

pub returns : goal.returns
returns g c =
    let there = length_each g.met.W.Word.each c.args.rule.now in
    let right = many_right (form_by g.W.Word.IS_WIDE) (g.W.Word.numbers c.args.rule.now)
    (ap₂ (λ m n. eqb n 0 || ltb m n) (sym c.most_nodes.ensures) there ∙ c.if-count-most_nodes.false) in
    last_yes (form_by g.W.Word.IS_WIDE) (g.W.Word.numbers c.args.rule.now) right.0 right.1 (sym c.in_ok-ask_fields.ensures) c.in_ok-uses.ensures.0 _
    (c.first_unused.ensures ∙ ap (λ k. ask 4 (k - 1) (tallies_of c.in_ok-uses.uses).once) (sym there)
    ∙ ask_tallied g.W.Word.IS_WIDE (g.W.Word.numbers c.args.rule.now) _ c.in_ok-uses.ensures.1)
