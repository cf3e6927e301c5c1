-- `finder::known::known_at` meets its contract: the largest facts are closed (`FoundLaws.known_yes`). Assumes nothing.
use Rattle.spec.specs.Script.{is_present, instruction_of, instruction_read}
use mathlib.Core.Path.{ap, ◌∙◌}
use mathlib.Core.Bool.{true}
use Prim.Native.Nat.{◌-◌}
use lib.ListN.{length}
use Rattle.spec.specs.Facts.{value_is, Facts}
use Rattle.finder.proofs.SearchLaws.{some_node}
use Rattle.finder.proofs.FoundLaws.{known_yes, known_no}
use Rattle.finder.proofs.known.known_at.Goals as goal

pub overflow_sub-rule : goal.overflow_sub-rule
overflow_sub-rule c = let p = c.requires in some_node _ _ p.0

pub returns-then-is_present : goal.returns-then-is_present
unfolding instruction_read
returns-then-is_present c =
    let p = c.requires in
    let a = c.args in
    known_yes a.rule.now a.code.now a.notes.now p.0 p.1 a.l p.3 _ _ (c.is_present.ensures ∙ ap (λ f. is_present (instruction_of f)) c.decode.ensures.fields)
    c.if-is_present.true
    (c.has.ensures ∙ ap (λ (F : Facts). F (value_is true) (length a.rule.now - 1)) c.load-x.ensures)

pub returns-else-is_present : goal.returns-else-is_present
unfolding instruction_read
returns-else-is_present c =
    let p = c.requires in
    let a = c.args in
    known_no a.rule.now a.code.now a.notes.now p.0 p.1 a.l p.3 _ (c.is_present.ensures ∙ ap (λ f. is_present (instruction_of f)) c.decode.ensures.fields) c.if-is_present.false
