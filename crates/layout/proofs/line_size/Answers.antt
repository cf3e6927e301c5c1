-- `layout::line_size` meets its contract. Assumes nothing.
use Rattle.spec.specs.Script.{is_present, instruction_of, instruction_read}
use mathlib.Core.Path.{sym, ap, ◌∙◌}
use mathlib.Core.Bool.{cond}
use Rattle.layout.proofs.line_size.Goals as goal

pub returns-then-is_present : goal.returns-then-is_present
unfolding instruction_read
returns-then-is_present c = let e = ap (λ f. is_present (instruction_of f)) (sym c.decode.ensures.fields) ∙ sym c.is_present.ensures ∙ c.if-is_present.true in sym (ap (λ b. cond b c.args.size 1) e)

pub returns-else-is_present : goal.returns-else-is_present
unfolding instruction_read
returns-else-is_present c = let e = ap (λ f. is_present (instruction_of f)) (sym c.decode.ensures.fields) ∙ sym c.is_present.ensures ∙ c.if-is_present.false in sym (ap (λ b. cond b c.args.size 1) e)
