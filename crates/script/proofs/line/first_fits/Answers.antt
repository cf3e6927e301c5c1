-- `script::line::first_fits` meets its contract: the parts of question 6 in turn. Assumes nothing.
use mathlib.Core.Path.{ap, ap₂, ◌∙◌}
use mathlib.Core.Bool.{◌&&◌}
use Prim.Native.Nat.{◌%◌, ◌^◌}
use lib.Dec.{eqb}
use Rattle.spec.specs.Script.{fields_of, stored_fit}
use Rattle.script.specs.Lines.{opcodes_of, register_named, first_fits}
use Rattle.script.proofs.line.first_fits.Goals as goal

pub returns : goal.returns
unfolding first_fits
returns c =
    let w = c.args.first in
    let op = opcodes_of c.args.opcodes in
    ap₂ (λ x y. x && y) (ap (λ x. x && eqb (w % 2 ^ 32) 0) (ap₂ (λ x y. x && y) c.opcode_allowed.ensures c.unused_zero.ensures)) c.register_named.ensures
    ∙ ap (λ f. op f.opcode && stored_fit f && eqb (w % 2 ^ 32) 0 && register_named f) (c.decode-x.ensures.fields ∙ ap fields_of c.upper_half.ensures)
