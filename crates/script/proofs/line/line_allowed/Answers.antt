-- `script::line::line_allowed` meets its contract: all but the node in c, and that (`LineLaws`). Assumes nothing.
use mathlib.Core.Path.{◌≡◌, subst, ap, ◌∙◌}
use mathlib.Core.Bool.{true, ◌&&◌}
use Prim.Native.Nat.{◌%◌, ◌^◌}
use lib.Dec.{eqb}
use Rattle.spec.specs.Script.{Fields, fields_of, instruction_of, stored_fit, names_allowed}
use Rattle.moves.specs.Moves.{narrow_word}
use Rattle.script.specs.Lines.{opcodes_of, register_named, first_fits, first_allowed}
use Rattle.script.proofs.LineLaws.{allowed_by}
use Rattle.script.proofs.line.line_allowed.Goals as goal

pub returns : goal.returns
unfolding first_fits first_allowed
returns c = λ t k.
    let w = c.args.first in
    let op = opcodes_of c.args.opcodes in
    let f = fields_of (narrow_word w) in
    let same = c.decode.ensures.fields ∙ ap fields_of c.upper_half.ensures in
    ap (λ b. b && c.node_allowed.result) c.first_fits.ensures
    ∙ allowed_by (op f.opcode) (stored_fit f) (eqb (w % 2 ^ 32) 0) (register_named f) _ _
    (subst (λ (g : Fields). op g.opcode ≡ true → names_allowed t (instruction_of g) ≡ (register_named g && c.node_allowed.result)) same (c.node_allowed.ensures t c.args.opcodes k))
