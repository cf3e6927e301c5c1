-- `script::instruction::decode` meets its contract: the fields as they are defined. Assumes nothing.
use mathlib.Core.Path.{ap}
use native.Mathlib.Omega.{arith}
use Prim.Native.Nat.{◌/◌, ◌%◌}
use Rattle.spec.specs.Script.{fields, fields_of}
use Rattle.script.proofs.instruction.decode.Goals as goal

pub returns-clause-fields : goal.returns-clause-fields
unfolding fields_of
returns-clause-fields c = let w = c.args.word in ap (λ o. fields o (w / 16777216 % 16) (w / 1024 % 16384) (w % 1024)) (c.opcode_of.ensures.known (omega arith))
