-- `script::instruction::encode` meets its contract: the word as it is defined, with the opcode's number (`LineLaws`). Assumes nothing.
use mathlib.Core.Path.{ap}
use Rattle.spec.specs.Script.{fields, word_of}
use Rattle.script.proofs.LineLaws.{tag_is}
use Rattle.script.proofs.instruction.encode.Goals as goal

pub returns : goal.returns
unfolding word_of
returns c = let a = c.args in ap (λ o. word_of (fields o a.r a.c a.target)) (tag_is a.opcode)
