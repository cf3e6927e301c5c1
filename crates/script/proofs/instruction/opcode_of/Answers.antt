-- `script::instruction::opcode_of` meets its contract: a number from 15 on is read as 15 is (`ReadLaws`). Assumes nothing.
use Prim.Native.Nat.{◌≤◌}
use Rattle.std.proofs.Common.{rules}
use Rattle.script.proofs.ReadLaws.{read_high}
use Rattle.script.proofs.instruction.opcode_of.Goals as goal

pub returns-in_default-clause-alike : goal.returns-in_default-clause-alike
returns-in_default-clause-alike c =
    let high : 15 ≤ c.args.number = search rules in
    read_high c.args.number high
