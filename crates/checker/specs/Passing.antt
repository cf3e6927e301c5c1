-- Which instructions leave closed facts closed.
use Rattle.std.specs.Prelude.{Bool, true, false}
use Rattle.spec.specs.Script.{Instruction, halt, write, branch, goto, present, set_work, keep}

-- does an instruction leave T, F, A and B as they are? 7 keeps all facts, 9 and 12 change W, C and M
abbrev pub keeps_values : Instruction → Bool
keeps_values halt = false
keeps_values (write r v) = false
keeps_values (branch q l) = false
keeps_values (goto l) = true
keeps_values present = false
keeps_values (set_work k b) = true
keeps_values (keep k) = true
