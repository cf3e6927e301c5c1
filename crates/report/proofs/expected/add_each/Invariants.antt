-- `report::expected::add_each` meets its contract: those before this one, one after another. Assumes nothing.
use mathlib.Core.List.{map}
use Prim.Native.Nat.{◌*◌}
use Rattle.print.specs.Written.{Filled}
use Rattle.report.specs.Compiled.{candidate_of, each_text}
use Rattle.report.proofs.expected.add_each.Given as goal

abbrev pub invariant-loop-bytes : goal.invariant-loop-bytes
invariant-loop-bytes l = Filled (9 * l.bytes-index) (each_text l.text l.start l.typed (map candidate_of l.tried) l.bytes-index) l.at l.end l.initial.out l.out
