-- `picture::lines::add_register` meets its contract (`LineLaws`). Assumes nothing.
use mathlib.Core.Path.{sym, ◌∙◌}
use native.Mathlib.Omega.{arith}
use Rattle.sets.specs.Sets.{set_of}
use Rattle.print.proofs.DecimalLaws.{decimal_short}
use Rattle.print.proofs.AddedLaws.{filled_as, filled_is, filled_then, filled_room}
use Rattle.picture.proofs.LineLaws.{register_there}
use Rattle.picture.proofs.lines.add_register.Goals as goal

pub add_decimal-requires : goal.add_decimal-requires
add_decimal-requires c = let a = c.args in let p = c.requires in let small = p.0 in let room = p.1 in let d = decimal_short 1 a.r (omega arith) in let f = filled_as 2 (omega arith) c.add_bytes-end.ensures in let g = filled_room 2 (omega arith) f in omega arith

pub returns-then-has : goal.returns-then-has
returns-then-has c = let a = c.args in let p = c.requires in let small = p.0 in let room = p.1 in filled_is (register_there (set_of a.on) a.r (sym c.has.ensures ∙ c.if-has.true)) (filled_then (omega arith) (filled_as 2 (omega arith) c.add_bytes-end.ensures) (filled_as 2 (decimal_short 1 a.r (omega arith)) c.add_decimal.ensures))
