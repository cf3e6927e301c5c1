-- `render::text::add_line` meets its contract: five numbers, one after another, of at most five digits each (`DecimalLaws`). Assumes nothing.
use mathlib.Core.Path.{subst}
use mathlib.Core.List.{◌++◌}
use native.Mathlib.Omega.{arith}
use denote.Enum.Declared.{tag_of}
use Rattle.spec.specs.Script.{Fields}
use Rattle.script.specs.contracts.instruction.Opcode.{the_type}
use Rattle.script.proofs.LineLaws.{tag_is}
use Rattle.print.specs.Decimal.{number}
use Rattle.print.specs.Written.{Added}
use Rattle.print.proofs.AddedLaws.{filled_then, filled_room}
use Rattle.print.proofs.DecimalLaws.{number_filled, number_room}
use Rattle.render.specs.Text.{line_text}
use Rattle.render.proofs.text.add_line.Goals as goal

pub add_number-opcode_at-requires : goal.add_number-opcode_at-requires
add_number-opcode_at-requires c =
    let a = c.args in
    let small = c.requires.0 in
    let room = c.requires.1 in
    number_room 4 a.l 32 a.at a.out.now (omega arith) (omega arith)

pub add_number-r_at-requires : goal.add_number-r_at-requires
add_number-r_at-requires c =
    let a = c.args in
    let x = c.decode-x.result in
    let h = c.decode-x.ensures.small in
    let small = c.requires.0 in
    let room = c.requires.1 in
    let f1 = number_filled 4 a.l 32 (omega arith) c.add_number-opcode_at.ensures in
    number_room 4 (tag_of the_type x.opcode) 32 c.add_number-opcode_at.result c.add_number-opcode_at.new.out (omega (arith, tag_is x.opcode)) (filled_room 6 (omega arith) f1)

pub add_number-c_at-requires : goal.add_number-c_at-requires
add_number-c_at-requires c =
    let a = c.args in
    let x = c.decode-x.result in
    let h = c.decode-x.ensures.small in
    let small = c.requires.0 in
    let room = c.requires.1 in
    let f1 = number_filled 4 a.l 32 (omega arith) c.add_number-opcode_at.ensures in
    let f2 = filled_then (omega arith) f1 (number_filled 4 (tag_of the_type x.opcode) 32 (omega (arith, tag_is x.opcode)) c.add_number-r_at.ensures) in
    number_room 4 x.r 32 c.add_number-r_at.result c.add_number-r_at.new.out (omega arith) (filled_room 6 (omega arith) f2)

pub add_number-target_at-requires : goal.add_number-target_at-requires
add_number-target_at-requires c =
    let a = c.args in
    let x = c.decode-x.result in
    let h = c.decode-x.ensures.small in
    let small = c.requires.0 in
    let room = c.requires.1 in
    let f1 = number_filled 4 a.l 32 (omega arith) c.add_number-opcode_at.ensures in
    let f2 = filled_then (omega arith) f1 (number_filled 4 (tag_of the_type x.opcode) 32 (omega (arith, tag_is x.opcode)) c.add_number-r_at.ensures) in
    let f3 = filled_then (omega arith) f2 (number_filled 4 x.r 32 (omega arith) c.add_number-c_at.ensures) in
    number_room 4 x.c 32 c.add_number-c_at.result c.add_number-c_at.new.out (omega arith) (filled_room 6 (omega arith) f3)

pub add_number-requires : goal.add_number-requires
add_number-requires c =
    let a = c.args in
    let x = c.decode-x.result in
    let h = c.decode-x.ensures.small in
    let small = c.requires.0 in
    let room = c.requires.1 in
    let f1 = number_filled 4 a.l 32 (omega arith) c.add_number-opcode_at.ensures in
    let f2 = filled_then (omega arith) f1 (number_filled 4 (tag_of the_type x.opcode) 32 (omega (arith, tag_is x.opcode)) c.add_number-r_at.ensures) in
    let f3 = filled_then (omega arith) f2 (number_filled 4 x.r 32 (omega arith) c.add_number-c_at.ensures) in
    let f4 = filled_then (omega arith) f3 (number_filled 4 x.c 32 (omega arith) c.add_number-target_at.ensures) in
    number_room 4 x.target 10 c.add_number-target_at.result c.add_number-target_at.new.out (omega arith) (filled_room 6 (omega arith) f4)

pub returns : goal.returns
unfolding line_text
returns c =
    let a = c.args in
    let x = c.decode-x.result in
    let h = c.decode-x.ensures.small in
    let small = c.requires.0 in
    let room = c.requires.1 in
    let f1 = number_filled 4 a.l 32 (omega arith) c.add_number-opcode_at.ensures in
    let f2 = filled_then (omega arith) f1 (number_filled 4 (tag_of the_type x.opcode) 32 (omega (arith, tag_is x.opcode)) c.add_number-r_at.ensures) in
    let f3 = filled_then (omega arith) f2 (number_filled 4 x.r 32 (omega arith) c.add_number-c_at.ensures) in
    let f4 = filled_then (omega arith) f3 (number_filled 4 x.c 32 (omega arith) c.add_number-target_at.ensures) in
    let f5 = filled_then (omega arith) f4 (number_filled 4 x.target 10 (omega arith) c.add_number.ensures) in
    subst (λ (f : Fields). Added (number a.l 32 ++ number f.opcode 32 ++ number f.r 32 ++ number f.c 32 ++ number f.target 10) a.at c.add_number.result a.out.now c.add_number.new.out)
    c.decode-x.ensures.fields
    (subst (λ o. Added (number a.l 32 ++ number o 32 ++ number x.r 32 ++ number x.c 32 ++ number x.target 10) a.at c.add_number.result a.out.now c.add_number.new.out) (tag_is x.opcode) f5.added)
