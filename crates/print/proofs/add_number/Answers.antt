-- `print::add_number` meets its contract: the digits, and a byte after them (`DecimalLaws`). Assumes nothing.
use borrow.Author.Rules.{rules}
use native.Mathlib.Omega.{arith}
use Rattle.print.specs.Decimal.{decimal}
use Rattle.print.proofs.AddedLaws.{added_byte}
use Rattle.print.proofs.DecimalLaws.{digits_room, end_room}
use Rattle.print.proofs.add_number.Goals as goal

pub add_decimal-k-requires : goal.add_decimal-k-requires
add_decimal-k-requires c =
    let room = digits_room c.args.n c.args.end c.args.at c.args.out.now c.requires in
    omega arith

pub bounds-out-k : goal.bounds-out-k
bounds-out-k c =
    end_room c.args.n c.args.end c.args.at c.args.out.now c.requires
    c.add_decimal-k.result c.add_decimal-k.new.out c.add_decimal-k.auto.out c.add_decimal-k.ensures

pub overflow_add-result : goal.overflow_add-result
overflow_add-result c =
    let room = end_room c.args.n c.args.end c.args.at c.args.out.now c.requires
    c.add_decimal-k.result c.add_decimal-k.new.out c.add_decimal-k.auto.out c.add_decimal-k.ensures in
    search rules

pub returns : goal.returns
returns c =
    let room = digits_room c.args.n c.args.end c.args.at c.args.out.now c.requires in
    added_byte (decimal c.args.n) c.args.at c.add_decimal-k.result c.args.end c.args.out.now
    c.add_decimal-k.new.out room c.add_decimal-k.ensures
