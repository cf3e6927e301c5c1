-- `print::add_decimal` meets its contract: by recursion into the tenth, the number itself the measure (`DecimalLaws`). Assumes nothing.
use native.Mathlib.Omega.{arith}
use borrow.Author.Rules.{rules}
use Rattle.print.proofs.DecimalLaws.{decimal_some, one_digit, tenth, last_room, last_digit}
use Rattle.print.proofs.+add_decimal.Goals as goal

pub bounds-out-at : goal.bounds-out-at
bounds-out-at t c = omega (arith, decimal_some c.args.n)

pub overflow_add-result : goal.overflow_add-result
overflow_add-result t c = let some = decimal_some c.args.n in search rules

pub returns-then-n-lt10 : goal.returns-then-n-lt10
returns-then-n-lt10 t c =
    one_digit c.args.n c.args.at c.digit_of.result c.args.out.now (omega arith) c.requires
    c.digit_of.ensures

pub add_decimal-k-requires : goal.add_decimal-k-requires
add_decimal-k-requires t c =
    tenth c.args.n c.args.at c.args.out.now c.if-n-lt10.false c.requires t c.decreases

pub bounds-out-k : goal.bounds-out-k
bounds-out-k t c =
    last_room c.args.n c.args.at c.args.out.now c.if-n-lt10.false c.requires
    c.add_decimal-k.result c.add_decimal-k.new.out c.add_decimal-k.auto.out c.add_decimal-k.ensures

pub overflow_add-result-2 : goal.overflow_add-result-2
overflow_add-result-2 t c =
    let room = last_room c.args.n c.args.at c.args.out.now c.if-n-lt10.false c.requires
    c.add_decimal-k.result c.add_decimal-k.new.out c.add_decimal-k.auto.out c.add_decimal-k.ensures in
    search rules

pub returns : goal.returns
returns t c =
    last_digit c.args.n c.args.at c.args.out.now c.if-n-lt10.false c.requires
    c.add_decimal-k.result c.digit_of-2.result c.add_decimal-k.new.out c.digit_of-2.ensures c.add_decimal-k.ensures
