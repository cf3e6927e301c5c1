-- `print::add_decimal` meets its contract: by recursion into the tenth, the number itself the measure (`DecimalLaws`). Assumes nothing.
use Rattle.print.proofs.+add_decimal.Given as goal

abbrev pub decreases-add_decimal : goal.decreases-add_decimal
decreases-add_decimal l = l.n
