-- `rule::judging::all_small` meets its contract. The loop keeps: the or is small where the numbers passed are (`NumberLaws`). Assumes nothing.
use mathlib.Core.Path.{◌≡◌}
use lib.Dec.{leb}
use lib.ListN.{get_or}
use Rattle.spec.specs.Questions.{all_below}
use Rattle.rule.proofs.judging.all_small.Given as goal

abbrev pub invariant-loop-n : goal.invariant-loop-n
invariant-loop-n l = leb l.joined 16383 ≡ all_below l.n-index (λ j. leb (get_or l.numbers j 0) 16383)
