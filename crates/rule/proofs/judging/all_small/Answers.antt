-- `rule::judging::all_small` meets its contract. The loop keeps: the or is small where the numbers passed are (`NumberLaws`). Assumes nothing.
use mathlib.Core.Path.{refl, ap, ◌∙◌}
use mathlib.Core.Bool.{◌&&◌}
use native.Mathlib.Numerals.{add-one}
use lib.Dec.{leb}
use lib.ListN.{get_or}
use Rattle.spec.specs.Questions.{all_below}
use Rattle.rule.proofs.NumberLaws.{or_small}
use Rattle.rule.proofs.judging.all_small.Goals as goal

pub loop-n-init : goal.loop-n-init
unfolding all_below
loop-n-init c = refl

pub loop-n-preserved : goal.loop-n-preserved
unfolding all_below
loop-n-preserved c =
    let ns = c.args.numbers.now in
    let l = c.loop-n in
    rw add-one (or_small l.joined (get_or ns l.n-index 0) ∙ ap (λ b. b && leb (get_or ns l.n-index 0) 16383) l.invariant)
