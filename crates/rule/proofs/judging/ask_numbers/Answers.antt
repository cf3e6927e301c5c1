-- `rule::judging::ask_numbers` meets its contract: the or of all numbers tells (`NumberLaws`), and else each is asked. Assumes nothing.
use mathlib.Core.Path.{◌≡◌, sym, ◌∙◌}
use borrow.Author.Rules.{rules}
use lib.Dec.{leb}
use lib.ListN.{get_or}
use Rattle.spec.specs.Judging.{question15}
use Rattle.rule.proofs.NumberLaws.{small_yes}
use Rattle.rule.proofs.judging.ask_numbers.Goals as goal

pub returns-then-all_small : goal.returns-then-all_small
returns-then-all_small c = small_yes c.args.numbers.now (sym c.all_small.ensures ∙ c.if-all_small.true)

pub returns : goal.returns
unfolding question15
returns c = c.ask_each.ensures (λ i. leb (get_or c.args.numbers.now i 0) 16383) (λ i yes h p. let e : yes ≡ leb (get_or c.args.numbers.now i 0) 16383 = search rules in sym e)
