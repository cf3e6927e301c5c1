-- `text::table::put_constant` meets its contract, by `HoldLaws`. Assumes nothing.
use mathlib.Core.Path.{sym, subst, ap}
use Prim.Native.Nat.{◌+◌, ◌≤◌}
use native.Mathlib.Omega.{arith}
use lib.ListN.{take}
use Rattle.grammar.specs.Grammar.{constant_word, word}
use Rattle.text.specs.Building.{put_constant, token_cost}
use Rattle.text.specs.Stacks.{table_length}
use Rattle.rule.specs.Nodes.{form_in}
use Rattle.text.proofs.HoldLaws.{holds_as}
use Rattle.text.proofs.table.put_constant.Goals as goal

pub put_true-requires : goal.put_true-requires
put_true-requires c =
    let e = c.if-value.true in
    (subst (λ b. c.args.n + token_cost (word (constant_word b)) ≤ table_length) e c.requires.0, c.requires.1)

pub put_false-requires : goal.put_false-requires
put_false-requires c =
    let e = c.if-value.false in
    let k = subst (λ b. c.args.n + token_cost (word (constant_word b)) ≤ table_length) e c.requires.0 in (omega (arith, k), c.requires.1)

pub returns-then-value : goal.returns-then-value
returns-then-value c =
    holds_as (ap (λ b. put_constant form_in b (take c.args.n c.args.table.now)) (sym c.if-value.true)) c.put_true.ensures

pub returns-else-value : goal.returns-else-value
returns-else-value c =
    holds_as (ap (λ b. put_constant form_in b (take c.args.n c.args.table.now)) (sym c.if-value.false)) c.put_false.ensures
