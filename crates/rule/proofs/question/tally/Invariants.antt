-- `rule::question::tally` meets its contract. The loop keeps: with the nodes from k on, the tallies are those of the table (`TallyLaws`).
-- Assumes nothing.
use mathlib.Core.Path.{◌≡◌}
use lib.ListN.{drop}
use Rattle.rule.specs.Nodes.{table_by}
use Rattle.rule.specs.Tally.{tallies_of, mention_table, tallied}
use Rattle.rule.proofs.question.tally.Given as goal

abbrev pub invariant-loop-word : goal.invariant-loop-word
invariant-loop-word g l =
    mention_table (tallies_of l.s) (drop l.word-index (table_by g.W.Word.IS_WIDE (g.W.Word.numbers l.rule))) ≡ tallied (table_by g.W.Word.IS_WIDE (g.W.Word.numbers l.rule))
