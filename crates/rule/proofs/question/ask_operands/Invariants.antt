-- `rule::question::ask_operands` meets its contract: the loop is a scan for the lowest failing place (`QuestionLaws`), and with the nodes from k on the
-- tallies are those of the table (`TallyLaws`). Assumes nothing.
use mathlib.Core.Path.{◌≡◌}
use lib.ListN.{length, drop}
use Rattle.spec.specs.Rule.{operands_lower}
use Rattle.spec.proofs.QuestionLaws.{Scanned}
use Rattle.rule.specs.Nodes.{table_by}
use Rattle.rule.specs.Tally.{tallies_of, mention_table, tallied}
use Rattle.rule.proofs.question.ask_operands.Given as goal

abbrev pub invariant-loop-k : goal.invariant-loop-k
invariant-loop-k g l =
    Scanned (operands_lower (table_by g.W.Word.IS_WIDE (g.W.Word.numbers l.rule))) (length l.rule) l.k
    × (mention_table (tallies_of l.s) (drop l.k (table_by g.W.Word.IS_WIDE (g.W.Word.numbers l.rule))) ≡ tallied (table_by g.W.Word.IS_WIDE (g.W.Word.numbers l.rule)))
