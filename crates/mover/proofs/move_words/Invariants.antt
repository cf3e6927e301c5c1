-- `mover::move_words` meets its contract: the loop keeps that the first words have moved (`CopyLaws`). Assumes nothing.
use Rattle.rule.specs.Nodes.{words_in, word_by}
use Rattle.rule.proofs.CopyLaws.{Copied}
use Rattle.mover.proofs.move_words.Given as goal

abbrev pub invariant-loop-i : goal.invariant-loop-i
invariant-loop-i g l =
    Copied (word_by g.B.Word.IS_WIDE) (words_in g.A.Word.IS_WIDE (g.A.Word.numbers l.script)) (g.B.Word.numbers l.initial.out) l.i (g.B.Word.numbers l.out)
