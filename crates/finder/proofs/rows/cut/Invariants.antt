-- `finder::rows::cut` meets its contract. The loop keeps: the first j words are met (`RowLaws.Meeting`). Assumes nothing.
use Rattle.finder.proofs.RowLaws.{Meeting}
use Rattle.finder.proofs.rows.cut.Given as goal

abbrev pub invariant-loop-j : goal.invariant-loop-j
invariant-loop-j l = Meeting l.initial.notes l.i l.word-items l.notes l.j l.changed
