-- `render::text::add_lines` meets its contract: the first l lines are written, in at most 30 bytes each (`TextLaws`). Assumes nothing.
use Prim.Native.Nat.{◌*◌}
use Rattle.print.specs.Written.{Filled}
use Rattle.render.specs.Text.{lines_text}
use Rattle.render.proofs.text.add_lines.Given as goal

abbrev pub invariant-loop-l : goal.invariant-loop-l
invariant-loop-l l = Filled (30 * l.l) (lines_text l.words l.l) l.at l.end l.initial.out l.out
