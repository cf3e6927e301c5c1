-- `render::text::add_lines` meets its contract: the first l lines are written, in at most 30 bytes each (`TextLaws`). Assumes nothing.
use mathlib.Core.Path.{◌≡◌, ap}
use native.Mathlib.Omega.{arith}
use Rattle.render.specs.Text.{lines_text}
use Rattle.print.proofs.AddedLaws.{added_as, filled_room}
use Rattle.render.proofs.TextLaws.{lines_start, lines_next}
use Rattle.render.proofs.text.add_lines.Goals as goal

pub loop-l-init : goal.loop-l-init
loop-l-init c = lines_start c.args.words.now c.args.at c.args.out.now

pub add_line-end-requires : goal.add_line-end-requires
add_line-end-requires c = (omega arith, filled_room 30 (omega arith) c.loop-l.invariant)

pub loop-l-preserved : goal.loop-l-preserved
loop-l-preserved c =
    lines_next c.args.words.now c.args.at c.args.out.now c.loop-l.l c.loop-l.end c.add_line-end.result c.loop-l.out
    c.add_line-end.new.out (omega arith) (omega arith) c.loop-l.invariant c.add_line-end.ensures

pub returns : goal.returns
returns c =
    let all : c.loop-l.l ≡ c.args.n = omega arith in
    added_as _ _ _ _ _ _ (ap (λ l. lines_text c.args.words.now l) all) c.loop-l.invariant.added
