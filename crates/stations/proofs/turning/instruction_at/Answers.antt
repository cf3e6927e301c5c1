-- `stations::turning::instruction_at` meets its contract (`TurnLaws`). Assumes nothing.
use native.Mathlib.Omega.{arith}
use Rattle.stations.proofs.TurnLaws.{past_end, at_line_lem}
use Rattle.stations.proofs.turning.instruction_at.Goals as goal

pub returns-then-count_lines-line : goal.returns-then-count_lines-line
returns-then-count_lines-line g c =
    let a = c.args in
    let h = c.count_lines.ensures in let t = c.if-count_lines-line.true in
    past_end g.W.Word.IS_WIDE (g.W.Word.numbers a.script.now) a.line (omega arith) _ c.decode.ensures.fields

pub returns : goal.returns
returns g c =
    let a = c.args in
    let h = c.count_lines.ensures in let t = c.if-count_lines-line.false in
    at_line_lem g.W.Word.IS_WIDE (g.W.Word.numbers a.script.now) a.line (omega arith) _ c.line_word.ensures _ c.decode-2.ensures.fields
