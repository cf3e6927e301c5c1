-- `machine::can_run` meets its contract: question 6 by its parts (`StepLaws`). Assumes nothing.
use mathlib.Core.Path.{ap, ◌∙◌}
use Rattle.spec.specs.Script.{fields_of}
use Rattle.machine.proofs.StepLaws.{run_beyond, run_at}
use native.Mathlib.Omega.{arith}
use Rattle.machine.proofs.can_run.Goals as goal

pub returns-then-count_lines-l : goal.returns-then-count_lines-l
returns-then-count_lines-l g c = let a = c.args in run_beyond g.W.Word.IS_WIDE (g.W.Word.numbers a.script.now) a.l (g.W.Word.numbers a.rule.now) c.requires (omega (arith, c.count_lines.ensures, c.if-count_lines-l.true))

pub returns : goal.returns
returns g c = let a = c.args in run_at g.W.Word.IS_WIDE (g.W.Word.numbers a.script.now) a.l (g.W.Word.numbers a.rule.now) c.requires (omega (arith, c.count_lines.ensures, c.if-count_lines-l.false)) _ c.word_at-first.ensures _ _ c.first_fits.ensures _
    (c.decode.ensures.fields ∙ ap fields_of c.upper_half.ensures) c.node_allowed.ensures
