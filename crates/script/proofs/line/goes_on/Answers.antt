-- `script::line::goes_on` meets its contract (`LineLaws`). Assumes nothing.
use mathlib.Core.Path.{ap, ◌∙◌}
use mathlib.Core.Bool.{not}
use Rattle.script.proofs.LineLaws.{ends, goes}
use Rattle.script.proofs.line.goes_on.Goals.{in-Halt, in_default}
use Rattle.script.proofs.line.goes_on.Goals as goal

pub returns : goal.returns
returns c = let x = c.args.x in
    elim c.match-matches.branch [
      | in-Halt w ↦ ap not w.matches-is ∙ ends x.r x.c x.target x.opcode w.in-Halt.is
      | in_default w ↦ ap not w.matches-is ∙ goes x.r x.c x.target x.opcode w.in_default.not-Halt w.in_default.not-Goto w.in_default.not-Unknown
    ]
