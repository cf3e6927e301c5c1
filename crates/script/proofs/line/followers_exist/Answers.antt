-- `script::line::followers_exist` meets its contract (`LineLaws`). Assumes nothing.
use Rattle.script.specs.Lines.{instruction_in}
use Rattle.script.proofs.LineLaws.{follow_by}
use Rattle.script.proofs.line.followers_exist.Goals as goal

pub returns : goal.returns
returns c = let a = c.args in follow_by a.lines a.l (instruction_in a.x) c.has_target.result c.goes_on.result a.x.target c.has_target.ensures c.goes_on.ensures
