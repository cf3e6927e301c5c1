-- `layout::count_lines` meets its contract: where the line after the last would start. Assumes nothing.
use mathlib.Core.Path.{sym, ◌∙◌}
use Rattle.spec.specs.Script.{bare_code}
use Rattle.spec.proofs.WeaverLaws.{start_zero}
use Rattle.layout.proofs.StartLaws.{start_end}
use Rattle.layout.proofs.count_lines.Goals as goal

pub returns : goal.returns
returns c = let bare = c.args.bare.now in
    λ t e. c.start_after.ensures t e (sym (start_zero t (bare_code bare))) ∙ start_end t bare
