-- `layout::fill_starts` meets its contract. The loop keeps: n is where line l starts, and the table has the starts below it (`StartLaws.Marked`).
-- Assumes nothing.
use mathlib.Core.Path.{◌≡◌}
use Rattle.rule.specs.Nodes.{table_in}
use Rattle.spec.specs.Script.{bare_code}
use Rattle.spec.specs.Weaver.{start_of}
use Rattle.layout.proofs.StartLaws.{Marked}
use Rattle.layout.proofs.fill_starts.Given as goal

abbrev pub invariant-loop-l : goal.invariant-loop-l
invariant-loop-l l = (l.n ≡ start_of (table_in l.rule) (bare_code l.bare) l.l) × Marked (table_in l.rule) (bare_code l.bare) l.starts l.l
