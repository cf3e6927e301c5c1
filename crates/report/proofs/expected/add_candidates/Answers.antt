-- `report::expected::add_candidates` meets its contract: the pairs of the array are the candidates. Assumes nothing.
use mathlib.Core.Path.{refl}
use native.Mathlib.Omega.{arith}
use Rattle.report.specs.Compiled.{candidates, each_text, items_text}
use Rattle.report.proofs.expected.add_candidates.Goals as goal

pub add_each-requires : goal.add_each-requires
add_each-requires c = let room = c.requires.1 in (c.requires.0, refl, omega arith)

pub returns : goal.returns
unfolding candidates each_text items_text
returns c = c.add_each.ensures
