-- `layout::block_size` meets its contract. The loop keeps: the lines of the nodes below k are counted (`SizeLaws.counted_to`). Assumes nothing.
use mathlib.Core.Path.{◌≡◌}
use Rattle.rule.specs.Nodes.{table_in}
use Rattle.layout.proofs.SizeLaws.{counted_to}
use Rattle.layout.proofs.block_size.Given as goal

abbrev pub invariant-loop-k : goal.invariant-loop-k
invariant-loop-k l = l.lines ≡ counted_to (table_in l.rule) l.k
