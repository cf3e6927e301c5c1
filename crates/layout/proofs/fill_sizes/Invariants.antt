-- `layout::fill_sizes` meets its contract. The loop keeps: the sizes of the nodes below k stand in the table (`SizeLaws.SizedTo`).
-- Assumes nothing.
use Rattle.rule.specs.Nodes.{table_in}
use Rattle.layout.proofs.SizeLaws.{SizedTo}
use Rattle.layout.proofs.fill_sizes.Given as goal

abbrev pub invariant-loop-k : goal.invariant-loop-k
invariant-loop-k l = SizedTo (table_in l.rule) l.sizes l.k
