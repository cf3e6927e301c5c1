-- `text::table::put_node` meets its contract: by `HoldLaws`. Assumes nothing.
use Rattle.text.proofs.HoldLaws.{holds_node}
use Rattle.text.proofs.table.put_node.Goals as goal

pub node_word-requires : goal.node_word-requires
node_word-requires c = c.requires.2

pub returns : goal.returns
returns c = holds_node c.args.table.now c.args.n c.node_word.result _ c.requires.0 c.requires.1 c.node_word.ensures
