-- `text::table::put_false` meets its contract: false is put. Assumes nothing.
use Rattle.text.proofs.table.put_false.Goals as goal

pub put_node-requires : goal.put_node-requires
put_node-requires c = (c.requires.0, c.requires.1, tt)

pub returns : goal.returns
returns c = c.put_node.ensures
