-- `text::write::wait` meets its contract. Assumes nothing.
use Rattle.text.proofs.WaitLaws.{room_waits, waits_builds}
use Rattle.text.proofs.write.wait.Goals as goal

pub put_begin-n-requires : goal.put_begin-n-requires
put_begin-n-requires c =
    ((room_waits c.args.stack.now c.args.top c.args.table.now c.args.count c.args.word c.requires.0 c.requires.1).1, c.requires.0.table_long)

pub push-t-requires : goal.push-t-requires
push-t-requires c =
    ((room_waits c.args.stack.now c.args.top c.args.table.now c.args.count c.args.word c.requires.0 c.requires.1).0, c.requires.0.stack_long)

pub returns : goal.returns
returns c =
    waits_builds c.args.stack.now c.args.top c.args.table.now c.args.count c.args.word c.requires.0 c.requires.1 c.args.depth
    c.saturating_sub-left.result c.push-t.new.stack c.push-t.result c.put_begin-n.new.table c.put_begin-n.result c.put_begin-n.ensures
    c.saturating_sub-left.ensures c.push-t.ensures.1 c.push-t.ensures.2
