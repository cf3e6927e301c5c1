-- `text::write::join` meets its contract. Assumes nothing.
use Rattle.grammar.specs.Reading.{rank}
use Rattle.text.proofs.WaitLaws.{join_room, join_builds}
use Rattle.text.proofs.write.join.Goals as goal

pub wait-requires : goal.wait-requires
wait-requires c =
    join_room c.args.stack.now c.args.top c.args.table.now c.args.count c.args.word (rank c.args.depth c.args.level)
    c.unwind-ended.result.top c.unwind-ended.new.table c.unwind-ended.result.count c.requires.0 c.requires.1 c.unwind-ended.ensures

pub returns : goal.returns
returns c =
    join_builds c.args.stack.now c.args.top c.args.table.now c.args.count c.args.word (rank c.args.depth c.args.level)
    c.unwind-ended.result.top c.unwind-ended.new.table c.unwind-ended.result.count c.requires.0 c.requires.1 c.unwind-ended.ensures c.args.depth
    c.wait.new.stack c.wait.result.top c.wait.new.table c.wait.result.count c.wait.ensures
