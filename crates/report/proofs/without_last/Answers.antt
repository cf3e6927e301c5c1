-- `report::without_last` meets its contract (`LastLaws`). Assumes nothing.
use Rattle.report.proofs.LastLaws.{last_none, last_same, last_other}
use Rattle.report.proofs.without_last.Goals as goal

pub returns-then-n-eq0 : goal.returns-then-n-eq0
returns-then-n-eq0 c = last_none c.args.byte c.args.bytes.now c.if-n-eq0.true

pub returns-then-bytes-n : goal.returns-then-bytes-n
returns-then-bytes-n c = last_same c.args.byte c.args.bytes.now c.if-bytes-n.true

pub returns-else-bytes-n : goal.returns-else-bytes-n
returns-else-bytes-n c = last_other c.args.byte c.args.bytes.now c.if-bytes-n.false
