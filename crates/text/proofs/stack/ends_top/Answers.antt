-- `text::stack::ends_top` meets its contract. Assumes nothing.
use native.Mathlib.Omega.{arith}
use Rattle.text.proofs.UnwindLaws.{no_top, top_deeper, top_shallower, top_level}
use Rattle.text.proofs.stack.ends_top.Goals as goal

pub returns-then-top-eq0 : goal.returns-then-top-eq0
returns-then-top-eq0 c = no_top _ c.args.stack.now c.args.top c.if-top-eq0.true

pub returns-then-depth-deep : goal.returns-then-depth-deep
returns-then-depth-deep c =
    top_deeper c.args.stack.now c.args.top c.args.depth c.args.level c.if-top-eq0.false c.requires.1 c.if-depth-deep.true

pub returns-then-deep-depth : goal.returns-then-deep-depth
returns-then-deep-depth c =
    top_shallower c.args.stack.now c.args.top c.args.depth c.args.level c.if-top-eq0.false c.requires.1 c.if-deep-depth.true

pub returns : goal.returns
returns c =
    top_level c.args.stack.now c.args.top c.args.depth c.args.level c.if-top-eq0.false
    c.requires.1 (omega (arith, c.if-depth-deep.false, c.if-deep-depth.false)) c.level_of.result c.level_of.ensures
