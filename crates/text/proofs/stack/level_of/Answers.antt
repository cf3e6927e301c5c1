-- `text::stack::level_of` meets its contract. Assumes nothing.
use Rattle.text.proofs.UnwindLaws.{level_tight}
use Rattle.text.proofs.stack.level_of.Goals as goal

pub returns-in_default : goal.returns-in_default
returns-in_default c = level_tight c.args.word c.in_default.not-And c.in_default.not-Or c.in_default.not-Implies
