-- `picture::file::load_limits` meets its contract (`FileLaws`): the first j numbers are loaded. Assumes nothing.
use Rattle.print.specs.Written.{Added}
use Rattle.picture.specs.File.{limits_from}
use Rattle.picture.proofs.file.load_limits.Given as goal

abbrev pub invariant-loop-j : goal.invariant-loop-j
invariant-loop-j l = Added (limits_from l.bytes l.at l.first l.j) 0 l.j l.initial.out l.out
