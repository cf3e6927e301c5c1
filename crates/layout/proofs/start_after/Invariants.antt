-- `layout::start_after` meets its contract. The loop keeps: n is where the next line starts, if `start` is where line `from` does. Assumes nothing.
use mathlib.Core.Path.{◌≡◌}
use Prim.Native.Nat.{◌+◌, ◌*◌, ◌≤◌}
use Rattle.spec.specs.Rule.{Table}
use Rattle.spec.specs.Script.{bare_code, most_lines}
use Rattle.spec.specs.Weaver.{block_size, start_of}
use Rattle.layout.proofs.start_after.Given as goal

abbrev pub invariant-loop-word : goal.invariant-loop-word
invariant-loop-word l = (l.n ≤ most_lines + most_lines * l.word-index)
    × ((t : Table) → l.size ≡ block_size t → l.start ≡ start_of t (bare_code l.bare) l.from → l.n ≡ start_of t (bare_code l.bare) (l.from + l.word-index))
