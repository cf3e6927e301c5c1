-- `layout::start_of` meets its contract: from the kept start on, lines are counted (`StartLaws.kept_start`). Assumes nothing.
use native.Mathlib.Omega.{arith}
use Rattle.layout.proofs.StartLaws.{bare_few, size_few, kept_few}
use Rattle.layout.proofs.start_of.Goals as goal

pub bounds-starts-j : goal.bounds-starts-j
bounds-starts-j c = let a = c.args in
    omega (arith, bare_few a.rule.now a.bare.now c.requires.0.weavable)

pub start_after-requires : goal.start_after-requires
start_after-requires c = let a = c.args in
    let kept = kept_few a.rule.now a.bare.now a.starts.now a.size c.requires.0 a.l c.requires.1 in
    let few = size_few a.rule.now a.bare.now a.starts.now a.size c.requires.0 in
    (omega arith, omega arith, bare_few a.rule.now a.bare.now c.requires.0.weavable, omega arith, omega arith)
