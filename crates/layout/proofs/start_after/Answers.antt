-- `layout::start_after` meets its contract. The loop keeps: n is where the next line starts, if `start` is where line `from` does. Assumes nothing.
use mathlib.Core.Path.{◌≡◌, ap, ◌∙◌}
use mathlib.Core.Bool.{cond}
use Prim.Native.Nat.{◌+◌, ◌-◌, ◌<◌}
use lib.ListN.{length, get_or, take, drop, length-take}
use native.Mathlib.Omega.{arith}
use Rattle.std.proofs.lemmas.List.{get_or-take, get_or-drop}
use Rattle.spec.specs.Script.{is_present, instruction_read, bare_code}
use Rattle.spec.specs.Weaver.{start_of}
use Rattle.layout.proofs.StartLaws.{step_few, start_step}
use Rattle.layout.proofs.start_after.Goals as goal

pub loop-word-preserved : goal.loop-word-preserved
loop-word-preserved c = let a = c.args in
    let k = c.loop-word.word-index in
    let lines = take (a.to - a.from) (drop a.from a.bare.now) in
    let here : k < length lines = c.loop-word-test.true in
    let inside : k < a.to - a.from = omega (arith, length-take (a.to - a.from) (drop a.from a.bare.now)) in
    let word : get_or lines k 0 ≡ get_or a.bare.now (a.from + k) 0 = get_or-take (a.to - a.from) (drop a.from a.bare.now) k 0 inside ∙ get_or-drop a.from a.bare.now k 0 in
    let size = c.line_size-n.ensures ∙ ap (λ w. cond (is_present (instruction_read w)) a.size 1) word in
    let few = step_few (is_present (instruction_read (get_or a.bare.now (a.from + k) 0))) a.size c.line_size-n.result c.requires.3 size in
    let next : a.from + k + 1 ≡ a.from + (k + 1) = omega arith in (
      omega arith,
      λ t b e. start_step t a.bare.now (a.from + k) c.loop-word.n a.size c.line_size-n.result (omega arith) b size (c.loop-word.invariant.1 t b e)
          ∙ ap (start_of t (bare_code a.bare.now)) next,
    )
