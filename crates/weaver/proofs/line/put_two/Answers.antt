-- `weaver::line::put_two` meets its contract: a line, and another after it (`PutLaws.over_then`). Assumes nothing.
use Prim.Native.Nat.{◌+◌, ◌*◌}
use Rattle.facts.specs.FactSets.{facts_of}
use Rattle.facts.specs.Written.{stored_line}
use Rattle.facts.proofs.OverLaws.{length_stored}
use Rattle.rule.proofs.PutLaws.{over_then}
use native.Mathlib.Omega.{arith}
use Rattle.weaver.proofs.line.put_two.Goals as goal

pub returns : goal.returns
returns g c = let a = c.args in let wide = g.W.Word.IS_WIDE in
    let l = length_stored wide a.word (facts_of a.x) in let h = c.requires in
    over_then (8 * a.at) (8 * (a.at + 1)) (stored_line wide a.word (facts_of a.x)) (stored_line wide a.then (facts_of a.y)) (g.W.Word.numbers a.out.now) _ _ (omega arith) (omega arith) c.put_line.ensures c.put_line-2.ensures
