-- `report::expected::add_each` meets its contract: those before this one, one after another. Assumes nothing.
use mathlib.Core.Path.{ap}
use mathlib.Core.List.{map}
use native.Mathlib.Omega.{arith}
use lib.ListN.{length, length-map}
use Rattle.print.proofs.AddedLaws.{filled_room}
use Rattle.report.specs.Compiled.{Candidate, candidate_of}
use Rattle.report.proofs.ExpectedLaws.{short_at, pair_at, each_begins, each_goes_on}
use Rattle.report.proofs.expected.add_each.Goals as goal

pub loop-bytes-init : goal.loop-bytes-init
loop-bytes-init c = each_begins c.args.text.now c.args.start c.args.typed c.args.at c.args.out.now c.args.tried.now

pub add_item-end-requires : goal.add_item-end-requires
add_item-end-requires c =
    let a = c.args in
    let k = c.loop-bytes.bytes-index in
    let n = length-map a.tried.now candidate_of in
    let few = short_at (map candidate_of a.tried.now) k (omega (arith, c.loop-bytes-test.true)) c.requires.1 in
    let same = pair_at a.text.now a.start a.typed a.at a.out.now a.tried.now k c.loop-bytes-test.true in
    let t = ap (λ (x : Candidate). length x.tried) same in
    let s = ap (λ (x : Candidate). length x.shown) same in
    (c.requires.0, omega (arith, t, few.0), omega (arith, s, few.1), filled_room 9 (let room = c.requires.2 in let h = c.loop-bytes-test.true in omega arith) c.loop-bytes.invariant)

pub loop-bytes-preserved : goal.loop-bytes-preserved
loop-bytes-preserved c =
    let a = c.args in
    each_goes_on a.text.now a.start a.typed a.at a.out.now a.tried.now c.loop-bytes.bytes-index c.loop-bytes.end c.add_item-end.result
    c.loop-bytes.out c.add_item-end.new.out c.loop-bytes-test.true (let room = c.requires.2 in let h = c.loop-bytes-test.true in omega arith)
    c.loop-bytes.invariant c.add_item-end.ensures
