-- `words::counted::load_counted` meets its contract: as many words as are counted, which the output has space for (`CountedLaws`).
-- Assumes nothing.
use mathlib.Core.Path.{ap}
use Prim.Native.Nat.{ℕ, ◌+◌}
use native.Mathlib.Omega.{arith}
use lib.ListN.{length}
use Rattle.words.specs.Counted.{words_from, count_in}
use Rattle.print.proofs.AddedLaws.{added_as}
use Rattle.words.proofs.CountedLaws.{count_most}
use Rattle.words.proofs.counted.load_counted.Goals as goal

pub load_words-requires : goal.load_words-requires
load_words-requires c =
    let most = count_most (length c.args.out.now) c.args.bytes.now c.args.at in
    let same = c.count_in-n.ensures in
    let limits = c.requires in
    (omega arith, omega arith, omega arith)

pub returns : goal.returns
returns c =
    let args = c.args in
    added_as (words_from args.bytes.now (args.at + 1) c.count_in-n.result)
    (words_from args.bytes.now (args.at + 1) (count_in (length args.out.now) args.bytes.now args.at)) 0 c.count_in-n.result
    args.out.now c.load_words.new.out (ap (λ (n : ℕ). words_from args.bytes.now (args.at + 1) n) c.count_in-n.ensures) c.load_words.ensures
