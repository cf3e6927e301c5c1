-- `rule::stored::put_word` meets its contract: a store is one word written (`PutLaws`). Assumes nothing.
use mathlib.Core.Path.{ap, ◌∙◌}
use native.Mathlib.Omega.{arith}
use lib.ListN.{set}
use Rattle.rule.proofs.EachLaws.{length_each, set_each}
use Rattle.rule.proofs.PutLaws.{set_at}
use Rattle.rule.proofs.stored.put_word.Goals as goal

pub returns : goal.returns
returns g c =
    let each = g.met.W.Word.each in
    let o = c.args.words.now in
    set_each each o c.args.i c.narrow.result ∙ ap (set (g.W.Word.numbers o) c.args.i) c.narrow.ensures
    ∙ set_at (g.W.Word.numbers o) c.args.i _ (omega (arith, length_each each o, c.requires))
