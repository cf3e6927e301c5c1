-- `facts::line::read_set` meets its contract: the word is the one that the line holds (`OverLaws`). Assumes nothing.
use mathlib.Core.Path.{ap, ◌∙◌}
use Prim.Native.Nat.{◌+◌, ◌*◌}
use Rattle.sets.specs.Sets.{set_of}
use Rattle.facts.proofs.OverLaws.{set_read}
use Rattle.facts.proofs.line.read_set.Goals as goal

pub returns : goal.returns
returns g c = ap set_of c.word_at.ensures ∙ set_read g.W.Word.IS_WIDE (g.W.Word.numbers c.args.script.now) (8 * c.args.l + 1 + c.args.i)
