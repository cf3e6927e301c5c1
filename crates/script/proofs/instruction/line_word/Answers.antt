-- `script::instruction::line_word` meets its contract: the upper half of the line's first word (`LineLaws`). Assumes nothing.
use mathlib.Core.Path.{ap, ◌∙◌}
use Rattle.moves.specs.Moves.{narrow_word}
use Rattle.rule.proofs.EachLaws.{length_each}
use Rattle.script.proofs.LineLaws.{word_half}
use native.Mathlib.Omega.{arith}
use Rattle.script.proofs.instruction.line_word.Goals as goal

pub word_at-requires : goal.word_at-requires
word_at-requires g c = omega (arith, length_each g.met.W.Word.each c.args.script.now)

pub returns : goal.returns
returns g c = c.upper_half.ensures ∙ ap narrow_word c.word_at.ensures ∙ word_half g.W.Word.IS_WIDE (g.W.Word.numbers c.args.script.now) c.args.l
