-- `text::token::read_word` meets its contract, by `WordLaws`. Assumes nothing.
use native.Mathlib.Omega.{arith}
use lib.ListN.{drop, length-drop}
use Rattle.grammar.proofs.StopLaws.{agreeing_within}
use Rattle.text.proofs.WordLaws.{word_touches, word_breaks, word_stands}
use Rattle.text.proofs.token.read_word.Goals as goal

pub returns-then-touching : goal.returns-then-touching
returns-then-touching c = word_touches _ _ _ _ _ c.if-touching.true

pub overflow_add-result-else-n-letters : goal.overflow_add-result-else-n-letters
overflow_add-result-else-n-letters c =
    let known = c.args in
    omega (
      arith,
      c.matching-n.ensures,
      agreeing_within known.letters.now (drop known.at known.text.now),
      length-drop known.at
          known.text.now,
    )

pub returns-then-n-letters : goal.returns-then-n-letters
returns-then-n-letters c = word_breaks _ _ _ _ _ _ c.if-touching.false c.matching-n.ensures c.if-n-letters.true

pub returns-else-n-letters : goal.returns-else-n-letters
returns-else-n-letters c = word_stands _ _ _ _ _ _ c.if-touching.false c.matching-n.ensures c.if-n-letters.false
