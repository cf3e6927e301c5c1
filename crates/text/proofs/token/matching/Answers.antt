-- `text::token::matching` meets its contract: the pairs that are the same are the letters that stand there (`LetterLaws`). Assumes nothing.
use Rattle.std.proofs.Common.{◌<◌, ◌≤◌, ◌-◌, ◌∙◌, ap, rules, arith, drop, length, length-drop}
use Rattle.std.proofs.lemmas.List.{take_all}
use Rattle.grammar.specs.Bytes.{agreeing}
use Rattle.text.proofs.LetterLaws.{agreeing_none, agreeing_pairs}
use Rattle.text.proofs.token.matching.Goals as goal

pub returns-in_default : goal.returns-in_default
returns-in_default c = let h : length c.args.text.now < c.args.at = search rules in agreeing_none _ _ _ h

pub returns : goal.returns
returns c =
    let l = c.in-Some.ensures.lookup.0 in
    let size : length (drop c.args.at c.args.text.now) ≤ length c.args.text.now - c.args.at = omega (arith, length-drop c.args.at c.args.text.now) in
    c.same_first.ensures ∙ agreeing_pairs _ _ ∙ ap (agreeing c.args.letters.now) (l.2 ∙ take_all _ _ size)
