-- `guard::moving::guard_rule_back` meets its contract: what the move answers, as numbers (`NoteLaws`). Assumes nothing.
use Rattle.moves.specs.Moves.{rule_back, rule_back_output}
use Rattle.numbers.proofs.NoteLaws.{count_noted, count_unlent}
use Rattle.guard.proofs.moving.guard_rule_back.Goals as goal

pub returns-then-numbers-lt2 : goal.returns-then-numbers-lt2
returns-then-numbers-lt2 c = let a = c.args in let x = rule_back a.rule.now a.out.now in let after = rule_back_output a.rule.now a.out.now in
    let both = count_unlent a.numbers.now a.out.now after x c.if-numbers-lt2.true in
    record { result = both.0; words = both.1.0; output = both.1.1 }

pub returns : goal.returns
returns c = let a = c.args in let x = rule_back a.rule.now a.out.now in let after = rule_back_output a.rule.now a.out.now in
    let both = count_noted a.numbers.now a.out.now after x _ c.rule_back.ensures.answer _ c.rule_back.ensures.output c.if-numbers-lt2.false _ c.note_count.ensures.result _ c.note_count.ensures.words in
    record { result = both.0; words = both.1.0; output = both.1.1 }
