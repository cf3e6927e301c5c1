-- `guard::moving::guard_script_back` meets its contract: what the move answers, as numbers (`NoteLaws`). Assumes nothing.
use Rattle.moves.specs.Moves.{script_back, script_back_output}
use Rattle.numbers.proofs.NoteLaws.{count_noted, count_unlent}
use Rattle.guard.proofs.moving.guard_script_back.Goals as goal

pub returns-then-numbers-lt2 : goal.returns-then-numbers-lt2
returns-then-numbers-lt2 c = let a = c.args in let x = script_back a.rule.now a.script.now a.out.now in let after = script_back_output a.rule.now a.script.now a.out.now in
    let both = count_unlent a.numbers.now a.out.now after x c.if-numbers-lt2.true in
    record { result = both.0; words = both.1.0; output = both.1.1 }

pub returns : goal.returns
returns c = let a = c.args in let x = script_back a.rule.now a.script.now a.out.now in let after = script_back_output a.rule.now a.script.now a.out.now in
    let both = count_noted a.numbers.now a.out.now after x _ c.script_back.ensures.answer _ c.script_back.ensures.output c.if-numbers-lt2.false _ c.note_count.ensures.result _ c.note_count.ensures.words in
    record { result = both.0; words = both.1.0; output = both.1.1 }
