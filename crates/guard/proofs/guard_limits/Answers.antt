-- `guard::guard_limits` meets its contract. Assumes nothing.
use Rattle.intervals.specs.Limits.{limiting, limits_output}
use Rattle.rule.specs.Nodes.{form_by}
use Rattle.numbers.proofs.NoteLaws.{count_noted, count_unlent}
use Rattle.guard.proofs.guard_limits.Goals as goal

pub returns-then-numbers-lt2 : goal.returns-then-numbers-lt2
returns-then-numbers-lt2 g c =
    let a = c.args in
    let x = limiting (form_by g.W.Word.IS_WIDE) (g.W.Word.numbers a.rule.now) a.lows.now a.highs.now a.out.now in
    let after = limits_output (form_by g.W.Word.IS_WIDE) (g.W.Word.numbers a.rule.now) a.lows.now a.highs.now a.out.now in
    let both = count_unlent a.numbers.now a.out.now after x c.if-numbers-lt2.true in
    record { result = both.0; words = both.1.0; output = both.1.1 }

pub returns : goal.returns
returns g c =
    let a = c.args in
    let x = limiting (form_by g.W.Word.IS_WIDE) (g.W.Word.numbers a.rule.now) a.lows.now a.highs.now a.out.now in
    let after = limits_output (form_by g.W.Word.IS_WIDE) (g.W.Word.numbers a.rule.now) a.lows.now a.highs.now a.out.now in
    let both = count_noted a.numbers.now a.out.now after x _ c.judge.ensures.answer _ c.judge.ensures.output c.if-numbers-lt2.false _ c.note_count.ensures.result _ c.note_count.ensures.words in
    record { result = both.0; words = both.1.0; output = both.1.1 }
