-- `guard::guard_judge` meets its contract. Assumes nothing.
use Rattle.rule.specs.Nodes.{form_by}
use Rattle.spec.specs.Judging.{judging}
use Rattle.rule.specs.Answers.{verdict_of}
use Rattle.numbers.specs.Numbers.{verdict_words}
use Rattle.numbers.proofs.NoteLaws.{noted, unlent}
use Rattle.guard.proofs.guard_judge.Goals as goal

pub returns-then-numbers-lt4 : goal.returns-then-numbers-lt4
returns-then-numbers-lt4 g c =
    let both = unlent 4 verdict_words c.args.numbers.now (judging (form_by g.W.Word.IS_WIDE) (g.W.Word.numbers c.args.rule.now) c.args.history.now) c.if-numbers-lt4.true in
    record { result = both.0; words = both.1 }

pub returns : goal.returns
returns g c =
    let both = noted 4 verdict_words c.args.numbers.now (verdict_of c.verdict.result) (judging (form_by g.W.Word.IS_WIDE) (g.W.Word.numbers c.args.rule.now) c.args.history.now) c.verdict.ensures.answer c.if-numbers-lt4.false _ c.note_verdict.ensures.result _ c.note_verdict.ensures.words in
    record { result = both.0; words = both.1 }
