-- `guard::guard_bare` meets its contract. Assumes nothing.
use Rattle.rule.specs.Nodes.{form_by}
use Rattle.spec.specs.Script.{check_bare}
use Rattle.rule.specs.Answers.{answer_of}
use Rattle.numbers.specs.Numbers.{checked_words}
use Rattle.numbers.proofs.NoteLaws.{noted, unlent}
use Rattle.guard.proofs.guard_bare.Goals as goal

pub returns-then-numbers-lt1 : goal.returns-then-numbers-lt1
returns-then-numbers-lt1 g c =
    let both = unlent 1 checked_words c.args.numbers.now (check_bare (form_by g.W.Word.IS_WIDE) (g.W.Word.numbers c.args.rule.now) c.args.script.now) c.if-numbers-lt1.true in
    record { result = both.0; words = both.1 }

pub returns : goal.returns
returns g c =
    let both = noted 1 checked_words c.args.numbers.now (answer_of c.check_bare.result) (check_bare (form_by g.W.Word.IS_WIDE) (g.W.Word.numbers c.args.rule.now) c.args.script.now) c.check_bare.ensures c.if-numbers-lt1.false _ c.note_place.ensures.result _ c.note_place.ensures.words in
    record { result = both.0; words = both.1 }
