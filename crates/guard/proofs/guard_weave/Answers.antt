-- `guard::guard_weave` meets its contract. Assumes nothing.
use Rattle.spec.specs.Weaver.{weaving, output_after}
use Rattle.rule.specs.Nodes.{form_by}
use Rattle.numbers.proofs.NoteLaws.{count_noted, count_unlent}
use Rattle.guard.proofs.guard_weave.Goals as goal

pub returns-then-numbers-lt2 : goal.returns-then-numbers-lt2
returns-then-numbers-lt2 g c =
    let a = c.args in
    let x = weaving (form_by g.W.Word.IS_WIDE) (g.W.Word.numbers a.rule.now) a.bare.now (g.W.Word.numbers a.out.now) in
    let after = output_after (form_by g.W.Word.IS_WIDE) (g.W.Word.numbers a.rule.now) a.bare.now (g.W.Word.numbers a.out.now) in
    let both = count_unlent a.numbers.now (g.W.Word.numbers a.out.now) after x c.if-numbers-lt2.true in
    record { result = both.0; words = both.1.0; output = both.1.1 }

pub returns : goal.returns
returns g c =
    let a = c.args in
    let x = weaving (form_by g.W.Word.IS_WIDE) (g.W.Word.numbers a.rule.now) a.bare.now (g.W.Word.numbers a.out.now) in
    let after = output_after (form_by g.W.Word.IS_WIDE) (g.W.Word.numbers a.rule.now) a.bare.now (g.W.Word.numbers a.out.now) in
    let both = count_noted a.numbers.now (g.W.Word.numbers a.out.now) after x _ c.weave.ensures.answer _ c.weave.ensures.output c.if-numbers-lt2.false _ c.note_count.ensures.result _ c.note_count.ensures.words in
    record { result = both.0; words = both.1.0; output = both.1.1 }
