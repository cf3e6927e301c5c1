-- `guard::guard_text` meets its contract. Assumes nothing.
use lib.ListN.{length}
use Rattle.grammar.specs.Texting.{texting, count_of, output_of}
use Rattle.rule.specs.Nodes.{form_by}
use Rattle.numbers.proofs.NoteLaws.{count_noted, count_unlent}
use Rattle.guard.proofs.guard_text.Goals as goal

pub returns-then-numbers-lt2 : goal.returns-then-numbers-lt2
returns-then-numbers-lt2 g c =
    let a = c.args in
    let t = texting (form_by g.W.Word.IS_WIDE) (length (g.W.Word.numbers a.out.now)) a.text.now in
    let x = count_of t in
    let after = output_of t (g.W.Word.numbers a.out.now) in
    let both = count_unlent a.numbers.now (g.W.Word.numbers a.out.now) after x c.if-numbers-lt2.true in
    record { result = both.0; words = both.1.0; output = both.1.1 }

pub returns : goal.returns
returns g c =
    let a = c.args in
    let t = texting (form_by g.W.Word.IS_WIDE) (length (g.W.Word.numbers a.out.now)) a.text.now in
    let x = count_of t in
    let after = output_of t (g.W.Word.numbers a.out.now) in
    let both = count_noted a.numbers.now (g.W.Word.numbers a.out.now) after x _ c.read_text.ensures.answer _ c.read_text.ensures.output c.if-numbers-lt2.false _ c.note_count.ensures.result _ c.note_count.ensures.words in
    record { result = both.0; words = both.1.0; output = both.1.1 }
