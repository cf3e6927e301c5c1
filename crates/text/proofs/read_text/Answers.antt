-- `text::read_text` meets its contract: what the table holds is written as it is stored (`AnswerLaws`). Assumes nothing.
use mathlib.Core.Path.{refl, sym}
use native.Mathlib.Omega.{arith}
use Rattle.rule.specs.Nodes.{form_by}
use Rattle.rule.proofs.AnswerLaws.{handed_on}
use Rattle.rule.proofs.EachLaws.{length_each}
use Rattle.text.proofs.AnswerLaws.{width_by, good_by, filled_inside, filled_length, filled_room, filled_old, filled_stored, fitted, reads_kept, reads_written}
use Rattle.text.proofs.read_text.Goals as goal

pub fill_table-requires : goal.fill_table-requires
fill_table-requires g c = let e = c.most_nodes.ensures in let w = width_by g.W.Word.IS_WIDE in (omega arith, refl)

pub returns-in_err-n : goal.returns-in_err-n
returns-in_err-n g c =
    let b = g.W.Word.IS_WIDE in
    let x = fitted c.most_nodes.ensures (sym (length_each g.met.W.Word.each c.args.out.now)) c.in_err-n.ensures in
    let both = reads_kept (form_by b) (good_by b) c.args.text.now (g.W.Word.numbers c.args.out.now) x _
    (handed_on (λ n. n) c.from_residual.result c.in_err-n.field-0.0 c.from_residual.ensures.1) refl in
    record { answer = both.0; output = both.1.0; tells = both.1.1 }

pub slice_bounds-table-end : goal.slice_bounds-table-end
slice_bounds-table-end g c = filled_inside c.in_ok-n.ensures

pub put_rule-requires : goal.put_rule-requires
put_rule-requires g c =
    let x = c.in_ok-n.ensures in
    (filled_room x, filled_old g.W.Word.IS_WIDE (fitted c.most_nodes.ensures refl x))

pub returns : goal.returns
returns g c =
    let b = g.W.Word.IS_WIDE in
    let x = fitted c.most_nodes.ensures (sym (length_each g.met.W.Word.each c.args.out.now)) c.in_ok-n.ensures in
    let both = reads_written (form_by b) (good_by b) c.args.text.now (g.W.Word.numbers c.args.out.now) x refl (filled_length x) (filled_stored b x) c.put_rule.ensures in
    record { answer = both.0; output = both.1.0; tells = both.1.1 }
