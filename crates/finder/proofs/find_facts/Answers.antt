-- `finder::find_facts` meets its contract: question by question, then the lines (`FoundLaws`). Assumes nothing.
use mathlib.Core.Path.{sym}
use lib.ListN.{length}
use native.Mathlib.Omega.{arith}
use Rattle.rule.proofs.AnswerLaws.{handed_on}
use Rattle.rule.proofs.EachLaws.{length_each}
use Rattle.finder.proofs.FoundLaws.{few_asked, asked_second, seven_no, no_19, no_13, found_all}
use Rattle.finder.proofs.SearchLaws.{few_lines, room_all}
use Rattle.finder.proofs.find_facts.Goals as goal

pub returns-in_err-check_instructions : goal.returns-in_err-check_instructions
returns-in_err-check_instructions g c =
    let both = seven_no g.W.Word.IS_WIDE (g.W.Word.numbers c.args.rule.now) c.args.instructions.now (g.W.Word.numbers c.args.out.now) _ _ _
    (handed_on (λ n. n) c.from_residual.result c.in_err-check_instructions.field-0.0 c.from_residual.ensures.1) (sym c.in_err-check_instructions.ensures) in
    record { answer = both.0; output = both.1.0; largest = both.1.1 }

pub in_second_form-table-requires : goal.in_second_form-table-requires
in_second_form-table-requires g c =
    omega (arith, length_each g.met.W.Word.each c.args.rule.now, few_asked g.W.Word.IS_WIDE (g.W.Word.numbers c.args.rule.now) c.args.instructions.now (sym c.in_ok-check_instructions.ensures))

pub find_in-requires : goal.find_in-requires
find_in-requires g c =
    let ws = c.args.instructions.now in
    let asked = asked_second g.W.Word.IS_WIDE (g.W.Word.numbers c.args.rule.now) ws (sym c.in_ok-check_instructions.ensures) c.in_second_form-table.result.now c.in_second_form-table.ensures in
    (asked, room_all (length ws) (few_lines c.in_second_form-table.result.now ws asked))

pub ask_known-requires : goal.ask_known-requires
ask_known-requires g c =
    let ws = c.args.instructions.now in
    let asked = asked_second g.W.Word.IS_WIDE (g.W.Word.numbers c.args.rule.now) ws (sym c.in_ok-check_instructions.ensures) c.in_second_form-table.result.now c.in_second_form-table.ensures in
    let few = few_lines c.in_second_form-table.result.now ws asked in
    let f = c.find_in.ensures in (asked, f.1, omega (arith, f.0, few, (room_all (length ws) few).words))

pub returns-in_err-ask_known : goal.returns-in_err-ask_known
returns-in_err-ask_known g c =
    let both = no_19 g.W.Word.IS_WIDE (g.W.Word.numbers c.args.rule.now) c.args.instructions.now (sym c.in_ok-check_instructions.ensures) c.in_second_form-table.result.now c.in_second_form-table.ensures
    (g.W.Word.numbers c.args.out.now) _ _ _
    (handed_on (λ n. n) c.from_residual-in_err-ask_known.result c.in_err-ask_known.field-0.0 c.from_residual-in_err-ask_known.ensures.1) (sym c.in_err-ask_known.ensures) in
    record { answer = both.0; output = both.1.0; largest = both.1.1 }

pub returns-then-out-instructions : goal.returns-then-out-instructions
returns-then-out-instructions g c =
    let both = no_13 g.W.Word.IS_WIDE (g.W.Word.numbers c.args.rule.now) c.args.instructions.now (sym c.in_ok-check_instructions.ensures) c.in_second_form-table.result.now c.in_second_form-table.ensures
    (g.W.Word.numbers c.args.out.now) (sym c.in_ok-ask_known.ensures) (omega (arith, length_each g.met.W.Word.each c.args.out.now, c.if-out-instructions.true)) in
    record { answer = both.0; output = both.1.0; largest = both.1.1 }

pub put_lines-requires : goal.put_lines-requires
put_lines-requires g c =
    let ws = c.args.instructions.now in
    let asked = asked_second g.W.Word.IS_WIDE (g.W.Word.numbers c.args.rule.now) ws (sym c.in_ok-check_instructions.ensures) c.in_second_form-table.result.now c.in_second_form-table.ensures in
    let few = few_lines c.in_second_form-table.result.now ws asked in
    let f = c.find_in.ensures in
    (omega (arith, f.0, (room_all (length ws) few).words), omega (arith, length_each g.met.W.Word.each c.args.out.now, c.if-out-instructions.false), few)

pub returns : goal.returns
returns g c =
    let lines = c.put_lines.ensures in
    let both = found_all g.W.Word.IS_WIDE (g.W.Word.numbers c.args.rule.now) c.args.instructions.now (sym c.in_ok-check_instructions.ensures) c.in_second_form-table.result.now c.in_second_form-table.ensures
    (g.W.Word.numbers c.args.out.now) (sym c.in_ok-ask_known.ensures) _ c.find_in.new.notes _
    (omega (arith, length_each g.met.W.Word.each c.args.out.now, c.if-out-instructions.false)) c.find_in.ensures.1 (λ l h. (c.type_inv.instructions l).fits) lines.0 lines.1 in
    record { answer = both.0; output = both.1.0; largest = both.1.1 }
