-- `checker::check_lines` meets its contract: questions 5 to 7, then 8 (`AskLaws`, `StrideLaws`). Assumes nothing.
use mathlib.Core.Path.{◌≡◌, sym, ap, ap₂, ◌∙◌}
use Prim.Native.Nat.{◌%◌}
use native.Mathlib.Omega.{arith}
use lib.Dec.{eqb}
use lib.ListN.{length}
use Rattle.spec.specs.Script.{annotated_opcode, check_code}
use Rattle.spec.specs.Check.{annotated_stored}
use Rattle.spec.proofs.QuestionLaws.{first_no, go_on}
use Rattle.rule.specs.Nodes.{form_by, table_in, words_in}
use Rattle.rule.proofs.AnswerLaws.{handed_on}
use Rattle.rule.proofs.EachLaws.{length_each}
use Rattle.script.specs.Lines.{strided}
use Rattle.script.proofs.StrideLaws.{annotated_is}
use Rattle.checker.proofs.PassLaws.{few_nodes}
use Rattle.checker.proofs.AskLaws.{grouped}
use Rattle.checker.proofs.check_lines.Goals as goal

pub belonging-most-requires : goal.belonging-most-requires
belonging-most-requires g c = few_nodes c.args.rule.now c.requires

pub check_code-requires : goal.check_code-requires
check_code-requires g c =
    let there = length_each g.met.W.Word.each c.args.script.now in
    let lines = c.count_lines.ensures in
    (omega arith, omega arith)

pub returns-in_err-check_code : goal.returns-in_err-check_code
returns-in_err-check_code g c =
    let no = handed_on (λ u. tt) c.from_residual.result c.in_err-check_code.field-0.0 c.from_residual.ensures.1 in
    let ws = words_in g.W.Word.IS_WIDE (g.W.Word.numbers c.args.script.now) in
    let code : strided (eqb (length c.args.script.now % 8) 0) 8 c.count_lines.result ws ≡ annotated_stored (form_by g.W.Word.IS_WIDE) (g.W.Word.numbers c.args.script.now) =
    ap₂ (λ m n. strided (eqb (m % 8) 0) 8 n ws) (sym (length_each g.met.W.Word.each c.args.script.now)) c.count_lines.ensures
    ∙ annotated_is g.W.Word.IS_WIDE (g.W.Word.numbers c.args.script.now) in
    let t = table_in c.args.rule.now in
    first_no _ _ _ _ _ no
    (no ∙ c.in_err-check_code.ensures t (grouped t c.belonging-most.result c.belonging-most.ensures) ∙ ap (check_code t annotated_opcode) code)

pub returns : goal.returns
returns g c =
    let ws = words_in g.W.Word.IS_WIDE (g.W.Word.numbers c.args.script.now) in
    let code : strided (eqb (length c.args.script.now % 8) 0) 8 c.count_lines.result ws ≡ annotated_stored (form_by g.W.Word.IS_WIDE) (g.W.Word.numbers c.args.script.now) =
    ap₂ (λ m n. strided (eqb (m % 8) 0) 8 n ws) (sym (length_each g.met.W.Word.each c.args.script.now)) c.count_lines.ensures
    ∙ annotated_is g.W.Word.IS_WIDE (g.W.Word.numbers c.args.script.now) in
    let t = table_in c.args.rule.now in
    go_on _ _ _ (sym (c.in_ok-check_code.ensures t (grouped t c.belonging-most.result c.belonging-most.ensures) ∙ ap (check_code t annotated_opcode) code))
    (c.ask_belonging.ensures t c.belonging-most.ensures)
