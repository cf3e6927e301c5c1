-- `report::expected::stands` meets its contract: question 16 of the bytes put together. Assumes nothing.
use mathlib.Core.Path.{sym, ap, ◌∙◌}
use Rattle.rule.specs.Answers.{answer_of}
use Rattle.report.proofs.StandLaws.{stands_passed, stands_refused}
use Rattle.report.proofs.expected.stands.Goals as goal

pub returns-in-Ok : goal.returns-in-Ok
returns-in-Ok c =
    stands_passed c.args.text.now c.args.place c.min-n.result c.min-n.ensures c.args.bytes.now _ c.args.tried.now _ c.requires.0
    c.requires.1 c.requires.2 c.add_bytes-start.ensures _ _
    c.add_bytes-end.ensures (sym (ap answer_of c.in-Ok.is) ∙ c.ask_grammar.ensures)

pub returns-in-Err : goal.returns-in-Err
returns-in-Err c =
    stands_refused c.args.text.now c.args.place c.min-n.result c.min-n.ensures c.args.bytes.now _ c.args.tried.now _ c.requires.0
    c.requires.1 c.requires.2 c.add_bytes-start.ensures _ _
    c.add_bytes-end.ensures _ _ (sym (ap answer_of c.in-Err.is) ∙ c.ask_grammar.ensures)
