-- `script::line::ask_allowed` meets its contract: question 6 is put to every line, by its first word. Assumes nothing.
use Rattle.std.proofs.Common.{rules, ◌≡◌, ◌*◌, ◌∙◌, sym, true, get_or}
use Rattle.spec.specs.Script.{line_allowed, question6}
use Rattle.rule.specs.Nodes.{words_in}
use Rattle.script.specs.Lines.{opcodes_of, first_allowed, strided}
use Rattle.script.proofs.StrideLaws.{allowed_at}
use Rattle.script.proofs.line.ask_allowed.Goals as goal

pub returns : goal.returns
unfolding question6
returns g c = let a = c.args in let ws = words_in g.W.Word.IS_WIDE (g.W.Word.numbers a.script.now) in λ t k.
    c.ask_each.ensures (line_allowed t (opcodes_of a.opcodes) (strided true a.stride a.lines ws)) (λ l yes h p.
    let e : yes ≡ first_allowed t (opcodes_of a.opcodes) (get_or ws (a.stride * l) 0) = search rules in
    allowed_at t _ a.stride a.lines ws l ∙ sym e)
