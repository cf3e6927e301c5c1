-- `script::line::ask_followers` meets its contract: question 7 is put to every line, by its first word. Assumes nothing.
use Rattle.std.proofs.Common.{rules, ◌≡◌, ◌*◌, sym, get_or}
use Rattle.spec.specs.Script.{instruction_read, followers_exist, question7}
use Rattle.moves.specs.Moves.{narrow_word}
use Rattle.rule.specs.Nodes.{words_in}
use Rattle.script.proofs.line.ask_followers.Goals as goal

pub returns : goal.returns
unfolding question7 instruction_read
returns g c = let a = c.args in let ws = words_in g.W.Word.IS_WIDE (g.W.Word.numbers a.script.now) in
    c.ask_each.ensures (λ l. followers_exist a.lines l (instruction_read (narrow_word (get_or ws (a.stride * l) 0)))) (λ l yes h p.
    let e : yes ≡ followers_exist a.lines l (instruction_read (narrow_word (get_or ws (a.stride * l) 0))) = search rules in
    sym e)
