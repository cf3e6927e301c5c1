-- `finder::known::ask_known` meets its contract: question 19 is put to every line. Assumes nothing.
use Rattle.std.proofs.Common.{rules, ◌≡◌, sym, ℕ, Bool}
use Rattle.spec.specs.Check.{line_at, present_known}
use Rattle.largest.specs.Largest.{found_lines, question19}
use Rattle.rule.specs.Nodes.{table_in, form_in}
use Rattle.finder.proofs.known.ask_known.Goals as goal

pub returns : goal.returns
unfolding question19
returns c = let a = c.args in
    let ok : ℕ → Bool = λ l. present_known (table_in a.rule.now) (line_at (found_lines form_in a.rule.now a.code.now) l) in
    c.ask_each.ensures ok (λ l yes h p. let e : yes ≡ ok l = search rules in sym e)
