-- `checker::passing::pass_on` meets its contract: passed on, then closed, unless it is closed already (`PassLaws.stays_closed`). Assumes nothing.
use mathlib.Core.Path.{sym, ap, ◌∙◌}
use Rattle.spec.specs.Script.{instruction_of, instruction_read, names_allowed}
use Rattle.spec.specs.Facts.{close, pass}
use Rattle.rule.specs.Nodes.{table_in}
use Rattle.facts.specs.FactSets.{facts_of}
use Rattle.checker.proofs.PassLaws.{few_nodes, ordered, stays_closed}
use Rattle.checker.proofs.passing.pass_on.Goals as goal

pub pass_facts-y-requires : goal.pass_facts-y-requires
unfolding instruction_read
pass_facts-y-requires c =
    let a = c.args in
    (few_nodes a.rule.now c.requires.0, ap (λ f. names_allowed (table_in a.rule.now) (instruction_of f)) c.decode-i.ensures.fields ∙ c.requires.1)

pub returns-then-keeps_values : goal.returns-then-keeps_values
unfolding instruction_read
returns-then-keeps_values c =
    let a = c.args in
    let rule = a.rule.now in
    let t = table_in rule in
    c.pass_facts-y.ensures
    ∙ sym (stays_closed t (ordered rule c.requires.0) _ a.taken (facts_of a.x) (sym c.keeps_values.ensures ∙ c.if-keeps_values.true) c.requires.2)
    ∙ ap (λ f. close t (pass t (instruction_of f) a.taken (facts_of a.x))) c.decode-i.ensures.fields

pub close_facts-requires : goal.close_facts-requires
close_facts-requires c = few_nodes c.args.rule.now c.requires.0

pub returns : goal.returns
unfolding instruction_read
returns c =
    let a = c.args in
    let t = table_in a.rule.now in
    c.close_facts.ensures ∙ ap (close t) c.pass_facts-y.ensures
    ∙ ap (λ f. close t (pass t (instruction_of f) a.taken (facts_of a.x))) c.decode-i.ensures.fields
