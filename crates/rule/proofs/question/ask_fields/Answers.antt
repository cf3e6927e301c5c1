-- `rule::question::ask_fields` meets its contract: each node is asked. Assumes nothing.
use mathlib.Core.Path.{◌≡◌, sym, ap, ◌∙◌}
use borrow.Author.Rules.{rules}
use lib.ListN.{get_or}
use Rattle.spec.specs.Questions.{ask}
use Rattle.spec.specs.Rule.{fields_fit, question2}
use Rattle.rule.specs.Nodes.{form_by, words_in, fields_by}
use Rattle.rule.proofs.EachLaws.{length_each}
use Rattle.rule.proofs.EitherLaws.{fields_by_lem}
use Rattle.rule.proofs.question.ask_fields.Goals as goal

pub returns : goal.returns
unfolding question2
returns g c =
    let b = g.W.Word.IS_WIDE in
    let r = g.W.Word.numbers c.args.rule.now in
    let there = length_each g.met.W.Word.each c.args.rule.now in
    c.ask_each.ensures (λ k. fields_fit ((form_by b).read_node (get_or r k 0))) (λ k yes h p.
    let e : yes ≡ fields_fit (fields_by b (get_or (words_in b r) k 0)) = search rules in sym (e ∙ ap fields_fit (fields_by_lem b r k)))
    ∙ ap (λ n. ask 2 n (λ k. fields_fit ((form_by b).read_node (get_or r k 0)))) (sym there)
