-- `facts::line::read_facts` meets its contract: the seven words in the order of `word_number` (`StoredLaws.facts_of_lem` of crate spec). Assumes nothing.
use mathlib.Core.Path.{sym, ◌∙◌}
use mathlib.Core.Bool.{true, false}
use Rattle.spec.specs.Facts.{value_is, prior_is, kept_is_prior, work_is_next, work_is_prior, word_number}
use Rattle.spec.proofs.FactLaws.{facts_ext}
use Rattle.rule.specs.Nodes.{form_by}
use Rattle.spec.proofs.StoredLaws.{facts_of_lem}
use Rattle.facts.proofs.line.read_facts.Goals as goal

pub returns : goal.returns
unfolding word_number
returns g c = let at = facts_of_lem (form_by g.W.Word.IS_WIDE) (g.W.Word.numbers c.args.script.now) c.args.l c.requires in
    facts_ext _ _ (c.read_set.ensures ∙ sym (at (value_is true))) (c.read_set-2.ensures ∙ sym (at (value_is false))) (c.read_set-3.ensures ∙ sym (at (prior_is true))) (c.read_set-4.ensures ∙ sym (at (prior_is false))) (c.read_set-5.ensures ∙ sym (at kept_is_prior)) (c.read_set-6.ensures ∙ sym (at work_is_next)) (c.read_set-7.ensures ∙ sym (at work_is_prior))
