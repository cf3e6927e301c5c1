-- `facts::learn_prior` meets its contract: two of the seven sets grow (`FactSetLaws`). Assumes nothing.
use mathlib.Core.Path.{refl, sym}
use mathlib.Core.Bool.{true, false}
use Rattle.spec.specs.Facts.{value_is, prior_is, kept_is_prior, work_is_next, work_is_prior, word_number}
use Rattle.spec.proofs.FactLaws.{facts_ext}
use Rattle.facts.specs.FactSets.{facts_of}
use Rattle.facts.proofs.FactSetLaws.{at_other, learn_first, learn_second}
use Rattle.facts.proofs.learn_prior.Goals as goal

pub returns : goal.returns
unfolding word_number
returns c = facts_ext _ _ (sym (at_other (facts_of c.args.x) (prior_is true) (prior_is false) c.args.yes c.args.no c.args.k (value_is true) refl refl)) (sym (at_other (facts_of c.args.x) (prior_is true) (prior_is false) c.args.yes c.args.no c.args.k (value_is false) refl refl)) (learn_first (facts_of c.args.x) (prior_is true) (prior_is false) c.args.yes c.args.no c.args.k _ c.requires refl c.with_if.ensures) (learn_second (facts_of c.args.x) (prior_is true) (prior_is false) c.args.yes c.args.no c.args.k _ c.requires refl c.with_if-2.ensures) (sym (at_other (facts_of c.args.x) (prior_is true) (prior_is false) c.args.yes c.args.no c.args.k kept_is_prior refl refl)) (sym (at_other (facts_of c.args.x) (prior_is true) (prior_is false) c.args.yes c.args.no c.args.k work_is_next refl refl)) (sym (at_other (facts_of c.args.x) (prior_is true) (prior_is false) c.args.yes c.args.no c.args.k work_is_prior refl refl))
