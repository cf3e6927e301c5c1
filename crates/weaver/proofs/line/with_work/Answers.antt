-- `weaver::line::with_work` meets its contract: one of the seven sets may grow (`GrowthLaws`). Assumes nothing.
use mathlib.Core.Bool.{true, false}
use mathlib.Core.Path.{refl}
use Rattle.spec.proofs.FactLaws.{facts_ext}
use Rattle.spec.specs.Facts.{value_is, prior_is, kept_is_prior, work_is_next, work_is_prior, word_number}
use Rattle.facts.specs.FactSets.{facts_of}
use Rattle.weaver.proofs.GrowthLaws.{one_other, one_own}
use Rattle.weaver.proofs.line.with_work.Goals as goal

pub returns : goal.returns
unfolding word_number
returns c = facts_ext _ _ (one_other (facts_of c.args.x) work_is_next c.args.k c.args.when (value_is true) refl) (one_other (facts_of c.args.x) work_is_next c.args.k c.args.when (value_is false) refl) (one_other (facts_of c.args.x) work_is_next c.args.k c.args.when (prior_is true) refl) (one_other (facts_of c.args.x) work_is_next c.args.k c.args.when (prior_is false) refl) (one_other (facts_of c.args.x) work_is_next c.args.k c.args.when kept_is_prior refl) (one_own (facts_of c.args.x) work_is_next c.args.k c.args.when _ c.requires c.with_if.ensures) (one_other (facts_of c.args.x) work_is_next c.args.k c.args.when work_is_prior refl)
