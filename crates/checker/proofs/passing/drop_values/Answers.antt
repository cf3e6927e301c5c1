-- `checker::passing::drop_values` meets its contract: three sets are empty (`PassLaws.drop_is`). Assumes nothing.
use mathlib.Core.Path.{refl}
use Rattle.sets.proofs.SetLaws.{empty_is}
use Rattle.facts.specs.FactSets.{facts_of}
use Rattle.checker.proofs.PassLaws.{drop_is}
use Rattle.checker.proofs.passing.drop_values.Goals as goal

pub returns : goal.returns
returns c = drop_is (facts_of c.args.x) _ empty_is empty_is refl refl refl empty_is refl
