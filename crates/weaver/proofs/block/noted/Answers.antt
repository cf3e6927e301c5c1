-- `weaver::block::noted` meets its contract: three of the seven sets (`NotedLaws.noted_is`). Assumes nothing.
use mathlib.Core.Path.{refl}
use Rattle.sets.proofs.SetLaws.{empty_is}
use Rattle.sets.specs.Sets.{set_of}
use Rattle.weaver.proofs.NotedLaws.{noted_is}
use Rattle.weaver.proofs.block.noted.Goals as goal

pub returns : goal.returns
returns c = noted_is (set_of c.args.m) (set_of c.args.w) (set_of c.args.c) _ empty_is empty_is empty_is empty_is refl refl refl
