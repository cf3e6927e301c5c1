-- `numbers::states::registers_fit` meets its contract (`StateLaws.fits_fold`). Assumes nothing.
use mathlib.Core.Bool.{true, ◌&&◌}
use lib.Dec.{leb}
use Rattle.std.proofs.Common.{rules, tests}
use Rattle.std.proofs.lemmas.Iterator.{YieldsList-from_slice}
use Rattle.std.proofs.lemmas.Iterator.Consumers.{fold_from_yields_List}
use Rattle.numbers.proofs.StateLaws.{fits_fold}
use Rattle.numbers.proofs.states.registers_fit.Goals as goal

pub returns : goal.returns
returns c =
    fits_fold c.args.state.now c.requires c.fold.result (
    fold_from_yields_List _ (λ b w. b && leb w 65535) true _ c.fold.ensures.ran
    (YieldsList-from_slice _ c.iter.ensures.rest)
    (λ b x d q k. search (rules, tests))
    )
