-- Each request starts later than the one before it.
use Rattle.std.proofs.Common.{◌-◌, ◌/◌, length}
use Rattle.listing_cases.proofs.requests_in.Given as goal

abbrev pub decreases-loop-at : goal.decreases-loop-at
decreases-loop-at g l = length l.s / 4 - l.at
