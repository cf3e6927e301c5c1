-- `station_requests::station_of` is safe and ends: 80 of the words are the rule's. Assumes nothing.
use native.Mathlib.Omega.{arith}
use lib.Seq.{length-take-le}
use Rattle.station_requests.proofs.station_of.Goals as goal

pub slice_bounds-first_of-end : goal.slice_bounds-first_of-end
slice_bounds-first_of-end g c = omega (arith, length-take-le 80 c.args.words.now (omega (arith, c.requires)))
